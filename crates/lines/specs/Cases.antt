-- What cases say.
use Rattle.std.specs.Prelude.{◌≡◌, ℕ, ◌<◌, ◌≤◌, Bool, true, List, ◌++◌, length, codes, ⊤}
use Rattle.algebra.specs.Affine.{OneToOne}
use Rattle.algebra.specs.Arithmetic.{Arithmetic}
use Rattle.algebra.specs.BlockSteps.{forward_step, back_step}
use Rattle.algebra.specs.Meaning.{Meaning, as_code}
use Rattle.algebra.specs.Modular.{modular, q_rows}
use Rattle.blocks.specs.Maps.{size_of, image, MapCodes, UndoneBy}
use Rattle.blocks.specs.Moduli.{coefficients, kept_rows, RuleVerdict}
use Rattle.blocks.specs.declared.affine_value.AffineMap.{AffineMap}
use Rattle.blocks.specs.declared.modulus_value.Modulus.{Modulus}
use Rattle.named.specs.Names.{Names}
use Rattle.lines.specs.declared.case.BlockCase.{BlockCase}
use Rattle.lines.specs.declared.case.Case.{Case}
use Rattle.lines.specs.declared.case.Case.TheVariants.{Field, Rule, Blocks, Apply, Solve, Singular}
use Rattle.lines.specs.declared.case.FieldCase.{FieldCase}
use Rattle.lines.specs.declared.case.FieldCase.TheVariants.{Product, Width, One, Sound}
use Rattle.lines.specs.declared.case.MapCase.{MapCase}
use Rattle.lines.specs.declared.case.Step.{Step}
use Rattle.lines.specs.declared.case.Step.TheVariants.{Multiply, Square, Frobenius, Forward, Back}
use Rattle.lines.specs.CaseText.{Says}
use Rattle.lines.specs.Scaled.{scaled}
use Rattle.lines.specs.Words.{ByteThen}

-- of a field: what it answers
abbrev pub FieldHolds : Meaning → FieldCase → Type 0
FieldHolds M (Product a b product) = M.product (as_code M a) (as_code M b) ≡ product
FieldHolds M (Width width) = M.width ≡ width
FieldHolds M (One one) = M.one ≡ one
FieldHolds M (Sound sound) = M.sound ≡ sound

-- the modulus with these coefficients, made over a field
pub record ModulusOf (M : Meaning) (low : List ℕ) (p : Modulus) : Type 0 where
  pub low_is : coefficients p ≡ low
  pub rows_are : kept_rows p ≡ q_rows M low

-- of a modulus: whether it follows the rule
abbrev pub RuleHolds : Meaning → List ℕ → Bool → Type 0
RuleHolds M low kept = (p : Modulus) × ModulusOf M low p × RuleVerdict M p kept

-- a block after a step
abbrev pub stepped : Arithmetic → Step → List ℕ → List ℕ
stepped A (Multiply factor) block = A.product factor block
stepped A Square block = A.product block block
stepped A Frobenius block = A.q_power block
stepped A (Forward t) block = forward_step A t block
stepped A (Back l t) block = back_step A l t block

-- whether a step is one on blocks of that size
abbrev pub StepFits : ℕ → Step → Type 0
StepFits size (Multiply factor) = length factor ≡ size
StepFits size Square = ⊤
StepFits size Frobenius = ⊤
StepFits size (Forward t) = ⊤
StepFits size (Back l t) = (1 ≤ l) × (1 ≤ t) × (t < size)

-- of a step: what it makes of a block
abbrev pub BlockHolds : Meaning → BlockCase → Type 0
BlockHolds M case = stepped (modular M case.modulus (q_rows M case.modulus)) case.step case.block ≡ case.result

-- of a map: the image of a block
abbrev pub MapHolds : Meaning → MapCase → Type 0
MapHolds M case = image M case.map case.block ≡ case.image

-- and that it has an inverse, which sends the image back
pub record SolveHolds (M : Meaning) (case : MapCase) : Type 0 where
  pub again : MapHolds M case
  pub inverse : AffineMap
  pub back : image M inverse case.image ≡ case.block
  pub undone : M.sound ≡ true → MapCodes M case.map → UndoneBy M case.map inverse

-- of a map: that it has no inverse, since it is not one to one
abbrev pub SingularHolds : Meaning → AffineMap → Type 0
SingularHolds M map = M.sound ≡ true → MapCodes M map → OneToOne M (size_of map) (image M map) → ⊥

-- what each case says
abbrev pub Holds : Meaning → Case → Type 0
Holds M (Field case) = FieldHolds M case
Holds M (Rule modulus kept) = RuleHolds M modulus kept
Holds M (Blocks case) = BlockHolds M case
Holds M (Apply case) = MapHolds M case
Holds M (Solve case) = SolveHolds M case
Holds M (Singular map) = SingularHolds M map

-- the name of a field, or `scaled`, a factor, a one and the name of the field below
pub data NamesAny : List ℕ → Meaning → Type 0 where
  plain : (text : List ℕ) (M : Meaning) → Names text M → NamesAny text M
  over : (text rest s below : List ℕ) (factor one : ℕ) (M : Meaning) → text ≡ codes "scaled " ++ rest → ByteThen rest factor s → ByteThen s one below
      → Names below M → NamesAny text (scaled M factor one)

-- the line says of a field by its name what is so
pub record FieldLineHolds (line : List ℕ) : Type 0 where
  pub case : FieldCase
  pub name : List ℕ
  pub M : Meaning
  pub says : Says line (Field case) name
  pub names : Names name M
  pub holds : FieldHolds M case

-- the same of any case, and of scaled fields too
pub record LineHolds (line : List ℕ) : Type 0 where
  pub case : Case
  pub name : List ℕ
  pub M : Meaning
  pub says : Says line case name
  pub names : NamesAny name M
  pub holds : Holds M case
