-- Cases as lines have them: a word for the kind, what it takes, and behind that the name of a field.
use Rattle.std.specs.Prelude.{◌≡◌, ℕ, true, false, List, length, take, drop, codes}
use Rattle.blocks.specs.Maps.{size_of, constants_of, rows_of}
use Rattle.blocks.specs.Rooms.{parts}
use Rattle.blocks.specs.declared.affine_value.AffineMap.{AffineMap}
use Rattle.lines.specs.declared.case.BlockCase.{BlockCase}
use Rattle.lines.specs.declared.case.Case.{Case}
use Rattle.lines.specs.declared.case.Case.TheVariants.{Field, Rule, Blocks, Apply, Solve, Singular}
use Rattle.lines.specs.declared.case.FieldCase.{FieldCase}
use Rattle.lines.specs.declared.case.FieldCase.TheVariants.{Product, Width, One, Sound}
use Rattle.lines.specs.declared.case.MapCase.{MapCase}
use Rattle.lines.specs.declared.case.Step.{Step}
use Rattle.lines.specs.declared.case.Step.TheVariants.{Multiply, Square, Frobenius, Forward, Back}
use Rattle.lines.specs.Words.{WordThen, ByteThen, BytesThen, BlockThen}

-- of a field alone: `product` and three bytes, `width` or `one` and a byte, `sound`, or `unsound`
abbrev pub FieldCaseThen : List ℕ → List ℕ → FieldCase → List ℕ → Type 0
FieldCaseThen kind text (Product a b product) rest =
    (kind ≡ codes "product") × (s : List ℕ) × (t : List ℕ) × ByteThen text a s × ByteThen s b t × ByteThen t product rest
FieldCaseThen kind text (Width width) rest = (kind ≡ codes "width") × ByteThen text width rest
FieldCaseThen kind text (One one) rest = (kind ≡ codes "one") × ByteThen text one rest
FieldCaseThen kind text (Sound true) rest = (kind ≡ codes "sound") × (text ≡ rest)
FieldCaseThen kind text (Sound false) rest = (kind ≡ codes "unsound") × (text ≡ rest)

-- a step: `multiply`, a modulus and a factor, `square` or `frobenius` and a modulus, `forward`, t and a modulus, or `back`, l, t and a modulus
abbrev pub StepThen : List ℕ → List ℕ → Step → List ℕ → List ℕ → Type 0
StepThen kind text (Multiply factor) modulus rest = (kind ≡ codes "multiply") × (s : List ℕ) × BlockThen text modulus s × BlockThen s factor rest
StepThen kind text Square modulus rest = (kind ≡ codes "square") × BlockThen text modulus rest
StepThen kind text Frobenius modulus rest = (kind ≡ codes "frobenius") × BlockThen text modulus rest
StepThen kind text (Forward t) modulus rest = (kind ≡ codes "forward") × (s : List ℕ) × ByteThen text t s × BlockThen s modulus rest
StepThen kind text (Back l t) modulus rest =
    (kind ≡ codes "back") × (s : List ℕ) × (u : List ℕ) × ByteThen text l s × ByteThen s t u × BlockThen u modulus rest

-- a step, a block and the block after it
abbrev pub BlockCaseThen : List ℕ → List ℕ → BlockCase → List ℕ → Type 0
BlockCaseThen kind text case rest =
    (s : List ℕ) × (t : List ℕ) × StepThen kind text case.step case.modulus s × BlockThen s case.block t × BlockThen t case.result rest

-- the map on blocks of a size that has these bytes: its constants, and then its rows
pub record MapOf (bytes : List ℕ) (size : ℕ) (map : AffineMap) : Type 0 where
  pub size_is : size_of map ≡ size
  pub constants : constants_of map ≡ take size bytes
  pub rows : rows_of map ≡ parts size size (drop size bytes)

-- the bytes of a map, a block and its image
abbrev pub MapCaseThen : List ℕ → MapCase → List ℕ → Type 0
MapCaseThen text case rest =
    (bytes : List ℕ) × (s : List ℕ) × (t : List ℕ) × BytesThen text bytes s × BlockThen s case.block t × BlockThen t case.image rest
    × MapOf bytes (length case.block) case.map

-- the bytes of a map, and the size of its blocks
abbrev pub MapThen : List ℕ → AffineMap → List ℕ → Type 0
MapThen text map rest = (bytes : List ℕ) × (size : ℕ) × (s : List ℕ) × BytesThen text bytes s × ByteThen s size rest × MapOf bytes size map

-- of a field alone, or `rule` or `no-rule` and a modulus, or a step on blocks, or `apply`, `solve` or `singular` and a map
abbrev pub CaseThen : List ℕ → List ℕ → Case → List ℕ → Type 0
CaseThen kind text (Field case) rest = FieldCaseThen kind text case rest
CaseThen kind text (Rule modulus true) rest = (kind ≡ codes "rule") × BlockThen text modulus rest
CaseThen kind text (Rule modulus false) rest = (kind ≡ codes "no-rule") × BlockThen text modulus rest
CaseThen kind text (Blocks case) rest = BlockCaseThen kind text case rest
CaseThen kind text (Apply case) rest = (kind ≡ codes "apply") × MapCaseThen text case rest
CaseThen kind text (Solve case) rest = (kind ≡ codes "solve") × MapCaseThen text case rest
CaseThen kind text (Singular map) rest = (kind ≡ codes "singular") × MapThen text map rest

-- the line is such a case and a name
abbrev pub Says : List ℕ → Case → List ℕ → Type 0
Says line case name = (kind : List ℕ) × (rest : List ℕ) × WordThen line kind rest × CaseThen kind rest case name
