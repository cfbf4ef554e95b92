-- What the first word of a field's name, and the numbers behind it, say.
use Rattle.std.specs.Prelude.{◌≡◌, ℕ, List, ◌++◌, codes}
use Rattle.named.specs.Numbers.{Reads, Begins, TwoNumbers}
use Rattle.named.specs.declared.layer.Layer.{Layer}
use Rattle.named.specs.declared.layer.Layer.TheVariants.{Shift, Table, Tower}
use Rattle.named.specs.declared.misnamed.Misnamed.{Misnamed}
use Rattle.named.specs.declared.misnamed.Misnamed.TheVariants.{UnknownMake, ShiftNumber, TableNumbers, TowerNumber, TooManyTowers}

-- the text begins with that word
abbrev pub After : List ℕ → List ℕ → List ℕ → Type 0
After word text rest = text ≡ word ++ rest

-- `tower`, a number and the name of the field below
abbrev pub OnTop : List ℕ → ℕ → List ℕ → Type 0
OnTop text c below = (rest : List ℕ) × After (codes "tower ") text rest × Begins rest c below

-- `shift` and a number, `table` and two numbers, or a tower
abbrev pub Says : List ℕ → Layer → Type 0
Says text (Shift p) = (rest : List ℕ) × After (codes "shift ") text rest × Reads rest p
Says text (Table p g) = (rest : List ℕ) × After (codes "table ") text rest × TwoNumbers rest p g
Says text (Tower c below) = OnTop text c below.now

-- why a text says nothing of the kind
abbrev pub Faulty : List ℕ → Misnamed → Type 0
Faulty text UnknownMake =
    ((rest : List ℕ) → After (codes "shift ") text rest → ⊥) × ((rest : List ℕ) → After (codes "table ") text rest → ⊥) × ((rest : List ℕ) → After (codes "tower ") text rest → ⊥)
Faulty text ShiftNumber = (rest : List ℕ) × After (codes "shift ") text rest × ((p : ℕ) → Reads rest p → ⊥)
Faulty text TableNumbers = (rest : List ℕ) × After (codes "table ") text rest × ((p g : ℕ) → TwoNumbers rest p g → ⊥)
Faulty text TowerNumber = (rest : List ℕ) × After (codes "tower ") text rest × ((c : ℕ) (below : List ℕ) → Begins rest c below → ⊥)
Faulty text TooManyTowers = ⊥
