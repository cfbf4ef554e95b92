-- Which field a text names.
use Rattle.std.specs.Prelude.{ℕ, zero, suc, List}
use Rattle.algebra.specs.Meaning.{Meaning}
use Rattle.algebra.specs.Shift.{shift}
use Rattle.algebra.specs.PowerTable.{power_table}
use Rattle.algebra.specs.Tower.{tower}
use Rattle.named.specs.declared.layer.Layer.TheVariants.{Shift, Table}
use Rattle.named.specs.declared.misnamed.Misnamed.{Misnamed}
use Rattle.named.specs.declared.misnamed.Misnamed.TheVariants.{TooManyTowers}
use Rattle.named.specs.declared.storey.Storey.{Storey}
use Rattle.named.specs.declared.storey.Storey.TheVariants.{Zero, One, Two, Three}
use Rattle.named.specs.Layers.{OnTop, Says, Faulty}

-- the text is the name of the field
pub data Names : List ℕ → Meaning → Type 0 where
  of_shift : (text : List ℕ) (p : ℕ) → Says text (Shift p) → Names text (shift p)
  of_table : (text : List ℕ) (p g : ℕ) → Says text (Table p g) → Names text (power_table p g)
  of_tower : (text below : List ℕ) (c : ℕ) (M : Meaning) → OnTop text c below → Names below M → Names text (tower M c)

-- why it is the name of none with at most so many towers
pub data Misnames : ℕ → List ℕ → Misnamed → Type 0 where
  at_once : (n : ℕ) (text : List ℕ) (why : Misnamed) → Faulty text why → Misnames n text why
  in_below : (n : ℕ) (text below : List ℕ) (c : ℕ) (why : Misnamed) → OnTop text c below → Misnames n below why → Misnames (suc n) text why
  one_more : (text below : List ℕ) (c : ℕ) → OnTop text c below → Misnames zero text TooManyTowers

-- how many towers stand on a field that is chosen while the program runs
abbrev pub height : Storey → ℕ
height (Zero f) = 0
height (One t) = 1
height (Two t) = 2
height (Three t) = 3
