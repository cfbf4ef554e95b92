-- Fields that multiply alike.
use Rattle.std.specs.Prelude.{◌≡◌, ℕ, true}
use Rattle.algebra.specs.Meaning.{Meaning, Shape, Laws, IsCode}
use Rattle.algebra.specs.Shift.{shift}
use Rattle.algebra.specs.PowerTable.{power_table}

-- the same width, and the same product of every two codes
pub record Alike (M N : Meaning) : Type 0 where
  pub widths : M.width ≡ N.width
  pub products : (a b : ℕ) → IsCode M a → IsCode M b → M.product a b ≡ N.product a b

-- two fields that are alike and keep the laws have one one
abbrev pub SameOne : Type 0
SameOne = (M N : Meaning) → Shape M → Shape N → Laws M → Laws N → Alike M N → M.one ≡ N.one

-- a sound power-table field multiplies as the shift field of its number
abbrev pub TableAlike : Type 0
TableAlike = (p g : ℕ) → (power_table p g).sound ≡ true → Alike (power_table p g) (shift p)
