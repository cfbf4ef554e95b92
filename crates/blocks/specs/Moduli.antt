-- What a modulus stands for.
use Rattle.std.specs.Prelude.{◌≡◌, ℕ, Bool, true, List, take, Decides}
use Rattle.algebra.specs.Arithmetic.{Arithmetic, Lawful, Returns}
use Rattle.algebra.specs.Blocks.{Codes}
use Rattle.algebra.specs.Iteration.{iterate}
use Rattle.algebra.specs.Meaning.{Meaning, on_bytes}
use Rattle.algebra.specs.Modular.{variable, modular, ModulusRule}
use Rattle.blocks.specs.Rooms.{rows_in}
use Rattle.blocks.specs.declared.modulus_value.Modulus.{Modulus}

-- its low coefficients
abbrev pub coefficients : Modulus → List ℕ
coefficients p = take p.size p.low

-- the rows that it keeps
abbrev pub kept_rows : Modulus → List (List ℕ)
kept_rows p = rows_in p.size p.rows

-- arithmetic modulo it over a field, with the q-th power by the rows that it keeps
abbrev pub arithmetic_of : Meaning → Modulus → Arithmetic
arithmetic_of M p = modular M (coefficients p) (kept_rows p)

-- what an answer says of a modulus: whether the q-th power, v times over, leaves X; in lawful arithmetic, whether the modulus follows its rule; and
-- where it does, every block is its own q^v-th power
pub record RuleVerdict (M : Meaning) (p : Modulus) (r : Bool) : Type 0 where
  pub test : Decides r (iterate (arithmetic_of M p).q_power (arithmetic_of M p).size (variable (on_bytes M) (coefficients p)) ≡ variable (on_bytes M) (coefficients p))
  pub rule : Lawful (arithmetic_of M p) → Codes M (coefficients p) → Decides r (ModulusRule M (coefficients p))
  pub returns : Lawful (arithmetic_of M p) → Codes M (coefficients p) → r ≡ true → Returns (arithmetic_of M p)
