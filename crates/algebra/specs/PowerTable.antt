-- The power-table field: products by looking logarithms up in a table of the powers of a code g under the shift product of p.
use Rattle.std.specs.Prelude.{ℕ, ◌+◌, ◌-◌, ◌%◌, ◌^◌, Bool, true, false, cond, not, ◌&&◌, ◌==◌, nat_eq, nat_lt}
use Rattle.algebra.specs.Operations.{power}
use Rattle.algebra.specs.Meaning.{Meaning, operations, low_bits, dead}
use Rattle.algebra.specs.Search.{some_below, first_from}
use Rattle.algebra.specs.Shift.{degree, in_range, shift}

-- how many places the table has
unfoldable pub places : ℕ → ℕ
places p = 2 ^ degree p - 1

-- what stands at a place: that many copies of g, of which the low bits count
unfoldable pub entry : ℕ → ℕ → ℕ → ℕ
entry p g k = power (operations (shift p)) (low_bits (degree p) g) k

-- the logarithm of a code: the lowest place where it stands, or the number of places if it stands nowhere
unfoldable pub logarithm : ℕ → ℕ → ℕ → ℕ
logarithm p g a = first_from 0 (places p) (λ k. nat_eq (entry p g k) a)

-- the code is not 0 and has a logarithm
unfoldable pub stands : ℕ → ℕ → ℕ → Bool
stands p g a = not (a == 0) && nat_lt (logarithm p g a) (places p)

-- the entry at the sum of the logarithms, or 0
unfoldable pub table_product : ℕ → ℕ → ℕ → ℕ → ℕ
table_product p g a b = cond (stands p g a && stands p g b) (entry p g ((logarithm p g a + logarithm p g b) % places p)) 0

-- every code but 0 stands in the table
unfoldable pub full : ℕ → ℕ → Bool
full p g = not (some_below (places p) (λ k. not (stands p g (k + 1))))

-- the power-table field where p can make one, and the dead field where it cannot
unfoldable pub table_by : Bool → ℕ → ℕ → Meaning
table_by false p g = dead
table_by true p g = record { width = degree p; one = 1; product = table_product p g; sound = full p g }

-- the power-table field of p and g
unfoldable pub power_table : ℕ → ℕ → Meaning
power_table p g = table_by (in_range p) p g
