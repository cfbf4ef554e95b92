-- Division of polynomials over two elements, of degree up to 8.
use Rattle.std.specs.Prelude.{ℕ, Bool, ◌&&◌, nat_eq, nat_lt}
use Rattle.algebra.specs.Bits.{two, bits, number}
use Rattle.algebra.specs.Shift.{degree}
use Rattle.algebra.specs.Tuples.{times}

-- the remainder of p on division by d: p times one, modulo d
unfoldable pub remainder : ℕ → ℕ → ℕ
remainder d p = number (times two (bits (degree d) d) (bits 9 p) (bits (degree d) 1))

-- d has a lower degree than p and divides it
unfoldable pub divides : ℕ → ℕ → Bool
divides d p = nat_lt (degree d) (degree p) && nat_eq (remainder d p) 0
