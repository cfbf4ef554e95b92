-- The shift field: polynomials over two elements modulo the polynomial of a number p.
-- A number is read as a polynomial over two elements: bit i is the coefficient of X^i. The sum of two is their bitwise exclusive or.
use Rattle.std.specs.Prelude.{◌≡◌, ℕ, zero, suc, ◌^◌, ◌<◌, ◌≤◌, Bool, true, false, cond, not, ◌&&◌, bit_xor, nat_eq, nat_le}
use Rattle.algebra.specs.Meaning.{Meaning, dead}
use Rattle.algebra.specs.Search.{some_below}
use Rattle.algebra.specs.Tuples.{times}
use Rattle.algebra.specs.Polynomials.{poly_product}
use Rattle.algebra.specs.Bits.{two, bits, number}

-- the plain product of two polynomials, each a number; n bits are enough for a number n
unfoldable pub binary_product : ℕ → ℕ → ℕ
binary_product a b = number (poly_product two (bits a a) (bits b b))

-- the position of the highest set bit of p, if that is at most n: the largest i up to n with 2^i ≤ p
unfoldable pub highest_bit : ℕ → ℕ → ℕ
highest_bit zero p = 0
highest_bit (suc n) p = cond (nat_le (2 ^ suc n) p) (suc n) (highest_bit n p)

-- the degree of p, for p up to 511
unfoldable pub degree : ℕ → ℕ
degree p = highest_bit 8 p

-- p is the product of two polynomials of lower degree
unfoldable pub splits : ℕ → Bool
splits p = some_below (2 ^ degree p) (λ a. some_below (2 ^ degree p) (λ b. nat_eq (binary_product a b) p))

-- the product of two codes modulo p
unfoldable pub shift_product : ℕ → ℕ → ℕ → ℕ
shift_product p a b = let m = degree p in number (times two (bits m p) (bits m a) (bits m b))

-- the numbers that a shift field can be made from
unfoldable pub in_range : ℕ → Bool
in_range p = nat_le 2 p && nat_le p 511

-- the shift field where p can make one, and the dead field where it cannot
unfoldable pub shift_by : Bool → ℕ → Meaning
shift_by false p = dead
shift_by true p = record { width = degree p; one = 1; product = shift_product p; sound = not (splits p) }

-- the shift field of p
unfoldable pub shift : ℕ → Meaning
shift p = shift_by (in_range p) p

-- n is a multiple of the polynomial p
unfoldable pub Multiple : ℕ → ℕ → Type 0
Multiple p n = (k : ℕ) × (n ≡ binary_product k p)

-- a product of codes is the remainder of their plain product: the only code that differs from it by a multiple of p
abbrev pub ShiftRemainder : Type 0
ShiftRemainder =
    (p a b r : ℕ) → 2 ≤ p → p ≤ 511 → a < 2 ^ degree p → b < 2 ^ degree p → r < 2 ^ degree p
    → (Multiple p (bit_xor (binary_product a b) r) → r ≡ (shift p).product a b)
    × (r ≡ (shift p).product a b → Multiple p (bit_xor (binary_product a b) r))
