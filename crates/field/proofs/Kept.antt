-- What a shift field keeps, against its meaning.
-- Assumes nothing.
use Rattle.std.proofs.Common.{◌≡◌, ℕ, ◌%◌, ◌^◌, ◌<◌, true, false, length, sym, refl, ap, ◌∙◌, subst, ap₂}
use Rattle.std.specs.Option.{MatchOption}
use lib.Bits.{bit_and, and_mask, mask_lt}
use Rattle.algebra.specs.Tuples.{times}
use Rattle.algebra.specs.Bits.{two, bits, number}
use Rattle.algebra.specs.Meaning.{Meaning, as_code, dead}
use Rattle.algebra.specs.Shift.{in_range, degree, shift_product, shift_by, shift}
use Rattle.algebra.proofs.Tuples.{length_times}
use Rattle.algebra.proofs.Bits.{length_bits, number_lt}
use Rattle.algebra.proofs.Degree.{shift_live}
use Rattle.field.specs.declared.polynomial.Polynomial.{Polynomial}
use Rattle.field.specs.declared.shift_value.Shift.{Shift}
use Rattle.field.proofs.Answers.{answered, settled}
use Rattle.field.specs.declared.residues.Residues.{Residues}

pub live : (p : Polynomial) → shift p.coefficients ≡ shift_by true p.coefficients
live p = shift_live p.coefficients p.low p.high

pub width_is : (p : Polynomial) → p.width ≡ (shift p.coefficients).width
unfolding shift_by
width_is p = p.measured ∙ sym (ap (λ M. M.width) (live p))

-- an operand less its high bits
pub low_is : (s : Residues) (a : ℕ) → bit_and a s.mask ≡ a % 2 ^ degree s.modulus.coefficients
low_is s a = ap (bit_and a) s.masked ∙ and_mask a s.modulus.width ∙ ap (λ w. a % 2 ^ w) s.modulus.measured

pub operand_lt : (s : Residues) (a : ℕ) → bit_and a s.mask < 2 ^ s.modulus.width
operand_lt s a = subst (λ z. bit_and a z < 2 ^ s.modulus.width) (sym s.masked) (mask_lt a s.modulus.width)

pub product_is : (s : Residues) (a b : ℕ)
    → number (times two (bits s.modulus.width s.modulus.coefficients) (bits s.modulus.width (bit_and a s.mask)) (bits s.modulus.width (bit_and b s.mask)))
    ≡ (shift s.modulus.coefficients).product (as_code (shift s.modulus.coefficients) a) (as_code (shift s.modulus.coefficients) b)
unfolding as_code shift_by shift_product
product_is s a b =
    let p = s.modulus.coefficients in
    ap (λ w. number (times two (bits w p) (bits w (bit_and a s.mask)) (bits w (bit_and b s.mask)))) s.modulus.measured
    ∙ ap₂ (λ x y. number (times two (bits (degree p) p) (bits (degree p) x) (bits (degree p) y))) (low_is s a) (low_is s b)
    ∙ sym (ap (λ M. M.product (as_code M a) (as_code M b)) (live s.modulus))

-- a product modulo a modulus of degree w is below 2^w
pub product_lt : (w m n a b : ℕ) → number (times two (bits w m) (bits n a) (bits w b)) < 2 ^ w
product_lt w m n a b =
    let t = times two (bits w m) (bits n a) (bits w b) in
    let h : length t ≡ w = length_times two (bits w m) (bits n a) (bits w b) (length_bits w b ∙ sym (length_bits w m)) ∙ length_bits w m in
    subst (λ n. number t < 2 ^ n) h (number_lt t)

-- what is asked of a shift field is asked of the polynomial that is kept, or of the dead field
pub shift_answer : {R : Type 0} (get : Meaning → R) (s : Shift) (r : R)
    → MatchOption s.residues (r ≡ get dead) (λ x. r ≡ get (shift x.modulus.coefficients)) → r ≡ get (shift s.number)
unfolding shift shift_by
shift_answer get s r is =
    let p = s.number in
    answered s.residues (λ x. x.modulus.coefficients) (in_range p) p (λ n. get (shift n)) (get dead) r s.made is
    ∙ settled (in_range p) (get (shift p)) (get dead) (λ e. ap (λ b. get (shift_by b p)) e)

pub one_is : (p : ℕ) → 1 ≡ (shift p).one
unfolding shift shift_by dead
one_is p = elim (in_range p) as (λ b. 1 ≡ (shift_by b p).one) [ true ↦ refl | false ↦ refl ]
