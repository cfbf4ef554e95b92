-- Codes as tuples of bits: the codes of a shift field, sound or not, stand for the quotient over two elements, and their product is the remainder.
-- Assumes nothing.
use Rattle.std.proofs.Common.{◌≡◌, ℕ, ◌+◌, ◌-◌, ◌*◌, ◌%◌, ◌^◌, ◌<◌, ◌≤◌, Bool, true, List, length, sym, refl, ap, ◌∙◌, subst, ap₂, pow-suc, arith, pow_mono}
use lib.Bits.{bit_xor}
use lib.Pow.{low}
use Rattle.algebra.specs.Operations.{Ring2}
use Rattle.algebra.specs.Tuples.{zeros, unit, times}
use Rattle.algebra.specs.Polynomials.{poly_sum, poly_product, monic, Congruent, Same}
use Rattle.algebra.specs.Bits.{two, bits, number}
use Rattle.algebra.specs.Shift.{binary_product, degree, shift_product, shift_by, shift, Multiple, ShiftRemainder}
use Rattle.algebra.proofs.Tuples.{length_times}
use Rattle.algebra.proofs.Quotient.{Tuple, same_tuple, quotient, quotient_ring}
use Rattle.algebra.proofs.Polynomials.{only_remainder}
use Rattle.algebra.proofs.Bits.{two_ring, length_bits, number_bits, number_of_code, number_lt, bits_number, bits_plus, bits_zero, bits_one}
use Rattle.algebra.proofs.Binary.{below_power, number_sum, number_product, same_of_number, number_of_same, number_monic}
use Rattle.algebra.proofs.Degree.{degree_is, degree_positive, shift_live}
use Rattle.algebra.proofs.Carried.{Carried}

module _ (p : ℕ) where
  -- the modulus of p, less its leading term
  abbrev pub modulus : List Bool
  modulus = bits (degree p) p

  unfoldable pub tuple : ℕ → Tuple Bool (length modulus)
  tuple a = (bits (degree p) a, length_bits (degree p) a ∙ sym (length_bits (degree p) p))

  unfoldable pub code : Tuple Bool (length modulus) → ℕ
  code t = number t.0

  pub tuple_code : (t : Tuple Bool (length modulus)) → tuple (code t) ≡ t
  unfolding tuple code
  tuple_code t = same_tuple _ _ (bits_number t.0 (degree p) (t.1 ∙ length_bits (degree p) p))

  pub code_tuple : (a : ℕ) → a < 2 ^ degree p → code (tuple a) ≡ a
  unfolding tuple code
  code_tuple a h = number_of_code (degree p) a h

  pub code_lt : (t : Tuple Bool (length modulus)) → code t < 2 ^ degree p
  unfolding code
  code_lt t = subst (λ n. number t.0 < 2 ^ n) (t.1 ∙ length_bits (degree p) p) (number_lt t.0)

  pub product_code : (a b : ℕ) → shift_product p a b ≡ code ((quotient two modulus).mul (tuple a) (tuple b))
  unfolding shift_product code tuple quotient
  product_code a b = refl

  pub tuple_sum : (a b : ℕ) → tuple (bit_xor a b) ≡ (quotient two modulus).add (tuple a) (tuple b)
  unfolding tuple quotient
  tuple_sum a b = same_tuple _ _ (bits_plus (degree p) a b)

  pub tuple_zero : tuple 0 ≡ (quotient two modulus).nil
  unfolding tuple quotient
  tuple_zero = same_tuple _ _ (bits_zero (degree p) ∙ ap (zeros two) (sym (length_bits (degree p) p)))

  pub tuple_one : tuple 1 ≡ (quotient two modulus).one
  unfolding tuple quotient
  tuple_one = same_tuple _ _ (bits_one (degree p) ∙ ap (unit two) (sym (length_bits (degree p) p)))

  pub ring : Ring2 (quotient two modulus)
  ring = quotient_ring two_ring modulus

  -- ---- the product is the remainder

  module _ (lo : 2 ≤ p) (hi : p ≤ 511) where
    number_modulus : number (monic two modulus) ≡ p
    number_modulus =
        let h = degree_is p lo hi in
        let d = degree p in
        let g = p - 2 ^ d in
        let g-lt : g < 2 ^ d = omega (arith, pow-suc 2 d, h.reaches, h.stays_below) in
        let p-is : 1 * 2 ^ d + g ≡ p = omega (arith, h.reaches) in
        let low_is : p % 2 ^ d ≡ g = ap (λ z. z % 2 ^ d) (sym p-is) ∙ low 1 d g-lt in
        number_monic modulus ∙ ap₂ (λ x n. x + 2 ^ n) (number_bits d p ∙ low_is) (length_bits d p) ∙ (omega (arith, h.reaches))

    -- the plain product of two codes, and a third added, as a polynomial
    plain_sum : (a b r : ℕ) → a < 2 ^ degree p → b < 2 ^ degree p → r < 2 ^ degree p
        → number (poly_sum two (poly_product two (bits (degree p) a) (bits (degree p) b)) (bits (degree p) r)) ≡ bit_xor (binary_product a b) r
    plain_sum a b r ha hb hr =
        let d = degree p in
        number_sum (poly_product two (bits d a) (bits d b)) (bits d r)
        ∙ ap₂ bit_xor (number_product (bits d a) (bits d b) ∙ ap₂ binary_product (number_of_code d a ha) (number_of_code d b hb)) (number_of_code d r hr)

    pub remainder_if : (a b r : ℕ) → a < 2 ^ degree p → b < 2 ^ degree p → r < 2 ^ degree p
        → Multiple p (bit_xor (binary_product a b) r) → r ≡ shift_product p a b
    unfolding Multiple Congruent shift_product
    remainder_if a b r ha hb hr (k, e) =
        let d = degree p in
        let A = bits d a in
        let B = bits d b in
        let S = bits d r in
        let K = bits k k in
        let K-is : number K ≡ k = number_of_code k k (below_power k) in
        let right : number (poly_product two K (monic two modulus)) ≡ binary_product k p
        = number_product K (monic two modulus) ∙ ap₂ binary_product K-is number_modulus in
        let same : Same two (poly_sum two (poly_product two A B) S) (poly_product two K (monic two modulus))
        = same_of_number (poly_sum two (poly_product two A B) S) (poly_product two K (monic two modulus)) (plain_sum a b r ha hb hr ∙ e ∙ sym right) in
        let tuples : S ≡ times two modulus A B
        = (only_remainder two_ring modulus A B S (length_bits d b ∙ sym (length_bits d p)) (length_bits d r ∙ sym (length_bits d p))).0 (K, same) in
        sym (number_of_code d r hr) ∙ ap number tuples

    pub remainder_only : (a b r : ℕ) → a < 2 ^ degree p → b < 2 ^ degree p → r < 2 ^ degree p
        → r ≡ shift_product p a b → Multiple p (bit_xor (binary_product a b) r)
    unfolding Multiple Congruent shift_product
    remainder_only a b r ha hb hr e =
        let d = degree p in
        let A = bits d a in
        let B = bits d b in
        let S = bits d r in
        let fits : length B ≡ length modulus = length_bits d b ∙ sym (length_bits d p) in
        let tuples : S ≡ times two modulus A B
        = ap (bits d) e ∙ bits_number (times two modulus A B) d (length_times two modulus A B fits ∙ length_bits d p) in
        let (K, same) = (only_remainder two_ring modulus A B S fits (length_bits d r ∙ sym (length_bits d p))).1 tuples in (
          number K,
          sym (plain_sum a b r ha hb hr) ∙ number_of_same (poly_sum two (poly_product two A B) S) (poly_product two K (monic two modulus)) same
              ∙ number_product K (monic two modulus) ∙ ap (binary_product (number K)) number_modulus,
        )

    pub 1-lt : 1 < 2 ^ degree p
    1-lt = let h : 2 ^ 1 ≤ 2 ^ degree p = pow_mono (degree_positive p lo hi) in h

    unfoldable pub carried : Carried (shift_by true p) (quotient two modulus)
    unfolding shift_by
    carried = record {
      to = tuple;
      from = code;
      from_code = code_lt;
      from_to = code_tuple;
      to_from = tuple_code;
      product_is = λ a b ha hb. product_code a b;
      sum_is = λ a b ha hb. tuple_sum a b;
      zero_is = tuple_zero;
      one_is = tuple_one;
      one_code = 1-lt;
    }

pub shift_remainder : ShiftRemainder
unfolding shift_by
shift_remainder p a b r lo hi ha hb hr =
    let is : (shift p).product a b ≡ shift_product p a b = ap (λ M. M.product a b) (shift_live p lo hi) in
    (λ k. remainder_if p lo hi a b r ha hb hr k ∙ sym is, λ e. remainder_only p lo hi a b r ha hb hr (e ∙ is))
