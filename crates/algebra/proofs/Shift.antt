-- Which shift fields are sound: trial division decides, and where it finds no factor the laws of a field hold.
-- Assumes nothing.
use Rattle.std.proofs.Common.{◌≡◌, ℕ, zero, suc, ◌+◌, ◌*◌, ◌^◌, ◌<◌, ◌≤◌, Bool, true, false, not, ◌||◌, eqb, ltb, ◌⊎◌, length, sym, refl, ap, ◌∙◌, inl, inr, ⊎_elim, le_trans, one-mul, pow-suc, arith, lit<, lit≤, pow_pos, pow_mono}
use lib.Bits.{xor_zero_r}
use Rattle.std.proofs.lemmas.Bool.{and_parts, or_cases, ltb-true, eqb-true, eq-eqb, not-true, cases_Bool, cases_eq, both_ways, false≢true}
use Rattle.algebra.specs.Operations.{power}
use Rattle.algebra.specs.Tuples.{unit, times}
use Rattle.algebra.specs.Meaning.{Shape, Laws, dead}
use Rattle.algebra.specs.Search.{some_below}
use Rattle.algebra.specs.Bits.{two, number}
use Rattle.algebra.specs.Shift.{binary_product, degree, splits, shift_product, in_range, shift_by, shift, Multiple}
use Rattle.algebra.proofs.Tuples.{length_unit}
use Rattle.algebra.proofs.Quotient.{Tuple, quotient}
use Rattle.algebra.proofs.Powers.{power_one, power_two, power_mul, power_two_nil, power_of_one, variable, fixes_all}
use Rattle.algebra.proofs.Bits.{two_ring, length_bits}
use Rattle.algebra.proofs.Search.{all_below_at, some_below_at, some_below_found}
use Rattle.algebra.proofs.Binary.{step, horner, number_times_x, horner_times, carryless, carryless_nil, binary_carryless}
use Rattle.algebra.proofs.Trial.{remainder, divides, trial, cofactor, factors, squared, x_returns, few_own_squares, factor_found, none_found}
use Rattle.algebra.proofs.Degree.{degree_is, degree_positive, range}
use Rattle.algebra.proofs.Carried.{same_element, product_lt, no_divisor, inverse, carried_laws}
use Rattle.algebra.proofs.ShiftRing.{modulus, tuple, code, tuple_code, code_tuple, code_lt, tuple_zero, tuple_one, ring, remainder_if, 1-lt, carried}

module _ (p : ℕ) (lo : 2 ≤ p) (hi : p ≤ 511) where
  -- ---- where every code but zero has an inverse, p does not split

  abbrev pub Inverses : Type 0
  Inverses = (a : ℕ) → a < 2 ^ degree p → (a ≡ 0 → ⊥) → (b : ℕ) × (b < 2 ^ degree p) × (shift_product p a b ≡ 1)

  unsplit : Inverses → (a b : ℕ) → a < 2 ^ degree p → b < 2 ^ degree p → binary_product a b ≡ p → ⊥
  unfolding Multiple carryless shift_by
  unsplit inverses a b ha hb e = ⊎_elim (λ z. left_nil z) (λ z. right_nil (divided z)) (cases_eq a 0)
    where
      product_zero : shift_product p a b ≡ 0
      product_zero =
          sym (remainder_if p lo hi a b 0 ha hb (pow_pos (degree p))
          (1, xor_zero_r (binary_product a b) ∙ e ∙ sym (binary_carryless 1 1 p (lit< tt) ∙ xor_zero_r (1 * p) ∙ one-mul p)))

      left_nil : a ≡ 0 → ⊥
      left_nil z = let none : binary_product a b ≡ 0 = ap (λ k. binary_product k b) z ∙ binary_carryless 0 0 b (lit< tt) in omega arith

      right_nil : b ≡ 0 → ⊥
      right_nil z = let none : binary_product a b ≡ 0 = ap (binary_product a) z ∙ binary_carryless (degree p) a 0 ha ∙ carryless_nil (degree p) a in omega arith

      divided : (a ≡ 0 → ⊥) → b ≡ 0
      divided z = let (c, hc, unit_is) = inverses a ha z in no_divisor (carried p lo hi) (ring p) a b c ha hb hc unit_is product_zero

  pub never_splits : Inverses → splits p ≡ false
  unfolding splits
  never_splits inverses = ⊎_elim (λ yes-splits. absurd (refuted yes-splits)) (λ none. none) (cases_Bool (splits p))
    where
      refuted : splits p ≡ true → ⊥
      refuted e =
          let (a, ha, rest) = some_below_found (λ a. some_below (2 ^ degree p) (λ b. eqb (binary_product a b) p)) (2 ^ degree p) e in
          let (b, hb, is) = some_below_found (λ b. eqb (binary_product a b) p) (2 ^ degree p) rest in
          unsplit inverses a b ha hb (eqb-true (binary_product a b) p is)

  -- ---- where trial division finds no factor, the quotient is a field

  square_code : (t : Tuple Bool (length (modulus p))) → code p ((quotient two (modulus p)).mul t t) ≡ horner (degree p) p (code p t) (degree p) (code p t)
  unfolding code tuple quotient
  square_code t =
      let d = degree p in
      let h = degree_is p lo hi in
      ap (λ (u : Tuple Bool (length (modulus p))). number (times two (modulus p) u.0 u.0)) (sym (tuple_code p t))
      ∙ horner_times d p h.reaches h.stays_below (code p t) (code_lt p t) d (code p t)

  power_code : (t : Tuple Bool (length (modulus p))) (n : ℕ) → code p (power (quotient two (modulus p)) t (2 ^ n)) ≡ squared p n (code p t)
  unfolding squared
  power_code t zero = ap (code p) (power_one (ring p) t)
  power_code t (suc n) =
      let Q = quotient two (modulus p) in
      let s = power Q t (2 ^ n) in
      ap (code p) (ap (power Q t) (pow-suc 2 n) ∙ power_mul (ring p) t (2 ^ n) 2 ∙ power_two (ring p) s)
      ∙ square_code s ∙ ap (λ k. horner (degree p) p k (degree p) k) (power_code t n)

  variable_code : code p (variable two_ring (modulus p)) ≡ step (degree p) p 1
  unfolding code variable tuple quotient
  variable_code =
      let h = degree_is p lo hi in
      number_times_x (degree p) p h.reaches h.stays_below (unit two (length (modulus p))) (length_unit two (length (modulus p)) ∙ length_bits (degree p) p)
      ∙ ap (step (degree p) p) (sym (ap (code p) (tuple_one p)) ∙ code_tuple p 1 (1-lt p lo hi))

  module _ (none : trial p ≡ false) where
    fixes_x : power (quotient two (modulus p)) (variable two_ring (modulus p)) (2 ^ degree p) ≡ variable two_ring (modulus p)
    unfolding x_returns carried
    fixes_x =
        same_element (carried p lo hi) (power (quotient two (modulus p)) (variable two_ring (modulus p)) (2 ^ degree p)) (variable two_ring (modulus p))
        (power_code (variable two_ring (modulus p)) (degree p) ∙ ap (squared p (degree p)) variable_code
        ∙ eqb-true (squared p (degree p) (step (degree p) p 1)) (step (degree p) p 1) (none_found p lo hi none).0
        ∙ sym variable_code)

    fixes_bit : (x : Bool) → power two x (2 ^ degree p) ≡ x
    unfolding two
    fixes_bit true = power_of_one two_ring (2 ^ degree p)
    fixes_bit false = power_two_nil two_ring (degree p)

    returns_tuple : (u : Tuple Bool (length (modulus p))) → power (quotient two (modulus p)) u (2 ^ degree p) ≡ u
    returns_tuple = fixes_all two_ring (modulus p) (degree p) fixes_bit fixes_x

    own_squares : (e : Tuple Bool (length (modulus p))) → (quotient two (modulus p)).mul e e ≡ e
        → (e ≡ (quotient two (modulus p)).nil) ⊎ (e ≡ (quotient two (modulus p)).one)
    unfolding few_own_squares
    own_squares e own = decide (code p e) refl small
      where
        d : ℕ
        d = degree p

        test : (not (eqb (horner d p (code p e) d (code p e)) (code p e)) || ltb (code p e) 2) ≡ true
        test = all_below_at (λ k. not (eqb (horner d p k d k) k) || ltb k 2) (2 ^ d) (none_found p lo hi none).1 (code p e) (code_lt p e)

        small : code p e < 2
        small =
            ⊎_elim
            (λ (no-square : not (eqb (horner d p (code p e) d (code p e)) (code p e)) ≡ true).
            absurd (both_ways (eqb (horner d p (code p e) d (code p e)) (code p e)) (not-true (eqb (horner d p (code p e) d (code p e)) (code p e)) no-square)
            (eq-eqb (horner d p (code p e) d (code p e)) (code p e) (sym (square_code e) ∙ ap (code p) own))))
            (λ less. ltb-true (code p e) 2 less)
            (or_cases (not (eqb (horner d p (code p e) d (code p e)) (code p e))) (ltb (code p e) 2) test)

        decide : (k : ℕ) → code p e ≡ k → k < 2 → (e ≡ (quotient two (modulus p)).nil) ⊎ (e ≡ (quotient two (modulus p)).one)
        decide zero is h = inl (sym (tuple_code p e) ∙ ap (tuple p) is ∙ tuple_zero p)
        decide (suc zero) is h = inr (sym (tuple_code p e) ∙ ap (tuple p) is ∙ tuple_one p)
        decide (suc (suc k)) is h = absurd (omega arith)

    laws : Laws (shift_by true p)
    unfolding shift_by
    laws = carried_laws (carried p lo hi) (ring p) (degree_positive p lo hi) (λ e. omega arith) returns_tuple own_squares

    unfactored : splits p ≡ false
    unfolding shift_by
    unfactored = never_splits (inverse (carried p lo hi) (ring p) (degree_positive p lo hi) (λ e. omega arith) returns_tuple own_squares)

  -- ---- trial division decides

  found_splits : trial p ≡ true → splits p ≡ true
  unfolding trial splits divides factors
  found_splits e =
      let (k, hk, divided) = some_below_found (λ k. divides (k + 2) p) 30 e in
      let (less, whole) = and_parts (ltb (k + 2) (2 ^ degree p)) (eqb (remainder (k + 2) p) 0) divided in
      let (c-less, product_is) = and_parts (ltb (cofactor (k + 2) p) (2 ^ degree p)) (eqb (carryless 8 (cofactor (k + 2) p) (k + 2)) p) (factor_found p k lo hi hk divided) in
      split_by (cofactor (k + 2) p) (k + 2) (ltb-true (cofactor (k + 2) p) (2 ^ degree p) c-less) (ltb-true (k + 2) (2 ^ degree p) less)
      (eqb-true (carryless 8 (cofactor (k + 2) p) (k + 2)) p product_is)
    where
      split_by : (c d : ℕ) → c < 2 ^ degree p → d < 2 ^ degree p → carryless 8 c d ≡ p
          → some_below (2 ^ degree p) (λ a. some_below (2 ^ degree p) (λ b. eqb (binary_product a b) p)) ≡ true
      split_by c d hc hd e =
          let c_lt : c < 2 ^ 8 = le_trans hc (pow_mono (degree_is p lo hi).at_most) in
          some_below_at (λ a. some_below (2 ^ degree p) (λ b. eqb (binary_product a b) p)) (2 ^ degree p) c hc
          (some_below_at (λ b. eqb (binary_product c b) p) (2 ^ degree p) d hd
          (eq-eqb (binary_product c d) p (binary_carryless 8 c d c_lt ∙ e)))

  pub trial_decides : splits p ≡ trial p
  trial_decides = ⊎_elim (λ found. found_splits found ∙ sym found) (λ none. unfactored none ∙ sym none) (cases_Bool (trial p))

  pub live_laws : (shift_by true p).sound ≡ true → Laws (shift_by true p)
  unfolding shift_by
  live_laws sound = laws (sym trial_decides ∙ not-true (splits p) sound)

  pub live_shape : Shape (shift_by true p)
  unfolding shift_by
  live_shape = record {
    at_least = degree_positive p lo hi;
    at_most = (degree_is p lo hi).at_most;
    one_code = 1-lt p lo hi;
    product_code = product_lt (carried p lo hi);
  }

-- ---- every p

pub dead_shape : Shape dead
unfolding dead
dead_shape = record { at_least = lit≤ tt; at_most = lit≤ tt; one_code = lit< tt; product_code = λ a b ha hb. lit< tt }

pub shift_shape : (p : ℕ) → Shape (shift p)
unfolding shift
shift_shape p = by (in_range p) refl
  where
    by : (b : Bool) → in_range p ≡ b → Shape (shift_by b p)
    by true e = live_shape p (range p e).0 (range p e).1
    by false e = unfold shift_by in dead_shape

pub shift_laws : (p : ℕ) → (shift p).sound ≡ true → Laws (shift p)
unfolding shift shift_by dead
shift_laws p = by (in_range p) refl
  where
    by : (b : Bool) → in_range p ≡ b → (shift_by b p).sound ≡ true → Laws (shift_by b p)
    by true e sound = live_laws p (range p e).0 (range p e).1 sound
    by false e sound = absurd (false≢true sound)
