-- A full power table multiplies as the shift field does, and its shift field is sound.
-- Assumes nothing.
use Rattle.std.proofs.Common.{◌≡◌, ℕ, zero, suc, ◌+◌, ◌-◌, ◌*◌, ◌/◌, ◌%◌, ◌^◌, ◌<◌, ◌≤◌, Bool, true, false, cond, not, ◌&&◌, eqb, ltb, ◌⊎◌, length, sym, refl, ap, ◌∙◌, subst, ap₂, inl, inr, ⊎_elim, mod-lt, mod-eq_of_lt, mul_comm, eq-or-lt_of_le, div-add-mod', zero-add, arith, pow_pos, pow_mono}
use lib.Bits.{bit_xor, xor_lt, xor_assoc, xor_self}
use Rattle.std.proofs.lemmas.Bool.{and_parts, and_from, and_left, and_right, eqb-true, ltb-true, not-true, not-false, cond-true, cond-false, cond_both, cases_eq, false≢true}
use Rattle.algebra.specs.Operations.{power}
use Rattle.algebra.specs.Meaning.{Meaning, Shape, Laws, operations, low_bits, dead}
use Rattle.algebra.specs.Search.{some_below}
use Rattle.algebra.specs.Bits.{two}
use Rattle.algebra.specs.Shift.{degree, in_range, splits, shift_product, shift_by, shift}
use Rattle.algebra.specs.PowerTable.{places, entry, logarithm, stands, table_product, full, table_by, power_table}
use Rattle.algebra.specs.Alike.{Alike, TableAlike}
use Rattle.algebra.proofs.Rings.{add_twice, nil_mul, one_mul}
use Rattle.algebra.proofs.Quotient.{Tuple, quotient}
use Rattle.algebra.proofs.Powers.{power_add, power_mul, power_product, power_of_one}
use Rattle.algebra.proofs.Search.{some_below_not, first_passes}
use Rattle.algebra.proofs.Degree.{degree_is, degree_positive, range, shift_live}
use Rattle.algebra.proofs.Carried.{Carried, from_one, from_zero, same_code, to_product, power_is, power_code, to_power, commutes, one_times, times_zero, product_lt}
use Rattle.algebra.proofs.ShiftRing.{modulus, ring, carried}
use Rattle.algebra.proofs.Shift.{Inverses, never_splits, live_laws, live_shape, dead_shape}
use Rattle.algebra.proofs.Alike.{passed_on}

-- a sum with a cancels a
cancel : (a b c : ℕ) → bit_xor a b ≡ c → b ≡ bit_xor a c
cancel a b c e = sym (sym (xor_assoc a a b) ∙ ap (λ z. bit_xor z b) (xor_self a)) ∙ ap (bit_xor a) e

module _ (p g : ℕ) (lo : 2 ≤ p) (hi : p ≤ 511) where
  h : ℕ
  h = low_bits (degree p) g

  h_lt : low_bits (degree p) g < 2 ^ degree p
  unfolding low_bits
  h_lt = mod-lt g (pow_pos (degree p))

  live : Meaning
  live = shift_by true p

  K : Carried (shift_by true p) (quotient two (modulus p))
  K = carried p lo hi

  -- ---- the entries, as powers in the quotient

  entry_live : (k : ℕ) → entry p g k ≡ power (operations (shift_by true p)) (low_bits (degree p) g) k
  unfolding entry
  entry_live k = ap (λ M. power (operations M) (low_bits (degree p) g) k) (shift_live p lo hi)

  pub entry_lt : (k : ℕ) → entry p g k < 2 ^ degree p
  unfolding shift_by
  entry_lt k = subst (λ z. z < 2 ^ degree p) (sym (entry_live k)) (power_code (carried p lo hi) (low_bits (degree p) g) h_lt k)

  entry_to : (k : ℕ) → (carried p lo hi).to (entry p g k) ≡ power (quotient two (modulus p)) ((carried p lo hi).to (low_bits (degree p) g)) k
  unfolding shift_by
  entry_to k = ap (carried p lo hi).to (entry_live k) ∙ to_power (carried p lo hi) (low_bits (degree p) g) h_lt k

  -- ---- what stands in the table

  pub found_at : (a : ℕ) → stands p g a ≡ true → (logarithm p g a < places p) × (entry p g (logarithm p g a) ≡ a)
  unfolding stands logarithm
  found_at a e =
      let less = ltb-true (logarithm p g a) (places p) (and_parts (not (eqb a 0)) (ltb (logarithm p g a) (places p)) e).1 in
      (less, eqb-true (entry p g (logarithm p g a)) a (first_passes (λ k. eqb (entry p g k) a) (places p) 0 (subst (λ n. logarithm p g a < n) (sym (zero-add (places p))) less)))

  zero_stands_not : stands p g 0 ≡ false
  unfolding stands
  zero_stands_not = refl

  module _ (all : full p g ≡ true) where
    pub stands_all : (a : ℕ) → a < 2 ^ degree p → (a ≡ 0 → ⊥) → stands p g a ≡ true
    unfolding full places
    stands_all a ha not-zero =
        let is : a - 1 + 1 ≡ a = omega (arith, not-zero) in
        ap (stands p g) (sym is)
        ∙ not-false (stands p g (a - 1 + 1))
        (some_below_not (λ k. not (stands p g (k + 1))) (places p)
        (not-true (some_below (places p) (λ k. not (stands p g (k + 1)))) all) (a - 1) (omega (arith, not-zero)))

    -- ---- for a width of 2 and more, g has an inverse

    two_found : 2 ≤ degree p → (k : ℕ) × (entry p g k ≡ 2)
    two_found wide =
        let four : 2 ^ 2 ≤ 2 ^ degree p = pow_mono wide in
        (logarithm p g 2, (found_at 2 (stands_all 2 (omega arith) (λ e. omega arith))).1)

    not_one : 2 ≤ degree p → low_bits (degree p) g ≡ 1 → ⊥
    unfolding shift_by
    not_one wide is =
        let (k, e) = two_found wide in
        let one : entry p g k ≡ 1
        = entry_live k ∙ power_is (carried p lo hi) (low_bits (degree p) g) h_lt k
        ∙ ap (λ u. (carried p lo hi).from (power (quotient two (modulus p)) u k)) (ap (carried p lo hi).to is ∙ (carried p lo hi).one_is)
        ∙ ap (carried p lo hi).from (power_of_one (ring p) k) ∙ from_one (carried p lo hi) in
        omega arith

    -- zero times anything is zero
    nil_entry : low_bits (degree p) g ≡ 0 → (k : ℕ) → entry p g (suc k) ≡ 0
    unfolding power shift_by
    nil_entry is k =
        entry_live (suc k) ∙ power_is (carried p lo hi) (low_bits (degree p) g) h_lt (suc k)
        ∙ ap (λ u. (carried p lo hi).from ((quotient two (modulus p)).mul u (power (quotient two (modulus p)) ((carried p lo hi).to (low_bits (degree p) g)) k)))
        (ap (carried p lo hi).to is ∙ (carried p lo hi).zero_is)
        ∙ ap (carried p lo hi).from (nil_mul (ring p) (power (quotient two (modulus p)) ((carried p lo hi).to (low_bits (degree p) g)) k))
        ∙ from_zero (carried p lo hi)

    first_entry : entry p g 0 ≡ 1
    unfolding power operations shift_by
    first_entry = entry_live 0

    not_nil : 2 ≤ degree p → low_bits (degree p) g ≡ 0 → ⊥
    not_nil wide is = at (two_found wide).0 (two_found wide).1
      where
        at : (k : ℕ) → entry p g k ≡ 2 → ⊥
        at zero e = let f : entry p g 0 ≡ 1 = first_entry in omega arith
        at (suc k) e = let f : entry p g (suc k) ≡ 0 = nil_entry is k in omega arith

    -- 1 + g stands at a place j; j is not 0, and so g times some element is 1
    unit_found : 2 ≤ degree p
        → (U : Tuple Bool (length (modulus p))) × ((quotient two (modulus p)).mul ((carried p lo hi).to (low_bits (degree p) g)) U ≡ (quotient two (modulus p)).one)
    unfolding shift_by
    unit_found wide = at (logarithm p g next) (found_at next (stands_all next next_lt next_not_nil)).1
      where
        g' : ℕ
        g' = low_bits (degree p) g

        next : ℕ
        next = bit_xor 1 g'

        1-code : 1 < 2 ^ degree p
        1-code = (carried p lo hi).one_code

        next_lt : next < 2 ^ degree p
        next_lt = xor_lt (degree p) 1 g' 1-code h_lt

        next_not_nil : next ≡ 0 → ⊥
        next_not_nil e = not_one wide (cancel 1 g' 0 e)

        at : (j : ℕ) → entry p g j ≡ next
            → (U : Tuple Bool (length (modulus p))) × ((quotient two (modulus p)).mul ((carried p lo hi).to g') U ≡ (quotient two (modulus p)).one)
        at zero e = absurd (not_nil wide (cancel 1 g' 1 (sym e ∙ first_entry)))
        at (suc i) e =
            let Q = quotient two (modulus p) in
            let R = ring p in
            let G = (carried p lo hi).to g' in
            let Gi = power Q G i in
            let sum : Q.add Q.one G ≡ Q.mul G Gi
            = ap (λ z. Q.add z G) (sym (carried p lo hi).one_is) ∙ sym ((carried p lo hi).sum_is 1 g' 1-code h_lt)
            ∙ ap (carried p lo hi).to (sym e) ∙ entry_to (suc i) ∙ (unfold power in refl) in (
              Q.add Q.one Gi,
              R.mul_add G Q.one Gi ∙ ap₂ Q.add (R.mul_one G) (sym sum)
                  ∙ ap (Q.add G) (R.add_comm Q.one G) ∙ add_twice R G Q.one,
            )

    -- ---- so every code but zero has an inverse, and the shift field is sound

    inverse_by : (U : Tuple Bool (length (modulus p))) → (quotient two (modulus p)).mul ((carried p lo hi).to (low_bits (degree p) g)) U ≡ (quotient two (modulus p)).one → Inverses p lo hi
    unfolding shift_by
    inverse_by U unit_is a ha not-zero =
        let Q = quotient two (modulus p) in
        let G = (carried p lo hi).to (low_bits (degree p) g) in
        let k = logarithm p g a in
        let Uk = power Q U k in
        let at = (found_at a (stands_all a ha not-zero)).1 in (
          (carried p lo hi).from Uk,
          (carried p lo hi).from_code Uk,
          (carried p lo hi).product_is a ((carried p lo hi).from Uk) ha ((carried p lo hi).from_code Uk)
              ∙ ap₂ (λ s t. (carried p lo hi).from (Q.mul s t)) (ap (carried p lo hi).to (sym at) ∙ entry_to k) ((carried p lo hi).to_from Uk)
              ∙ ap (carried p lo hi).from (sym (power_product (ring p) G U k) ∙ ap (λ z. power Q z k) unit_is ∙ power_of_one (ring p) k)
              ∙ from_one (carried p lo hi),
        )

    inverse_narrow : degree p ≡ 1 → Inverses p lo hi
    unfolding shift_by
    inverse_narrow is a ha not-zero =
        let small : a < 2 ^ 1 = subst (λ n. a < 2 ^ n) is ha in
        let one : a ≡ 1 = omega (arith, not-zero) in
        (1, (carried p lo hi).one_code, ap (λ z. shift_product p z 1) one ∙ one_times (carried p lo hi) (ring p) 1 (carried p lo hi).one_code)

    narrow_or_wide : (degree p ≡ 1) ⊎ (2 ≤ degree p)
    narrow_or_wide = let positive = degree_positive p lo hi in ⊎_elim (λ (e : 1 ≡ degree p). inl (sym e)) inr (eq-or-lt_of_le positive)

    inverses : Inverses p lo hi
    inverses = ⊎_elim inverse_narrow (λ wide. let u = unit_found wide in inverse_by u.0 u.1) narrow_or_wide

    shift_field_laws : Laws (shift_by true p)
    unfolding shift_by
    shift_field_laws = live_laws p lo hi (ap not (never_splits p lo hi inverses))

    -- ---- the powers of g run round the table, so its product is the shift product

    runs_round : (U : Tuple Bool (length (modulus p))) → (quotient two (modulus p)).mul ((carried p lo hi).to (low_bits (degree p) g)) U ≡ (quotient two (modulus p)).one
        → power (quotient two (modulus p)) ((carried p lo hi).to (low_bits (degree p) g)) (places p) ≡ (quotient two (modulus p)).one
    unfolding shift_by places power
    runs_round U unit_is =
        let Q = quotient two (modulus p) in
        let R = ring p in
        let G = (carried p lo hi).to (low_bits (degree p) g) in
        let N = places p in
        let count : suc N ≡ 2 ^ degree p = omega (arith, pow_pos (degree p)) in
        let again : Q.mul G (power Q G N) ≡ G
        = ap (power Q G) count ∙ sym (to_power (carried p lo hi) (low_bits (degree p) g) h_lt (2 ^ degree p))
        ∙ ap (carried p lo hi).to (shift_field_laws.returns (low_bits (degree p) g) h_lt) in
        sym (one_mul R (power Q G N)) ∙ ap (λ z. Q.mul z (power Q G N)) (sym unit_is ∙ R.mul_comm G U) ∙ R.mul_assoc U G (power Q G N)
        ∙ ap (Q.mul U) again ∙ R.mul_comm U G ∙ unit_is

    -- a place past the end is one from the start
    round : (i j : ℕ) → i < places p → j < places p
        → power (quotient two (modulus p)) ((carried p lo hi).to (low_bits (degree p) g)) ((i + j) % places p)
        ≡ power (quotient two (modulus p)) ((carried p lo hi).to (low_bits (degree p) g)) (i + j)
    round i j hi' hj = ⊎_elim narrow wide_case narrow_or_wide
      where
        N : ℕ
        N = places p

        pow : ℕ → Tuple Bool (length (modulus p))
        pow = power (quotient two (modulus p)) ((carried p lo hi).to (low_bits (degree p) g))

        narrow : degree p ≡ 1 → pow ((i + j) % N) ≡ pow (i + j)
        narrow is =
            let N-is : N ≡ 1 = unfold places in ap (λ d. 2 ^ d - 1) is in
            let less : i + j < N = omega arith in
            ap pow (mod-eq_of_lt less)

        wide_case : 2 ≤ degree p → pow ((i + j) % N) ≡ pow (i + j)
        wide_case wide =
            let Q = quotient two (modulus p) in
            let G = (carried p lo hi).to (low_bits (degree p) g) in
            let u = unit_found wide in
            let q = (i + j) / N in
            let r = (i + j) % N in
            sym (ap pow (sym (div-add-mod' (i + j) N) ∙ ap (λ z. z + r) (mul_comm q N))
            ∙ power_add (ring p) G (N * q) r
            ∙ ap (λ z. Q.mul z (pow r)) (power_mul (ring p) G N q ∙ ap (λ z. power Q z q) (runs_round u.0 u.1) ∙ power_of_one (ring p) q)
            ∙ one_mul (ring p) (pow r))

    pub same_product : (a b : ℕ) → a < 2 ^ degree p → b < 2 ^ degree p → table_product p g a b ≡ shift_product p a b
    unfolding table_product shift_by
    same_product a b ha hb = ⊎_elim left (λ na. ⊎_elim right (λ nb. both na nb) (cases_eq b 0)) (cases_eq a 0)
      where
        value : ℕ
        value = entry p g ((logarithm p g a + logarithm p g b) % places p)

        nothing : (stands p g a && stands p g b) ≡ false → cond (stands p g a && stands p g b) value 0 ≡ 0
        nothing e = cond-false (stands p g a && stands p g b) value 0 e

        left : a ≡ 0 → cond (stands p g a && stands p g b) value 0 ≡ shift_product p a b
        left z =
            nothing (and_left (stands p g a) (stands p g b) (ap (stands p g) z ∙ zero_stands_not))
            ∙ sym (commutes (carried p lo hi) (ring p) a b ha hb ∙ ap (shift_product p b) z ∙ times_zero (carried p lo hi) (ring p) b hb)

        right : b ≡ 0 → cond (stands p g a && stands p g b) value 0 ≡ shift_product p a b
        right z =
            nothing (and_right (stands p g a) (stands p g b) (ap (stands p g) z ∙ zero_stands_not))
            ∙ sym (ap (shift_product p a) z ∙ times_zero (carried p lo hi) (ring p) a ha)

        both : (a ≡ 0 → ⊥) → (b ≡ 0 → ⊥) → cond (stands p g a && stands p g b) value 0 ≡ shift_product p a b
        both na nb =
            let Q = quotient two (modulus p) in
            let G = (carried p lo hi).to (low_bits (degree p) g) in
            let sa = stands_all a ha na in
            let sb = stands_all b hb nb in
            let i = logarithm p g a in
            let j = logarithm p g b in
            let fa = found_at a sa in
            let fb = found_at b sb in
            cond-true (stands p g a && stands p g b) value 0 (and_from (stands p g a) (stands p g b) sa sb)
            ∙ same_code (carried p lo hi) value (shift_product p a b) (entry_lt ((i + j) % places p)) (product_lt (carried p lo hi) a b ha hb)
            (entry_to ((i + j) % places p) ∙ round i j fa.0 fb.0 ∙ power_add (ring p) G i j
            ∙ ap₂ Q.mul (sym (entry_to i) ∙ ap (carried p lo hi).to fa.1) (sym (entry_to j) ∙ ap (carried p lo hi).to fb.1)
            ∙ sym (to_product (carried p lo hi) a b ha hb))

    pub full_laws : Laws (table_by true p g)
    unfolding table_by shift_by
    full_laws =
        passed_on (degree p) 1 (shift_product p) (table_product p g) (not (splits p)) (full p g) (live_shape p lo hi) same_product shift_field_laws

  pub table_shape : Shape (table_by true p g)
  unfolding table_by shift_by table_product
  table_shape = record {
    at_least = degree_positive p lo hi;
    at_most = (degree_is p lo hi).at_most;
    one_code = (carried p lo hi).one_code;
    product_code = λ a b ha hb.
        cond_both (stands p g a && stands p g b) (entry p g ((logarithm p g a + logarithm p g b) % places p)) 0 (λ z. z < 2 ^ degree p)
        (λ e. entry_lt ((logarithm p g a + logarithm p g b) % places p)) (λ e. pow_pos (degree p));
  }

-- ---- every p and g

pub power_table_shape : (p g : ℕ) → Shape (power_table p g)
unfolding power_table
power_table_shape p g = by (in_range p) refl
  where
    by : (b : Bool) → in_range p ≡ b → Shape (table_by b p g)
    by true e = table_shape p g (range p e).0 (range p e).1
    by false e = unfold table_by in dead_shape

pub power_table_laws : (p g : ℕ) → (power_table p g).sound ≡ true → Laws (power_table p g)
unfolding power_table table_by dead
power_table_laws p g = by (in_range p) refl
  where
    by : (b : Bool) → in_range p ≡ b → (table_by b p g).sound ≡ true → Laws (table_by b p g)
    by true e sound = full_laws p g (range p e).0 (range p e).1 sound
    by false e sound = absurd (false≢true sound)

pub table_alike : TableAlike
unfolding power_table shift table_by dead
table_alike p g = by (in_range p) refl
  where
    by : (b : Bool) → in_range p ≡ b → (table_by b p g).sound ≡ true → Alike (table_by b p g) (shift_by b p)
    by true e sound = unfold shift_by in record { widths = refl; products = same_product p g (range p e).0 (range p e).1 sound }
    by false e sound = absurd (false≢true sound)
