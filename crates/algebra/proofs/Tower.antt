-- The tower on a sound field by an element with no root keeps the laws; on any field its answers are of the right shape.
-- Assumes nothing.
use Rattle.std.proofs.Common.{◌≡◌, ℕ, ◌+◌, ◌*◌, ◌/◌, ◌%◌, ◌^◌, ◌<◌, ◌≤◌, Bool, true, false, not, eqb, leb, ◌⊎◌, List, [], ◌∷◌, length, get_or, sym, refl, ap, ◌∙◌, subst, ap₂, inl, inr, ⊎_elim, le_trans, mod-lt, mod-eq_of_lt, suc-ne-zero, two-mul, arith, pow_pos, pow_mono, pow-add, shr_lt}
use native.Mathlib.Nat.{suc_inj}
use lib.Bits.{bit_xor, xor_lt, xor_shr, xor_mod}
use lib.Arith.{digits_lt}
use lib.Pow.{high, low, split}
use Rattle.std.proofs.lemmas.Bool.{and_parts, leb-true, eq-eqb, not-true, both_ways, false≢true}
use Rattle.algebra.specs.Operations.{Ops, Ring2, power}
use Rattle.algebra.specs.Tuples.{plus, scale, zeros, unit, up, last, times_x, times}
use Rattle.algebra.specs.Meaning.{Meaning, Shape, Laws, low_bits, dead}
use Rattle.algebra.specs.Tower.{pair, tower_product, has_root, tower_by, tower}
use Rattle.algebra.proofs.Rings.{nil_add, add_twice, add_exchange, equal_if_nil, mul_nil, nil_mul, one_mul, square_sum}
use Rattle.algebra.proofs.Quotient.{Tuple, same_tuple, quotient, quotient_ring}
use Rattle.algebra.proofs.Powers.{power_mul, power_product, power_two_add, power_of_one, constant, constant_power, variable, fixes_all}
use Rattle.algebra.proofs.Search.{some_below_at}
use Rattle.algebra.proofs.Carried.{Carried, carried_laws}
use Rattle.algebra.proofs.Shift.{dead_shape}
use Rattle.algebra.proofs.CodeRing.{Code, same, code_ops, code_ring, code_returns, code_own_square}

-- ---- pairs modulo Z² + Z + c, over any ring

-- Z² stands for c + Z
abbrev pub relation : {A : Type 0} → Ops A → A → List A
relation O c = c ∷ O.one ∷ []

abbrev pub pair_of : {A : Type 0} → A → A → Tuple A 2
pair_of a b = (a ∷ b ∷ [], refl)

-- a tuple of two elements
pub both : {A : Type 0} (n : A) (l : List A) → length l ≡ 2 → l ≡ get_or l 0 n ∷ get_or l 1 n ∷ []
both n [] h = absurd (suc-ne-zero 1 (sym h))
both n (a ∷ []) h = absurd (suc-ne-zero 0 (sym (suc_inj h)))
both n (a ∷ b ∷ []) h = refl
both n (a ∷ b ∷ d ∷ l) h = absurd (suc-ne-zero (length l) (suc_inj (suc_inj h)))

module _ {A : Type 0} {O : Ops A} (R : Ring2 O) (c : A) where
  nothing_up : (x y : A) → O.add x (O.add O.nil (O.mul O.nil y)) ≡ x
  nothing_up x y = ap (O.add x) (nil_add R (O.mul O.nil y) ∙ nil_mul R y) ∙ R.add_nil x

  pub pair_times : (a b d e : A)
      → times O (relation O c) (a ∷ b ∷ []) (d ∷ e ∷ [])
      ≡ O.add (O.mul a d) (O.mul (O.mul b e) c) ∷ O.add (O.add (O.mul a e) (O.mul b d)) (O.mul b e) ∷ []
  unfolding times times_x plus scale up last zeros
  pair_times a b d e =
      let bd = O.mul b d in
      let be = O.mul b e in
      ap₂ (λ x y. O.add (O.mul a d) (O.add O.nil (O.mul y c)) ∷ O.add (O.mul a e) (O.add x (O.mul y O.one)) ∷ [])
      (nothing_up bd c) (nothing_up be O.one)
      ∙ ap₂ (λ x y. O.add (O.mul a d) x ∷ O.add (O.mul a e) (O.add bd y) ∷ []) (nil_add R (O.mul be c)) (R.mul_one be)
      ∙ ap (λ y. O.add (O.mul a d) (O.mul be c) ∷ y ∷ []) (sym (R.add_assoc (O.mul a e) bd be))

  Q : Ops (Tuple A 2)
  Q = quotient O (relation O c)

  QR : Ring2 (quotient O (relation O c))
  QR = quotient_ring R (relation O c)

  pub pair_mul : (a b d e : A)
      → (quotient O (relation O c)).mul (pair_of a b) (pair_of d e)
      ≡ pair_of (O.add (O.mul a d) (O.mul (O.mul b e) c)) (O.add (O.add (O.mul a e) (O.mul b d)) (O.mul b e))
  unfolding quotient
  pair_mul a b d e = same_tuple _ _ (pair_times a b d e)

  whole : (u : Tuple A 2) → u ≡ pair_of (get_or u.0 0 O.nil) (get_or u.0 1 O.nil)
  whole u = same_tuple _ _ (both O.nil u.0 u.1)

  first : Tuple A 2 → A
  first u = get_or u.0 0 O.nil

  second : Tuple A 2 → A
  second u = get_or u.0 1 O.nil

  -- ---- only zero and one are their own squares, where that holds below and c has no root

  module _ (own : (x : A) → O.mul x x ≡ x → (x ≡ O.nil) ⊎ (x ≡ O.one)) (no_root : (r : A) → O.add (O.mul r r) r ≡ c → ⊥) where
    own_pair : (a b : A) → (quotient O (relation O c)).mul (pair_of a b) (pair_of a b) ≡ pair_of a b
        → (pair_of a b ≡ (quotient O (relation O c)).nil) ⊎ (pair_of a b ≡ (quotient O (relation O c)).one)
    unfolding quotient zeros unit first second
    own_pair a b e = ⊎_elim by_nil by_one (own b bb)
      where
        seconds : O.add (O.add (O.mul a b) (O.mul b a)) (O.mul b b) ≡ b
        seconds = ap second (sym (pair_mul a b a b) ∙ e)

        firsts : O.add (O.mul a a) (O.mul (O.mul b b) c) ≡ a
        firsts = ap first (sym (pair_mul a b a b) ∙ e)

        bb : O.mul b b ≡ b
        bb =
            sym (nil_add R (O.mul b b))
            ∙ ap (λ z. O.add z (O.mul b b)) (sym (R.add_self (O.mul a b)) ∙ ap (O.add (O.mul a b)) (R.mul_comm a b))
            ∙ seconds

        by_nil : b ≡ O.nil → (pair_of a b ≡ (quotient O (relation O c)).nil) ⊎ (pair_of a b ≡ (quotient O (relation O c)).one)
        by_nil z =
            let aa : O.mul a a ≡ a
            = sym (R.add_nil (O.mul a a)) ∙ ap (O.add (O.mul a a)) (sym (nil_mul R c) ∙ ap (λ y. O.mul y c) (sym z ∙ sym bb)) ∙ firsts in
            ⊎_elim (λ x. inl (same_tuple _ _ (ap₂ (λ p q. p ∷ q ∷ []) x z))) (λ x. inr (same_tuple _ _ (ap₂ (λ p q. p ∷ q ∷ []) x z))) (own a aa)

        by_one : b ≡ O.one → (pair_of a b ≡ (quotient O (relation O c)).nil) ⊎ (pair_of a b ≡ (quotient O (relation O c)).one)
        by_one z =
            let sum : O.add (O.mul a a) c ≡ a
            = ap (O.add (O.mul a a)) (sym (one_mul R c) ∙ ap (λ y. O.mul y c) (sym z ∙ sym bb)) ∙ firsts in
            absurd (no_root a (ap (O.add (O.mul a a)) (sym sum) ∙ add_twice R (O.mul a a) c))

    pub own_squares : (u : Tuple A 2) → (quotient O (relation O c)).mul u u ≡ u
        → (u ≡ (quotient O (relation O c)).nil) ⊎ (u ≡ (quotient O (relation O c)).one)
    own_squares u e =
        let w = whole u in
        let at : (quotient O (relation O c)).mul (pair_of (get_or u.0 0 O.nil) (get_or u.0 1 O.nil)) (pair_of (get_or u.0 0 O.nil) (get_or u.0 1 O.nil))
        ≡ pair_of (get_or u.0 0 O.nil) (get_or u.0 1 O.nil)
        = ap (λ z. (quotient O (relation O c)).mul z z) (sym w) ∙ e ∙ w in
        ⊎_elim (λ z. inl (w ∙ z)) (λ z. inr (w ∙ z)) (own_pair (get_or u.0 0 O.nil) (get_or u.0 1 O.nil) at)

    -- ---- Z to the power q is Z or Z + 1, so to the power q² it is Z

    Z : Tuple A 2
    Z = variable R (relation O c)

    z_is : variable R (relation O c) ≡ pair_of O.nil O.one
    unfolding variable times_x plus scale up last unit zeros
    z_is = same_tuple _ _ (ap₂ (λ x y. x ∷ y ∷ [])
        (ap (O.add O.nil) (nil_mul R c) ∙ R.add_nil O.nil)
        (ap (O.add O.one) (nil_mul R O.one) ∙ R.add_nil O.one))

    c_is : constant R (relation O c) c ≡ pair_of c O.nil
    unfolding constant scale unit zeros
    c_is = same_tuple _ _ (ap₂ (λ x y. x ∷ y ∷ []) (R.mul_one c) (mul_nil R c))

    ZZ : (quotient O (relation O c)).mul (variable R (relation O c)) (variable R (relation O c))
        ≡ (quotient O (relation O c)).add (variable R (relation O c)) (constant R (relation O c) c)
    unfolding quotient plus
    ZZ =
        ap (λ z. (quotient O (relation O c)).mul z z) z_is
        ∙ pair_mul O.nil O.one O.nil O.one
        ∙ same_tuple _ _ (ap₂ (λ x y. x ∷ y ∷ [])
        (ap₂ O.add (mul_nil R O.nil) (ap (λ y. O.mul y c) (R.mul_one O.one) ∙ one_mul R c))
        (ap₂ O.add (ap₂ O.add (nil_mul R O.one) (mul_nil R O.one) ∙ R.add_nil O.nil) (R.mul_one O.one) ∙ R.add_comm O.nil O.one))
        ∙ ap₂ (quotient O (relation O c)).add (sym z_is) (sym c_is)

    module _ (n : ℕ) (fixes : (a : A) → power O a (2 ^ n) ≡ a) where
      -- the 2^n-th power, twice over
      twice : {B : Type 0} {P : Ops B} (S : Ring2 P) (u : B) → power P u (2 ^ (n + n)) ≡ power P (power P u (2 ^ n)) (2 ^ n)
      twice {P = P} S u = ap (power P u) (pow-add 2 n n) ∙ power_mul S u (2 ^ n) (2 ^ n)

      φ : Tuple A 2 → Tuple A 2
      φ u = power (quotient O (relation O c)) u (2 ^ n)

      fixes_z : power (quotient O (relation O c)) (variable R (relation O c)) (2 ^ (n + n)) ≡ variable R (relation O c)
      unfolding φ Z Q QR
      fixes_z = twice QR Z ∙ ⊎_elim same_z next_z (own_squares w ww)
        where
          k : Tuple A 2
          k = constant R (relation O c) c

          φ-k : φ k ≡ k
          φ-k = constant_power R (relation O c) c (2 ^ n) ∙ ap (constant R (relation O c)) (fixes c)

          -- φ Z has the same equation as Z
          φφ : Q.mul (φ Z) (φ Z) ≡ Q.add (φ Z) k
          φφ = sym (power_product QR Z Z (2 ^ n)) ∙ ap φ ZZ ∙ power_two_add QR Z k n ∙ ap (Q.add (φ Z)) φ-k

          w : Tuple A 2
          w = Q.add (φ Z) Z

          ww : Q.mul w w ≡ w
          ww =
              square_sum QR (φ Z) Z ∙ ap₂ Q.add φφ ZZ ∙ add_exchange QR (φ Z) k Z k ∙ ap (Q.add (Q.add (φ Z) Z)) (QR.add_self k) ∙ QR.add_nil w

          same_z : w ≡ Q.nil → φ (φ Z) ≡ Z
          same_z e = let z : φ Z ≡ Z = equal_if_nil QR (φ Z) Z e in ap φ z ∙ z

          next_z : w ≡ Q.one → φ (φ Z) ≡ Z
          next_z e =
              let z : φ Z ≡ Q.add Z Q.one = sym (add_twice QR Z (φ Z)) ∙ ap (Q.add Z) (QR.add_comm Z (φ Z) ∙ e) in
              ap φ z ∙ power_two_add QR Z Q.one n ∙ ap₂ Q.add z (power_of_one QR (2 ^ n))
              ∙ QR.add_assoc Z Q.one Q.one ∙ ap (Q.add Z) (QR.add_self Q.one) ∙ QR.add_nil Z

      pub tower_returns : (u : Tuple A 2) → power (quotient O (relation O c)) u (2 ^ (n + n)) ≡ u
      tower_returns = fixes_all R (relation O c) (n + n) (λ a. twice R a ∙ ap (λ z. power O z (2 ^ n)) (fixes a) ∙ fixes a) fixes_z

-- ---- codes as pairs

square_power : (m : ℕ) → 2 ^ (2 * m) ≡ 2 ^ m * 2 ^ m
square_power m = ap (λ k. 2 ^ k) (two-mul m) ∙ pow-add 2 m m

pair_is : (m a b : ℕ) → pair m a b ≡ b * 2 ^ m + a
unfolding pair
pair_is m a b = omega arith

pub pair_lt : (m a b : ℕ) → a < 2 ^ m → b < 2 ^ m → pair m a b < 2 ^ (2 * m)
pair_lt m a b ha hb = subst (λ z. z < 2 ^ (2 * m)) (sym (pair_is m a b)) (subst (λ z. b * 2 ^ m + a < z) (sym (square_power m)) (digits_lt hb ha))

pub high_lt : (m x : ℕ) → x < 2 ^ (2 * m) → x / 2 ^ m < 2 ^ m
high_lt m x h = shr_lt m m (subst (λ k. x < 2 ^ k) (two-mul m) h)

low_of_pair : (m a b : ℕ) → a < 2 ^ m → pair m a b % 2 ^ m ≡ a
low_of_pair m a b h = ap (λ z. z % 2 ^ m) (pair_is m a b) ∙ low b m h

high_of_pair : (m a b : ℕ) → a < 2 ^ m → pair m a b / 2 ^ m ≡ b
high_of_pair m a b h = ap (λ z. z / 2 ^ m) (pair_is m a b) ∙ high b m h

pair_halves : (m x : ℕ) → pair m (x % 2 ^ m) (x / 2 ^ m) ≡ x
pair_halves m x = pair_is m (x % 2 ^ m) (x / 2 ^ m) ∙ split x m

-- ---- every field of width up to 4

module _ (M : Meaning) (s : Shape M) (narrow : M.width ≤ 4) (c : ℕ) where
  m : ℕ
  m = M.width

  abbrev element : ℕ
  element = low_bits M.width c

  element_lt : low_bits M.width c < 2 ^ M.width
  unfolding low_bits
  element_lt = mod-lt c (pow_pos M.width)

  one_lt : M.one < 2 ^ (2 * M.width)
  one_lt = le_trans s.one_code (pow_mono (omega arith))

  pub live_shape : Shape (tower_by true M c)
  unfolding tower_by tower_product m
  live_shape = record {
    at_least = omega (arith, s.at_least);
    at_most = omega arith;
    one_code = one_lt;
    product_code = λ x y hx hy.
        let P = s.product_code in
        let a = x % 2 ^ m in
        let b = x / 2 ^ m in
        let d = y % 2 ^ m in
        let e = y / 2 ^ m in
        let ha : a < 2 ^ m = mod-lt x (pow_pos m) in
        let hb : b < 2 ^ m = high_lt m x hx in
        let hd : d < 2 ^ m = mod-lt y (pow_pos m) in
        let he : e < 2 ^ m = high_lt m y hy in
        let be = M.product b e in
        let hbe : be < 2 ^ m = P b e hb he in
        pair_lt m _ _ (xor_lt m _ _ (P a d ha hd) (P be element hbe element_lt)) (xor_lt m _ _ (xor_lt m _ _ (P a e ha he) (P b d hb hd)) hbe);
  }

  -- ---- a sound one, where the element has no root

  module _ (L : Laws M) (rootless : has_root M (low_bits M.width c) ≡ false) where
    K : Ops (Code M)
    K = code_ops M s

    C : Code M
    C = (low_bits M.width c, element_lt)

    half : (x : ℕ) → Code M
    half x = (x % 2 ^ M.width, mod-lt x (pow_pos M.width))

    to : ℕ → Tuple (Code M) 2
    to x = pair_of (half x) (half (x / 2 ^ M.width))

    from : Tuple (Code M) 2 → ℕ
    from u = pair M.width (get_or u.0 0 K.nil).0 (get_or u.0 1 K.nil).0

    no_root : (r : Code M) → (code_ops M s).add ((code_ops M s).mul r r) r ≡ C → ⊥
    unfolding code_ops C has_root
    no_root r e =
        both_ways (has_root M element) rootless
        (some_below_at (λ r. eqb (bit_xor (M.product r r) r) element) (2 ^ M.width) r.0 r.1
        (eq-eqb (bit_xor (M.product r.0 r.0) r.0) element (ap (λ (x : Code M). x.0) e)))

    high_is : (x : ℕ) → x < 2 ^ (2 * M.width) → x / 2 ^ M.width % 2 ^ M.width ≡ x / 2 ^ M.width
    high_is x h = mod-eq_of_lt (high_lt M.width x h)

    -- the product by halves
    product_by : ℕ → ℕ → ℕ → ℕ → ℕ
    product_by a d b e =
        pair M.width (bit_xor (M.product a d) (M.product (M.product b e) element)) (bit_xor (bit_xor (M.product a e) (M.product b d)) (M.product b e))

    tower_carried : Carried (tower_by true M c) (quotient K (relation K C))
    unfolding tower_by tower_product product_by K C to from half quotient zeros unit plus code_ops
    tower_carried = record {
      to = to;
      from = from;
      from_code = λ u. pair_lt M.width _ _ (get_or u.0 0 K.nil).1 (get_or u.0 1 K.nil).1;
      from_to = λ x h. ap (pair M.width (x % 2 ^ M.width)) (high_is x h) ∙ pair_halves M.width x;
      to_from = λ u.
          let a = get_or u.0 0 K.nil in
          let b = get_or u.0 1 K.nil in
          same_tuple _ _ (ap₂ (λ x y. x ∷ y ∷ [])
          (same M _ _ (low_of_pair M.width a.0 b.0 a.1))
          (same M _ _ (ap (λ z. z % 2 ^ M.width) (high_of_pair M.width a.0 b.0 a.1) ∙ mod-eq_of_lt b.1))
          ∙ sym (both K.nil u.0 u.1));
      product_is = λ x y hx hy. product_pairs x y hx hy;
      sum_is = λ x y hx hy. same_tuple _ _ (ap₂ (λ x y. x ∷ y ∷ [])
          (same M _ _ (xor_mod x y M.width))
          (same M _ _ (ap (λ z. z % 2 ^ M.width) (xor_shr x y M.width) ∙ xor_mod (x / 2 ^ M.width) (y / 2 ^ M.width) M.width)));
      zero_is = same_tuple _ _ (ap₂ (λ x y. x ∷ y ∷ []) (same M _ _ (mod-eq_of_lt (pow_pos M.width))) (same M _ _ (over 0 (pow_pos M.width))));
      one_is = same_tuple _ _ (ap₂ (λ x y. x ∷ y ∷ []) (same M _ _ (mod-eq_of_lt s.one_code)) (same M _ _ (over M.one s.one_code)));
      one_code = one_lt;
    }
      where
        over : (x : ℕ) → x < 2 ^ M.width → x / 2 ^ M.width % 2 ^ M.width ≡ 0
        over x h = ap (λ z. z / 2 ^ M.width % 2 ^ M.width) (omega arith) ∙ ap (λ z. z % 2 ^ M.width) (high 0 M.width h) ∙ mod-eq_of_lt (pow_pos M.width)

        product_pairs : (x y : ℕ) → x < 2 ^ (2 * M.width) → y < 2 ^ (2 * M.width)
            → tower_product M element x y ≡ from ((quotient K (relation K C)).mul (to x) (to y))
        product_pairs x y hx hy =
            ap₂ (product_by (x % 2 ^ M.width) (y % 2 ^ M.width)) (sym (high_is x hx)) (sym (high_is y hy))
            ∙ sym (ap from (pair_mul (code_ring M s L) C (half x) (half (x / 2 ^ M.width)) (half y) (half (y / 2 ^ M.width))))

    pub live_laws : Laws (tower_by true M c)
    unfolding tower_by K
    live_laws = carried_laws tower_carried (quotient_ring (code_ring M s L) (relation K C)) (omega (arith, s.at_least)) L.one_not_zero
        (λ u. ap (λ k. power (quotient K (relation K C)) u (2 ^ k)) (two-mul M.width)
        ∙ tower_returns (code_ring M s L) C (code_own_square M s L) no_root M.width (code_returns M s L) u)
        (own_squares (code_ring M s L) C (code_own_square M s L) no_root)

-- ---- every field and every c

module _ (M : Meaning) (s : Shape M) (c : ℕ) where
  pub tower_shape : Shape (tower M c)
  unfolding tower
  tower_shape = by (leb M.width 4) refl
    where
      by : (b : Bool) → leb M.width 4 ≡ b → Shape (tower_by b M c)
      by true e = live_shape M s (leb-true M.width 4 e) c
      by false e = unfold tower_by in dead_shape

  pub tower_laws : (M.sound ≡ true → Laws M) → (tower M c).sound ≡ true → Laws (tower M c)
  unfolding tower tower_by dead
  tower_laws laws = by (leb M.width 4) refl
    where
      by : (b : Bool) → leb M.width 4 ≡ b → (tower_by b M c).sound ≡ true → Laws (tower_by b M c)
      by true e sound =
          let parts = and_parts M.sound (not (has_root M (low_bits M.width c))) sound in
          live_laws M s (leb-true M.width 4 e) c (laws parts.0) (not-true (has_root M (low_bits M.width c)) parts.1)
      by false e sound = absurd (false≢true sound)
