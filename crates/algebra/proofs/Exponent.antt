-- The exponent that undoes 1 + q^t exists, is the only one, and is given by the closed formula.
-- Assumes nothing.
use Rattle.std.proofs.Common.{◌≡◌, ℕ, zero, suc, ◌+◌, ◌-◌, ◌*◌, ◌/◌, ◌%◌, ◌^◌, ◌<◌, ◌≤◌, Bool, eqb, sym, refl, ap, ◌∙◌, subst, ap₂, mod-lt, mod-eq_of_lt, mul_comm, pow-suc, mul-zero, mul-suc, two-mul, arith, pow_pos, pow_mono, pow-add}
use native.Mathlib.Nat.{pow-zero, add-mul-mod_self_left, mod-add-div}
use Rattle.std.proofs.lemmas.Nat.{mul-le}
use Rattle.std.proofs.lemmas.Bool.{eq-eqb, eqb-true}
use Rattle.algebra.specs.Search.{first_from}
use Rattle.algebra.specs.Exponent.{units, Undoes, inverse_exponent, sum_of_powers, closed_formula, Inverse, Suits, InverseStands}
use Rattle.algebra.proofs.Search.{first_passes, first_reaches, first_start}

-- ---- powers

pub power_power : (a i j : ℕ) → (a ^ i) ^ j ≡ a ^ (i * j)
power_power a i zero = pow-zero (a ^ i) ∙ sym (pow-zero a) ∙ ap (λ k. a ^ k) (sym (mul-zero i))
power_power a i (suc j) =
    pow-suc (a ^ i) j ∙ ap (λ z. z * a ^ i) (power_power a i j) ∙ sym (pow-add a (i * j) i) ∙ ap (λ k. a ^ k) (sym (mul-suc i j))

-- a·(1 + a + .. + a^(n−1)) + 1 is that sum and a^n
pub telescopes : (a n : ℕ) → a * sum_of_powers a n + 1 ≡ sum_of_powers a n + a ^ n
unfolding sum_of_powers
telescopes a zero = omega (arith, pow-zero a)
telescopes a (suc n) =
    let h = telescopes a n in
    let S = sum_of_powers a n in
    let p = a ^ n in
    let e : a ^ suc n ≡ p * a = pow-suc a n in
    let d : a * (S + p) + 1 ≡ (a * S + 1) + p * a = omega arith in
    d ∙ ap₂ (λ x y. x + y) h (sym e)

-- ---- the closed formula times 1 + q^t

-- with Q for q^t: the sums over 2^i and q^j give Q − 1
less_one : (q Q A B : ℕ) → A + 1 ≡ q → q * B + 1 ≡ B + Q → A * B + 1 ≡ Q
less_one q Q A B is e = let h : (A + 1) * B + 1 ≡ B + Q = ap (λ z. z * B + 1) is ∙ e in omega arith

-- the sum over Q^(2k), times Q² − 1, gives Q^(2l) − 1
all_but_one : (P C W : ℕ) → (P + 1) * (P + 1) * C + 1 ≡ C + W → (1 + (P + 1)) * (P * C) + 1 ≡ W
all_but_one P C W e = omega arith

whole_product : (P C W H : ℕ) → (P + 1) * (P + 1) * C + 1 ≡ C + W → 2 * H ≡ P + 1
    → (1 + (P + 1)) * ((P * C + W) * H) + H ≡ W * (P + 1) + W * (P + 1) * H
whole_product P C W H e half =
    let Q = P + 1 in
    let U = (1 + Q) * (P * C) in
    let u : U + 1 ≡ W = all_but_one P C W e in
    let first : (1 + Q) * ((P * C + W) * H) + H ≡ (U + 1) * H + (1 + Q) * (W * H) = by_parts (1 + Q) (P * C) W H in
    let second : W * H + (1 + Q) * (W * H) ≡ W * (2 * H) + W * Q * H = regroup Q W H in
    first ∙ ap (λ z. z * H + (1 + Q) * (W * H)) u ∙ second ∙ ap (λ z. W * z + W * Q * H) half
  where
    by_parts : (R x w h : ℕ) → R * ((x + w) * h) + h ≡ (R * x + 1) * h + R * (w * h)
    by_parts R x w h = omega arith

    regroup : (Q W H : ℕ) → W * H + (1 + Q) * (W * H) ≡ W * (2 * H) + W * Q * H
    regroup Q W H = omega arith

-- X^b is 1 more than a multiple of X − 1
one_more_than : (N b : ℕ) → (N + 1) ^ b ≡ 1 + N * sum_of_powers (N + 1) b
one_more_than N b =
    let S = sum_of_powers (N + 1) b in
    let t = telescopes (N + 1) b in
    let x = (N + 1) ^ b in
    let d : (N + 1) * S + 1 ≡ S + (1 + N * S) = omega arith in
    omega (arith, t, d)

-- so the product leaves 1 on division by N
leaves_one : (N k F V H R : ℕ) → V ≡ 1 + N * k → R * F + H ≡ V + V * H → R * F ≡ 1 + N * (k * (1 + H))
leaves_one N k F V H R v e =
    let f : R * F + H ≡ (1 + N * k) + (1 + N * k) * H = e ∙ ap (λ z. z + z * H) v in
    let d : (1 + N * k) + (1 + N * k) * H ≡ (1 + N * (k * (1 + H))) + H = spread N k H in
    omega (arith, f, d)
  where
    spread : (N k H : ℕ) → (1 + N * k) + (1 + N * k) * H ≡ (1 + N * (k * (1 + H))) + H
    spread N k H = omega arith

-- ---- residues

-- what leaves 1, as an equation
pub quotient_of : (N x : ℕ) → x % N ≡ 1 → x ≡ 1 + N * (x / N)
quotient_of N x e = sym (ap (λ z. z + N * (x / N)) (sym e) ∙ mod-add-div x N)

-- a product's residue goes by its factor's
factor_residue : (N h x : ℕ) → h * (x % N) % N ≡ h * x % N
factor_residue N h x =
    let q = x / N in
    let e : h * x ≡ h * (x % N) + N * (h * q) = ap (λ z. h * z) (sym (mod-add-div x N)) ∙ spread h (x % N) N q in
    sym (ap (λ z. z % N) e ∙ add-mul-mod_self_left (h * (x % N)) N (h * q))
  where
    spread : (h r N q : ℕ) → h * (r + N * q) ≡ h * r + N * (h * q)
    spread h r N q = omega arith

-- and by both factors'
pub both_residues : (N x y : ℕ) → (x % N) * (y % N) % N ≡ x * y % N
both_residues N x y =
    factor_residue N (x % N) y ∙ ap (λ z. z % N) (mul_comm (x % N) y) ∙ factor_residue N y x ∙ ap (λ z. z % N) (mul_comm y x)

one_inverse : (N h x y : ℕ) → x < N → y < N → h * x % N ≡ 1 → h * y % N ≡ 1 → x ≡ y
one_inverse N h x y hx hy ex ey =
    let i = h * x / N in
    let j = h * y / N in
    let left : x * (h * y) ≡ x + N * (x * j) = ap (λ z. x * z) (quotient_of N (h * y) ey) ∙ out x N j in
    let right : h * x * y ≡ y + N * (i * y) = ap (λ z. z * y) (quotient_of N (h * x) ex) ∙ in_front y N i in
    let same : x + N * (x * j) ≡ y + N * (i * y) = sym left ∙ turned h x y ∙ right in
    sym (mod-eq_of_lt hx) ∙ sym (add-mul-mod_self_left x N (x * j)) ∙ ap (λ z. z % N) same ∙ add-mul-mod_self_left y N (i * y) ∙ mod-eq_of_lt hy
  where
    out : (x N j : ℕ) → x * (1 + N * j) ≡ x + N * (x * j)
    out x N j = omega arith

    in_front : (y N i : ℕ) → (1 + N * i) * y ≡ y + N * (i * y)
    in_front y N i = omega arith

    turned : (h x y : ℕ) → x * (h * y) ≡ h * x * y
    turned h x y = omega arith

-- ---- put together

module _ (m l r b : ℕ) (hm : 1 ≤ m) (hl : 1 ≤ l) (hb : 1 ≤ b) where
  q : ℕ
  q = 2 ^ m

  v : ℕ
  v = (2 * l + 1) * 2 ^ r

  t : ℕ
  t = b * 2 ^ r

  N : ℕ
  N = units m v

  t_positive : 1 ≤ t
  unfolding t
  t_positive = mul-le 1 1 b (2 ^ r) hb (pow_pos r)

  v_wide : 2 ≤ v
  unfolding v
  v_wide = mul-le 2 1 (2 * l + 1) (2 ^ r) (omega arith) (pow_pos r)

  -- q^v is N + 1, and N is at least 3
  size : N + 1 ≡ q ^ v
  unfolding N units q
  size = let p : 1 ≤ (2 ^ m) ^ v = subst (λ z. 1 ≤ z) (sym (power_power 2 m v)) (pow_pos (m * v)) in omega arith

  n_large : 3 ≤ N
  unfolding q
  n_large =
      let wide : 2 ≤ m * v = mul-le 1 2 m v hm v_wide in
      let four : 2 ^ 2 ≤ 2 ^ (m * v) = pow_mono wide in
      omega (arith, size, power_power 2 m v)

  F : ℕ
  F = closed_formula m l t

  half_is : 2 * (q ^ (t - 1) * 2 ^ (m - 1)) ≡ q ^ t
  unfolding q
  half_is =
      let m-is : suc (m - 1) ≡ m = omega arith in
      let t-is : suc (t - 1) ≡ t = omega (arith, t_positive) in
      turned (q ^ (t - 1)) (2 ^ (m - 1)) ∙ ap (λ z. q ^ (t - 1) * z) (sym (pow-suc 2 (m - 1)) ∙ ap (λ k. 2 ^ k) m-is)
      ∙ sym (pow-suc q (t - 1)) ∙ ap (λ k. q ^ k) t-is
    where
      turned : (x y : ℕ) → 2 * (x * y) ≡ x * (y * 2)
      turned x y = omega arith

  -- q^(2tl) times q^t is q^v to the power b
  top_is : q ^ (2 * t * l) * q ^ t ≡ (N + 1) ^ b
  unfolding t v
  top_is =
      sym (pow-add q (2 * t * l) t) ∙ ap (λ k. q ^ k) (count b (2 ^ r) l) ∙ sym (power_power q v b) ∙ ap (λ z. z ^ b) (sym size)
    where
      count : (b p l : ℕ) → 2 * (b * p) * l + b * p ≡ (2 * l + 1) * p * b
      count b p l = omega arith

  formula_is : (1 + q ^ t) * F ≡ 1 + N * (sum_of_powers (N + 1) b * (1 + q ^ (t - 1) * 2 ^ (m - 1)))
  unfolding F closed_formula q
  formula_is =
      let A = sum_of_powers 2 m in
      let B = sum_of_powers q t in
      let C = sum_of_powers (q ^ (2 * t)) l in
      let W = q ^ (2 * t * l) in
      let H = q ^ (t - 1) * 2 ^ (m - 1) in
      let P = A * B in
      let a : A + 1 ≡ q = let e = telescopes 2 m in omega (arith, e) in
      let p : P + 1 ≡ q ^ t = less_one q (q ^ t) A B a (telescopes q t) in
      let square : q ^ (2 * t) ≡ (P + 1) * (P + 1) = ap (λ k. q ^ k) (two-mul t) ∙ pow-add q t t ∙ ap₂ ◌*◌ (sym p) (sym p) in
      let c : (P + 1) * (P + 1) * C + 1 ≡ C + W
      = ap (λ z. z * C + 1) (sym square) ∙ telescopes (q ^ (2 * t)) l ∙ ap (λ z. C + z) (power_power q (2 * t) l) in
      let whole = whole_product P C W H c (half_is ∙ sym p) in
      let v-is : W * (P + 1) ≡ 1 + N * sum_of_powers (N + 1) b = ap (λ z. W * z) p ∙ top_is ∙ one_more_than N b in
      ap (λ z. (1 + z) * ((A * B * C + W) * H)) (sym p)
      ∙ leaves_one N (sum_of_powers (N + 1) b) ((P * C + W) * H) (W * (P + 1)) H (1 + (P + 1)) v-is whole

  residue : ℕ
  residue = F % N

  residue_undoes : (1 + q ^ t) * residue % N ≡ 1
  unfolding residue
  residue_undoes =
      factor_residue N (1 + q ^ t) F ∙ ap (λ z. z % N) formula_is
      ∙ add-mul-mod_self_left 1 N (sum_of_powers (N + 1) b * (1 + q ^ (t - 1) * 2 ^ (m - 1))) ∙ mod-eq_of_lt (omega (arith, n_large))

  residue_positive : 1 ≤ residue
  residue_positive = at residue refl
    where
      at : (x : ℕ) → residue ≡ x → 1 ≤ x
      at zero e =
          let none : (1 + q ^ t) * residue % N ≡ 0 = ap (λ z. (1 + q ^ t) * z % N) e ∙ ap (λ z. z % N) (mul-zero (1 + q ^ t)) ∙ mod-eq_of_lt (omega (arith, n_large)) in
          absurd (omega (arith, none, residue_undoes))
      at (suc x) e = omega arith

  residue_below : residue < N
  unfolding residue
  residue_below = mod-lt F (omega (arith, n_large))

  test : ℕ → Bool
  test e = eqb ((1 + q ^ t) * e % N) 1

  least : ℕ
  least = first_from 1 N test

  least_reaches : least ≤ residue
  unfolding least test
  least_reaches =
      first_reaches test N 1 residue residue_positive (omega (arith, residue_below)) (eq-eqb ((1 + q ^ t) * residue % N) 1 residue_undoes)

  least_undoes : (1 + q ^ t) * least % N ≡ 1
  unfolding least test
  least_undoes =
      eqb-true ((1 + q ^ t) * least % N) 1 (first_passes test N 1 (omega (arith, least_reaches, residue_below)))

  least_below : least < N
  least_below = omega (arith, least_reaches, residue_below)

  inverse_is : Inverse m l ((2 * l + 1) * 2 ^ r) (b * 2 ^ r)
  unfolding inverse_exponent Undoes least test N q v t F residue
  inverse_is = record {
    positive = first_start test N 1;
    below = least_below;
    undoes = least_undoes;
    only = λ e h undoes. one_inverse N (1 + q ^ t) e least h least_below undoes least_undoes;
    closed = one_inverse N (1 + q ^ t) residue least residue_below least_below residue_undoes least_undoes;
  }

pub inverse_stands : InverseStands
inverse_stands m l r b hm hl hb h = inverse_is m l r b hm hl hb

-- so it is for the sizes and exponents of the system
pub inverse_suits : (m l v t : ℕ) → 1 ≤ m → Suits v l t → Inverse m l v t
inverse_suits m l v t hm s =
    subst (λ z. Inverse m l z t) (sym s.size) (subst (Inverse m l ((2 * l + 1) * 2 ^ s.r)) (sym s.exponent) (inverse_is m l s.r s.b hm s.l_some s.b_some))

-- q^v − 1 is one less than q^v
pub unit_count : (m l v t : ℕ) → 1 ≤ m → Suits v l t → units m v + 1 ≡ (2 ^ m) ^ v
unfolding N q v
unit_count m l v t hm s = subst (λ z. units m z + 1 ≡ (2 ^ m) ^ z) (sym s.size) (size m l s.r s.b hm s.l_some s.b_some)
