-- The exponent that undoes raising to 1 + q^t, where q is 2^m.
use Rattle.std.specs.Prelude.{◌≡◌, ℕ, zero, suc, ◌+◌, ◌-◌, ◌*◌, ◌%◌, ◌^◌, ◌<◌, ◌≤◌, nat_eq}
use Rattle.algebra.specs.Search.{first_from}

-- how many elements but zero an extension of degree v has
unfoldable pub units : ℕ → ℕ → ℕ
units m v = (2 ^ m) ^ v - 1

-- (1 + q^t)·e leaves 1 on division by q^v − 1
unfoldable pub Undoes : ℕ → ℕ → ℕ → ℕ → Type 0
Undoes m v t e = (1 + (2 ^ m) ^ t) * e % units m v ≡ 1

-- the least such e of at least 1
unfoldable pub inverse_exponent : ℕ → ℕ → ℕ → ℕ
inverse_exponent m v t = first_from 1 (units m v) (λ e. nat_eq ((1 + (2 ^ m) ^ t) * e % units m v) 1)

-- 1 + a + .. + a^(n−1)
unfoldable pub sum_of_powers : ℕ → ℕ → ℕ
sum_of_powers a zero = 0
sum_of_powers a (suc n) = sum_of_powers a n + a ^ n

-- the closed formula, by which a power can be raised to in small steps
unfoldable pub closed_formula : ℕ → ℕ → ℕ → ℕ
closed_formula m l t =
    let q = 2 ^ m in
    (sum_of_powers 2 m * sum_of_powers q t * sum_of_powers (q ^ (2 * t)) l + q ^ (2 * t * l)) * (q ^ (t - 1) * 2 ^ (m - 1))

-- for v = (2l + 1)·2^r and t = b·2^r with b from 1 to l: it undoes, no other number below q^v − 1 does, and the closed formula is congruent to it
pub record Inverse (m l v t : ℕ) : Type 0 where
  pub positive : 1 ≤ inverse_exponent m v t
  pub below : inverse_exponent m v t < units m v
  pub undoes : Undoes m v t (inverse_exponent m v t)
  pub only : (e : ℕ) → e < units m v → Undoes m v t e → e ≡ inverse_exponent m v t
  pub closed : closed_formula m l t % units m v ≡ inverse_exponent m v t

-- so it is for every m of at least 1
abbrev pub InverseStands : Type 0
InverseStands = (m l r b : ℕ) → 1 ≤ m → 1 ≤ l → 1 ≤ b → b ≤ l → Inverse m l ((2 * l + 1) * 2 ^ r) (b * 2 ^ r)

-- the sizes and exponents of the system: v = (2l + 1)·2^r with l at least 1, and t = b·2^r with b from 1 to l
pub record Suits (v l t : ℕ) : Type 0 where
  pub r : ℕ
  pub b : ℕ
  pub l_some : 1 ≤ l
  pub b_some : 1 ≤ b
  pub b_most : b ≤ l
  pub size : v ≡ (2 * l + 1) * 2 ^ r
  pub exponent : t ≡ b * 2 ^ r
