-- A chain to n makes the product of n terms.
-- Assumes nothing.
use Rattle.std.proofs.Common.{◌≡◌, ℕ, zero, suc, ◌+◌, ◌*◌, ◌/◌, ◌%◌, ◌^◌, ◌<◌, ◌≤◌, Bool, true, false, eqb, List, [], ◌∷◌, sym, refl, ap, ◌∙◌, add-zero, add-suc, mod-lt, one-mul, pow-suc, mul-zero, zero-add, suc-ne-zero, div-one, two-mul, add-one as add-one-is, arith, pow-add}
use native.Mathlib.Nat.{pow-zero, mod-add-div, div-div-eq-div-mul, div-eq_of_lt-le}
use Rattle.std.proofs.lemmas.Bool.{eq-eqb, ne_eqb, eqb-true, eqb-false}
use Rattle.algebra.specs.Operations.{Ops, Ring2, power}
use Rattle.algebra.specs.Exponent.{sum_of_powers}
use Rattle.algebra.specs.Shift.{highest_bit}
use Rattle.algebra.specs.Chains.{Step, double, add_one, for_bit, steps_for, chain, follow, by_chain}
use Rattle.algebra.proofs.Degree.{Highest, highest, highest_only}
use Rattle.algebra.proofs.Exponent.{telescopes}
use Rattle.algebra.proofs.Powers.{power_one, power_add, power_mul}

-- ---- sums of powers

pub pow_one : (s : ℕ) → s ^ 1 ≡ s
pow_one s = pow-suc s 0 ∙ ap (λ z. z * s) (pow-zero s) ∙ one-mul s

sum_add : (s k j : ℕ) → sum_of_powers s (k + j) ≡ sum_of_powers s k + s ^ k * sum_of_powers s j
unfolding sum_of_powers
sum_add s k zero = ap (sum_of_powers s) (add-zero k) ∙ omega (arith, mul-zero (s ^ k))
sum_add s k (suc j) =
    let S = sum_of_powers s k in
    let T = sum_of_powers s j in
    let e = sum_add s k j in
    let d : s ^ (k + j) ≡ s ^ k * s ^ j = pow-add s k j in
    let p : s ^ k * (T + s ^ j) ≡ s ^ k * T + s ^ k * s ^ j = omega arith in
    ap (sum_of_powers s) (add-suc k j) ∙ omega (arith, e, d, p)

sum_double : (s k : ℕ) → sum_of_powers s k * s ^ k + sum_of_powers s k ≡ sum_of_powers s (2 * k)
sum_double s k =
    let S = sum_of_powers s k in
    let d : S * s ^ k + S ≡ S + s ^ k * S = omega arith in
    d ∙ sym (sum_add s k k) ∙ ap (sum_of_powers s) (sym (two-mul k))

sum_next : (s k : ℕ) → suc (sum_of_powers s k * s ^ 1) ≡ sum_of_powers s (k + 1)
unfolding sum_of_powers
sum_next s k =
    let S = sum_of_powers s k in
    let d : suc (S * s ^ 1) ≡ s * S + 1 = ap (λ z. suc (S * z)) (pow_one s) ∙ omega arith in
    d ∙ telescopes s k ∙ ap (sum_of_powers s) (sym (add-one-is k))

-- ---- how far steps reach

-- the number of terms after steps that begin with k
reached : List Step → ℕ → ℕ
reached [] k = k
reached (double ∷ steps) k = reached steps (2 * k)
reached (add_one ∷ steps) k = reached steps (k + 1)

-- what a bit of n is to its parts above and below
bit_above : (n i : ℕ) → n / 2 ^ i ≡ 2 * (n / 2 ^ suc i) + n / 2 ^ i % 2
bit_above n i =
    let x = n / 2 ^ i in
    let half : n / 2 ^ suc i ≡ x / 2 = ap (λ z. n / z) (pow-suc 2 i) ∙ sym (div-div-eq-div-mul n (2 ^ i) 2) in
    omega (arith, mod-add-div x 2, half)

bit_set : (n i : ℕ) → eqb (n / 2 ^ i % 2) 1 ≡ true → 2 * (n / 2 ^ suc i) + 1 ≡ n / 2 ^ i
bit_set n i e = omega (arith, bit_above n i, eqb-true (n / 2 ^ i % 2) 1 e)

bit_clear : (n i : ℕ) → eqb (n / 2 ^ i % 2) 1 ≡ false → 2 * (n / 2 ^ suc i) ≡ n / 2 ^ i
bit_clear n i e =
    let less : n / 2 ^ i % 2 < 2 = mod-lt (n / 2 ^ i) (omega arith) in
    let other = eqb-false (n / 2 ^ i % 2) 1 e in
    omega (arith, bit_above n i, other)

reach_all : (n i : ℕ) → reached (steps_for n i) (n / 2 ^ i) ≡ n
unfolding steps_for for_bit reached
reach_all n zero = ap (λ z. n / z) (pow-zero 2) ∙ div-one n
reach_all n (suc i) = at (eqb (n / 2 ^ i % 2) 1) refl ∙ reach_all n i
  where
    at : (b : Bool) → eqb (n / 2 ^ i % 2) 1 ≡ b → reached (for_bit b (steps_for n i)) (2 * (n / 2 ^ suc i)) ≡ reached (steps_for n i) (n / 2 ^ i)
    at true e = ap (reached (steps_for n i)) (bit_set n i e)
    at false e = ap (reached (steps_for n i)) (bit_clear n i e)

-- the highest bit stands alone
top_bit : (n h : ℕ) → 2 ^ h ≤ n → n < 2 * 2 ^ h → n / 2 ^ h ≡ 1
top_bit n h low high =
    let at_least : 1 * 2 ^ h ≤ n = omega arith in
    let below : n < (1 + 1) * 2 ^ h = omega arith in
    div-eq_of_lt-le (2 ^ h) at_least below

below_power : (n : ℕ) → n < 2 ^ suc n
below_power zero = omega (arith, pow_one 2)
below_power (suc n) = let h = below_power n in omega (arith, pow-suc 2 (suc n))

log2_is : (n : ℕ) → 1 ≤ n → Highest n n (highest_bit n n)
log2_is n h = highest n n h (below_power n)

-- ---- a chain turn by turn, for a loop over the bits

module _ {A : Type 0} (product : A → A → A) (raised : ℕ → A → A) (u : A) (n : ℕ) where
  pub chain_start : (h : ℕ) → 1 ≤ n → 2 ^ h ≤ n → n < 2 * 2 ^ h → follow product raised u (steps_for n h) (n / 2 ^ h) u ≡ by_chain product raised n u
  unfolding by_chain chain
  chain_start h some low high =
      ap (λ k. follow product raised u (steps_for n h) k u) (top_bit n h low high)
      ∙ ap (λ k. follow product raised u (steps_for n k) 1 u) (highest_only n n (highest_bit n n) h (log2_is n some) low high)

  pub chain_end : (i : ℕ) (x : A) → i ≡ 0 → follow product raised u (steps_for n i) (n / 2 ^ i) x ≡ x
  unfolding steps_for follow
  chain_end zero x e = refl
  chain_end (suc i) x e = absurd (suc-ne-zero i e)

  pub turn_set : (i : ℕ) (x : A) → n / 2 ^ i % 2 ≡ 1
      → follow product raised u (steps_for n i) (n / 2 ^ i) (product u (raised 1 (product (raised (n / 2 ^ suc i) x) x)))
      ≡ follow product raised u (steps_for n (suc i)) (n / 2 ^ suc i) x
  unfolding steps_for follow for_bit
  turn_set i x e =
      let b : eqb (n / 2 ^ i % 2) 1 ≡ true = eq-eqb (n / 2 ^ i % 2) 1 e in
      let y = product (raised (n / 2 ^ suc i) x) x in
      ap (λ k. follow product raised u (steps_for n i) k (product u (raised 1 y))) (sym (bit_set n i b))
      ∙ ap (λ z. follow product raised u (for_bit z (steps_for n i)) (2 * (n / 2 ^ suc i)) y) (sym b)

  pub turn_clear : (i : ℕ) (x : A) → (n / 2 ^ i % 2 ≡ 1 → ⊥)
      → follow product raised u (steps_for n i) (n / 2 ^ i) (product (raised (n / 2 ^ suc i) x) x) ≡ follow product raised u (steps_for n (suc i)) (n / 2 ^ suc i) x
  unfolding steps_for follow for_bit
  turn_clear i x other =
      let b : eqb (n / 2 ^ i % 2) 1 ≡ false = ne_eqb (n / 2 ^ i % 2) 1 other in
      let y = product (raised (n / 2 ^ suc i) x) x in
      ap (λ k. follow product raised u (steps_for n i) k y) (sym (bit_clear n i b))
      ∙ ap (λ z. follow product raised u (for_bit z (steps_for n i)) (2 * (n / 2 ^ suc i)) y) (sym b)

chain_reaches : (n : ℕ) → 1 ≤ n → reached (chain n) 1 ≡ n
unfolding chain
chain_reaches n h =
    let top = log2_is n h in
    ap (reached (steps_for n (highest_bit n n))) (sym (top_bit n (highest_bit n n) top.reaches (omega (arith, top.stays_below, pow-suc 2 (highest_bit n n)))))
    ∙ reach_all n (highest_bit n n)

-- ---- what steps make in a ring

module _ {A : Type 0} {O : Ops A} (R : Ring2 O) (s : ℕ) (u : A) where
  follow_power : (steps : List Step) (k : ℕ)
      → follow O.mul (λ j x. power O x (s ^ j)) u steps k (power O u (sum_of_powers s k)) ≡ power O u (sum_of_powers s (reached steps k))
  unfolding follow reached power
  follow_power [] k = refl
  follow_power (double ∷ steps) k =
      let S = sum_of_powers s k in
      ap (follow O.mul (λ j x. power O x (s ^ j)) u steps (2 * k))
      (ap (λ z. O.mul z (power O u S)) (sym (power_mul R u S (s ^ k))) ∙ sym (power_add R u (S * s ^ k) S) ∙ ap (power O u) (sum_double s k))
      ∙ follow_power steps (2 * k)
  follow_power (add_one ∷ steps) k = more ∙ follow_power steps (k + 1)
    where
      more : follow O.mul (λ j x. power O x (s ^ j)) u steps (k + 1) (O.mul u (power O (power O u (sum_of_powers s k)) (s ^ 1)))
          ≡ follow O.mul (λ j x. power O x (s ^ j)) u steps (k + 1) (power O u (sum_of_powers s (k + 1)))
      more =
          let S = sum_of_powers s k in
          ap (follow O.mul (λ j x. power O x (s ^ j)) u steps (k + 1))
          (ap (O.mul u) (sym (power_mul R u S (s ^ 1))) ∙ ap (power O u) (sum_next s k))

-- ---- and under a map from a ring, as from blocks of codes to lists

module _ {A B : Type 0} (O : Ops B) (h : B → A) (product : A → A → A) (raised : ℕ → A → A) (s : ℕ)
    (products : (x y : B) → product (h x) (h y) ≡ h (O.mul x y)) (powers : (j : ℕ) (x : B) → raised j (h x) ≡ h (power O x (s ^ j))) where
  follow_map : (u : B) (steps : List Step) (k : ℕ) (x : B)
      → follow product raised (h u) steps k (h x) ≡ h (follow O.mul (λ j y. power O y (s ^ j)) u steps k x)
  unfolding follow
  follow_map u [] k x = refl
  follow_map u (double ∷ steps) k x =
      ap (follow product raised (h u) steps (2 * k)) (ap (λ z. product z (h x)) (powers k x) ∙ products (power O x (s ^ k)) x)
      ∙ follow_map u steps (2 * k) (O.mul (power O x (s ^ k)) x)
  follow_map u (add_one ∷ steps) k x =
      ap (follow product raised (h u) steps (k + 1)) (ap (product (h u)) (powers 1 x) ∙ products u (power O x (s ^ 1)))
      ∙ follow_map u steps (k + 1) (O.mul u (power O x (s ^ 1)))

  -- the chain to n raises to 1 + s + .. + s^(n−1)
  pub chain_power : Ring2 O → (n : ℕ) → 1 ≤ n → (u : B) → by_chain product raised n (h u) ≡ h (power O u (sum_of_powers s n))
  unfolding by_chain sum_of_powers
  chain_power R n some u =
      follow_map u (chain n) 1 u
      ∙ ap h (ap (follow O.mul (λ j y. power O y (s ^ j)) u (chain n) 1) first ∙ follow_power R s u (chain n) 1 ∙ ap (λ k. power O u (sum_of_powers s k)) (chain_reaches n some))
    where
      first : u ≡ power O u (sum_of_powers s 1)
      first = sym (power_one R u) ∙ ap (power O u) (sym (pow-zero s) ∙ sym (zero-add (s ^ 0)))
