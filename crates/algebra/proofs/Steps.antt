-- The two steps undo each other.
-- Assumes nothing.
use Rattle.std.proofs.Common.{◌≡◌, ℕ, zero, suc, ◌+◌, ◌-◌, ◌*◌, ◌/◌, ◌^◌, ◌≤◌, sym, refl, ap, ◌∙◌, mul_comm, mul-zero, mul-suc, arith}
use native.Mathlib.Nat.{mod-add-div}
use Rattle.algebra.specs.Operations.{Ops, Ring2, power}
use Rattle.algebra.specs.Exponent.{units, Undoes, inverse_exponent, closed_formula, Inverse, Suits}
use Rattle.algebra.specs.Steps.{Undone, StepsUndo}
use Rattle.algebra.proofs.Powers.{power_one, power_add, power_mul}
use Rattle.algebra.proofs.Exponent.{inverse_suits, unit_count, quotient_of}

module _ {A : Type 0} {O : Ops A} (R : Ring2 O) (N : ℕ) (returns : (u : A) → power O u (N + 1) ≡ u) where
  -- whole rounds change nothing
  rounds : (u : A) (k : ℕ) → power O u (1 + N * k) ≡ u
  rounds u zero = ap (λ z. power O u (1 + z)) (mul-zero N) ∙ power_one R u
  rounds u (suc k) =
      let size : 1 + N * suc k ≡ (1 + N * k) + N = omega (arith, mul-suc N k) in
      ap (power O u) size ∙ power_add R u (1 + N * k) N ∙ ap (λ z. O.mul z (power O u N)) (rounds u k ∙ sym (power_one R u))
      ∙ sym (power_add R u 1 N) ∙ ap (power O u) (omega arith) ∙ returns u

  -- exponents of at least 1 that differ by whole rounds give one power
  pub round_off : (u : A) (e k : ℕ) → 1 ≤ e → power O u (e + N * k) ≡ power O u e
  round_off u e k pos =
      let size : e + N * k ≡ (e - 1) + (1 + N * k) = omega arith in
      let back : (e - 1) + 1 ≡ e = omega arith in
      ap (power O u) size ∙ power_add R u (e - 1) (1 + N * k) ∙ ap (O.mul (power O u (e - 1))) (rounds u k ∙ sym (power_one R u))
      ∙ sym (power_add R u (e - 1) 1) ∙ ap (power O u) back

-- the two steps undo each other, for the sizes and exponents of the system
pub suited_steps_undo : {A : Type 0} {O : Ops A} → Ring2 O
    → (m l v t : ℕ) → 1 ≤ m → Suits v l t → ((u : A) → power O u ((2 ^ m) ^ v) ≡ u) → (u : A) → Undone O m l v t u
unfolding Undoes
suited_steps_undo {A} {O} R m l v t hm suits returns u =
    let N = units m v in
    let step = 1 + (2 ^ m) ^ t in
    let e = inverse_exponent m v t in
    let inv : Inverse m l v t = inverse_suits m l v t hm suits in
    let back : (x : A) → power O x (N + 1) ≡ x = λ x. ap (power O x) (unit_count m l v t hm suits) ∙ returns x in
    let k = step * e / N in
    let product : step * e ≡ 1 + N * k = quotient_of N (step * e) inv.undoes in
    let F = closed_formula m l t in
    let formula : F ≡ e + N * (F / N) = sym (mod-add-div F N) ∙ ap (λ z. z + N * (F / N)) inv.closed in
    record {
      there_and_back = sym (power_mul R u step e) ∙ ap (power O u) product ∙ rounds R N back u k;
      back_and_there = sym (power_mul R u e step) ∙ ap (power O u) (mul_comm e step ∙ product) ∙ rounds R N back u k;
      by_formula = ap (power O u) formula ∙ round_off R N back u e (F / N) inv.positive;
    }

pub steps_undo : {A : Type 0} {O : Ops A} → Ring2 O → StepsUndo O
steps_undo {A} {O} R m l r b hm hl hb h =
    suited_steps_undo R m l ((2 * l + 1) * 2 ^ r) (b * 2 ^ r) hm
    (record { r = r; b = b; l_some = hl; b_some = hb; b_most = h; size = refl; exponent = refl })
