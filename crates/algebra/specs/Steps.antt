-- Raising to 1 + q^t and to the exponent that undoes it, in any ring in which every element is its own q^v-th power.
use Rattle.std.specs.Prelude.{◌≡◌, ℕ, ◌+◌, ◌*◌, ◌^◌, ◌≤◌}
use Rattle.algebra.specs.Operations.{Ops, power}
use Rattle.algebra.specs.Exponent.{inverse_exponent, closed_formula}

-- the two steps undo each other at every element, zero included, and the closed formula may stand for the inverse exponent
pub record Undone {A : Type 0} (O : Ops A) (m l v t : ℕ) (u : A) : Type 0 where
  pub there_and_back : power O (power O u (1 + (2 ^ m) ^ t)) (inverse_exponent m v t) ≡ u
  pub back_and_there : power O (power O u (inverse_exponent m v t)) (1 + (2 ^ m) ^ t) ≡ u
  pub by_formula : power O u (closed_formula m l t) ≡ power O u (inverse_exponent m v t)

-- for v = (2l + 1)·2^r and t = b·2^r with b from 1 to l
abbrev pub StepsUndo : {A : Type 0} → Ops A → Type 0
StepsUndo {A} O =
    (m l r b : ℕ) → 1 ≤ m → 1 ≤ l → 1 ≤ b → b ≤ l → ((u : A) → power O u ((2 ^ m) ^ ((2 * l + 1) * 2 ^ r)) ≡ u)
    → (u : A) → Undone O m l ((2 * l + 1) * 2 ^ r) (b * 2 ^ r) u
