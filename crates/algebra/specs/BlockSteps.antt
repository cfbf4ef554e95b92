-- The two steps on blocks: raising to 1 + q^t, and raising to the exponent that undoes it, in small steps.
use Rattle.std.specs.Prelude.{ℕ, ◌+◌, ◌-◌, ◌*◌, ◌%◌, ◌^◌, List}
use Rattle.algebra.specs.Operations.{power}
use Rattle.algebra.specs.Exponent.{inverse_exponent, Suits}
use Rattle.algebra.specs.Steps.{Undone}
use Rattle.algebra.specs.Iteration.{iterate}
use Rattle.algebra.specs.Chains.{by_chain}
use Rattle.algebra.specs.Arithmetic.{Arithmetic, BlockOf, block_operations, Lawful, Returns}

module _ (A : Arithmetic) where
  -- squared c times
  unfoldable pub squares : ℕ → List ℕ → List ℕ
  squares c u = iterate (λ x. A.product x x) c u

  -- raised to q^k, c times over; since q^v-th powers change nothing, k·c counts modulo v
  unfoldable pub q_powers : ℕ → ℕ → List ℕ → List ℕ
  q_powers k c u = iterate A.q_power (k * c % A.size) u

  -- u^(q^t) times u
  unfoldable pub forward_step : ℕ → List ℕ → List ℕ
  forward_step t u = A.product (iterate A.q_power t u) u

  -- the closed formula in small steps: u to 1 + 2 + .. + 2^(m−1), that to 1 + q + .. + q^(t−1), that to 1 + q^(2t) + .. + q^(2t(l−1)),
  -- times u^(q^(2tl)), and all that to q^(t−1) and 2^(m−1)
  unfoldable pub back_step : ℕ → ℕ → List ℕ → List ℕ
  back_step l t u =
      let m = A.field.width in
      let low = by_chain A.product squares m u in
      let middle = by_chain A.product (q_powers 1) t low in
      let high = by_chain A.product (q_powers (2 * t)) l middle in
      squares (m - 1) (q_powers 1 (t - 1) (A.product (q_powers (2 * t) l u) high))

  -- u to the power 1 + q^t
  abbrev pub forward_power : ℕ → List ℕ → List ℕ
  forward_power t u = power (block_operations A) u (1 + (2 ^ A.field.width) ^ t)

  -- u to the exponent that undoes 1 + q^t
  abbrev pub back_power : ℕ → List ℕ → List ℕ
  back_power t u = power (block_operations A) u (inverse_exponent A.field.width A.size t)

  -- in lawful arithmetic where every block is its own q^v-th power, these two powers undo each other at every block
  abbrev pub BlocksUndo : Type 0
  BlocksUndo =
      Lawful A → Returns A → (l t : ℕ) → Suits A.size l t → (u : List ℕ) → BlockOf A u
      → Undone (block_operations A) A.field.width l A.size t u
