-- The two steps on blocks raise to 1 + q^t and to the exponent that undoes it, and undo each other.
-- Assumes nothing.
use Rattle.std.proofs.Common.{◌≡◌, ℕ, zero, suc, ◌+◌, ◌-◌, ◌*◌, ◌/◌, ◌%◌, ◌^◌, ◌≤◌, List, sym, refl, ap, ◌∙◌, ap₂, pow-suc, arith, pow_pos, pow-add}
use native.Mathlib.Nat.{pow-zero, mod-add-div}
use Rattle.std.proofs.lemmas.Nat.{mul-le}
use Rattle.algebra.specs.Operations.{Ops, Ring2, power}
use Rattle.algebra.specs.Exponent.{sum_of_powers, closed_formula, inverse_exponent, Suits}
use Rattle.algebra.specs.Steps.{Undone}
use Rattle.algebra.specs.Iteration.{iterate}
use Rattle.algebra.specs.Chains.{by_chain}
use Rattle.algebra.specs.Arithmetic.{Arithmetic, BlockOf, block_operations, Lawful, Returns}
use Rattle.algebra.specs.BlockSteps.{squares, q_powers, forward_step, back_step, forward_power, back_power, BlocksUndo}
use Rattle.algebra.proofs.Exponent.{power_power}
use Rattle.algebra.proofs.Powers.{power_one, power_two, power_add, power_mul}
use Rattle.algebra.proofs.Iteration.{iterate_map, iterate_power}
use Rattle.algebra.proofs.Steps.{suited_steps_undo}
use Rattle.algebra.proofs.Chains.{pow_one, chain_power}
use Rattle.algebra.proofs.BlockRing.{Block, same_block, whole, is_block, ring_operations, block_ring, ring_power}

module _ (A : Arithmetic) (L : Lawful A) where
  abbrev O : Ops (Block A)
  O = ring_operations A L

  R : Ring2 O
  R = block_ring A L

  abbrev q : ℕ
  q = 2 ^ A.field.width

  products : (x y : Block A) → A.product x.0 y.0 ≡ (O.mul x y).0
  unfolding ring_operations
  products x y = refl

  first : Block A → List ℕ
  first x = x.0

  squares_are : (c : ℕ) (x : Block A) → squares A c x.0 ≡ (power O x (2 ^ c)).0
  unfolding squares first
  squares_are c x =
      iterate_map first (λ y. power O y 2) (λ z. A.product z z) (λ y. products y y ∙ ap first (sym (power_two R y))) c x ∙ ap first (iterate_power R 2 c x)

  iterated : (c : ℕ) (x : Block A) → iterate A.q_power c x.0 ≡ (power O x (q ^ c)).0
  unfolding first
  iterated c x =
      iterate_map first (λ y. power O y q) A.q_power (λ y. L.q_power_is y.0 (is_block A y) ∙ sym (ring_power A L y q)) c x
      ∙ ap first (iterate_power R q c x)

  forward_is : (t : ℕ) (x : Block A) → forward_step A t x.0 ≡ (power O x (1 + q ^ t)).0
  unfolding forward_step first
  forward_is t x =
      ap (λ z. A.product z x.0) (iterated t x) ∙ products (power O x (q ^ t)) x
      ∙ ap first (R.mul_comm (power O x (q ^ t)) x ∙ ap (λ z. O.mul z (power O x (q ^ t))) (sym (power_one R x)) ∙ sym (power_add R x 1 (q ^ t)))

  module _ (returns : Returns A) where
    back : (x : Block A) → power O x (q ^ A.size) ≡ x
    back x = same_block A _ _ (ring_power A L x (q ^ A.size) ∙ returns x.0 (is_block A x))

    rounds : (x : Block A) (k : ℕ) → power O x (q ^ (A.size * k)) ≡ x
    rounds x k = ap (power O x) (sym (power_power q A.size k)) ∙ again k
      where
        again : (k : ℕ) → power O x ((q ^ A.size) ^ k) ≡ x
        again zero = ap (power O x) (pow-zero (q ^ A.size)) ∙ power_one R x
        again (suc k) = ap (power O x) (pow-suc (q ^ A.size) k) ∙ power_mul R x ((q ^ A.size) ^ k) (q ^ A.size) ∙ back (power O x ((q ^ A.size) ^ k)) ∙ again k

    q_powers_are : (k c : ℕ) (x : Block A) → q_powers A k c x.0 ≡ (power O x ((q ^ k) ^ c)).0
    unfolding q_powers first
    q_powers_are k c x =
        let v = A.size in
        let e = k * c in
        let y = power O x (q ^ (e % v)) in
        iterated (e % v) x
        ∙ ap first
        (sym (rounds y (e / v)) ∙ sym (power_mul R x (q ^ (e % v)) (q ^ (v * (e / v))))
        ∙ ap (power O x) (sym (pow-add q (e % v) (v * (e / v))) ∙ ap (λ n. q ^ n) (mod-add-div e v) ∙ sym (power_power q k c)))

    module _ (l t : ℕ) (suits : Suits A.size l t) where
      t_some : 1 ≤ t
      t_some = let h : 1 * 1 ≤ suits.b * 2 ^ suits.r = mul-le 1 1 suits.b (2 ^ suits.r) suits.b_some (pow_pos suits.r) in omega (arith, suits.exponent)

      -- the exponent of the small steps, put together
      exponents : (x : Block A) (a b c w k h : ℕ)
          → power O (power O (O.mul (power O x w) (power O (power O (power O x a) b) c)) k) h ≡ power O x ((w + a * b * c) * k * h)
      exponents x a b c w k h =
          ap (λ z. power O (power O z k) h)
          (ap (O.mul (power O x w)) (ap (λ z. power O z c) (sym (power_mul R x a b)) ∙ sym (power_mul R x (a * b) c)) ∙ sym (power_add R x w (a * b * c)))
          ∙ ap (λ z. power O z h) (sym (power_mul R x (w + a * b * c) k)) ∙ sym (power_mul R x ((w + a * b * c) * k) h)

      formula : (x : Block A) → back_step A l t x.0 ≡ (power O x (closed_formula A.field.width l t)).0
      unfolding back_step closed_formula first
      formula x =
          let m = A.field.width in
          let P = A.product in
          let low = power O x (sum_of_powers 2 m) in
          let middle = power O low (sum_of_powers (q ^ 1) t) in
          let high = power O middle (sum_of_powers (q ^ (2 * t)) l) in
          let top = power O x ((q ^ (2 * t)) ^ l) in
          let all = power O (O.mul top high) ((q ^ 1) ^ (t - 1)) in
          let chained : by_chain P (q_powers A (2 * t)) l (by_chain P (q_powers A 1) t (by_chain P (squares A) m x.0)) ≡ high.0
          = ap (λ z. by_chain P (q_powers A (2 * t)) l (by_chain P (q_powers A 1) t z)) (chain_power O first P (squares A) 2 products squares_are R m L.shape.at_least x)
          ∙ ap (by_chain P (q_powers A (2 * t)) l) (chain_power O first P (q_powers A 1) (q ^ 1) products (q_powers_are 1) R t t_some low)
          ∙ chain_power O first P (q_powers A (2 * t)) (q ^ (2 * t)) products (q_powers_are (2 * t)) R l suits.l_some middle in
          ap (λ z. squares A (m - 1) (q_powers A 1 (t - 1) z)) (ap₂ P (q_powers_are (2 * t) l x) chained ∙ products top high)
          ∙ ap (squares A (m - 1)) (q_powers_are 1 (t - 1) (O.mul top high)) ∙ squares_are (m - 1) all
          ∙ ap first (exponents x (sum_of_powers 2 m) (sum_of_powers (q ^ 1) t) (sum_of_powers (q ^ (2 * t)) l) ((q ^ (2 * t)) ^ l) ((q ^ 1) ^ (t - 1)) (2 ^ (m - 1)))
          ∙ ap (λ n. (power O x n).0)
          (ap (λ z. ((q ^ (2 * t)) ^ l + sum_of_powers 2 m * sum_of_powers z t * sum_of_powers (q ^ (2 * t)) l) * z ^ (t - 1) * 2 ^ (m - 1)) (pow_one q)
          ∙ ap (λ z. (z + sum_of_powers 2 m * sum_of_powers q t * sum_of_powers (q ^ (2 * t)) l) * q ^ (t - 1) * 2 ^ (m - 1)) (power_power q (2 * t) l)
          ∙ regroup (q ^ (2 * t * l)) (sum_of_powers 2 m * sum_of_powers q t * sum_of_powers (q ^ (2 * t)) l) (q ^ (t - 1)) (2 ^ (m - 1)))
        where
          regroup : (w p k h : ℕ) → (w + p) * k * h ≡ (p + w) * (k * h)
          regroup w p k h = omega arith

      undone : (x : Block A) → Undone O A.field.width l A.size t x
      undone x = suited_steps_undo R A.field.width l A.size t L.shape.at_least suits back x

-- ---- of lists of codes

module _ (A : Arithmetic) where
  -- the q-th power c times over
  pub q_power_iterated : Lawful A → (c : ℕ) (u : List ℕ) → BlockOf A u → iterate A.q_power c u ≡ power (block_operations A) u ((2 ^ A.field.width) ^ c)
  q_power_iterated L c u h =
      let x = whole A u h in
      iterated A L c x ∙ ring_power A L x ((2 ^ A.field.width) ^ c)

  pub forward_raises : Lawful A → (t : ℕ) (u : List ℕ) → BlockOf A u → forward_step A t u ≡ forward_power A t u
  forward_raises L t u h =
      let x = whole A u h in
      forward_is A L t x ∙ ring_power A L x (1 + (2 ^ A.field.width) ^ t)

  pub back_raises : Lawful A → Returns A → (l t : ℕ) → Suits A.size l t → (u : List ℕ) → BlockOf A u → back_step A l t u ≡ back_power A t u
  back_raises L returns l t suits u h =
      let x = whole A u h in
      formula A L returns l t suits x ∙ ap (λ (z : Block A). z.0) (undone A L returns l t suits x).by_formula
      ∙ ring_power A L x (inverse_exponent A.field.width A.size t)

  pub blocks_undo : BlocksUndo A
  blocks_undo L returns l t suits u h =
      let x = whole A u h in
      let U = undone A L returns l t suits x in
      let O = ring_operations A L in
      let B = block_operations A in
      let m = A.field.width in
      let both : (j k : ℕ) → (power O (power O x j) k).0 ≡ power B (power B u j) k
      = λ j k. ring_power A L (power O x j) k ∙ ap (λ z. power B z k) (ring_power A L x j) in
      let step = 1 + (2 ^ m) ^ t in
      let e = inverse_exponent m A.size t in
      record {
        there_and_back = sym (both step e) ∙ ap (λ (z : Block A). z.0) U.there_and_back;
        back_and_there = sym (both e step) ∙ ap (λ (z : Block A). z.0) U.back_and_there;
        by_formula = sym (ring_power A L x (closed_formula m l t)) ∙ ap (λ (z : Block A). z.0) U.by_formula ∙ ring_power A L x e;
      }
