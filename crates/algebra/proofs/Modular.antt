-- Arithmetic modulo a monic polynomial is lawful: its rows give the q-th power; and where X is its own q^v-th power, so is every block.
-- Assumes nothing.
use Rattle.std.proofs.Common.{◌≡◌, ℕ, zero, suc, ◌+◌, ◌*◌, ◌^◌, ◌≤◌, List, [], ◌∷◌, ◌++◌, map, length, sym, refl, ap, ◌∙◌, subst, ap₂, le_refl, le_of_suc-le-suc, not-suc-le-zero, pow-suc, add-one}
use native.Mathlib.Nat.{pow-zero}
use lib.ListN.{length-map}
use Rattle.algebra.specs.Operations.{Ops, Ring2, power}
use Rattle.algebra.specs.Meaning.{Meaning, Shape, Laws, on_bytes}
use Rattle.algebra.specs.Tuples.{zeros, unit, times_x, times}
use Rattle.algebra.specs.Linear.{combination}
use Rattle.algebra.specs.Iteration.{iterate}
use Rattle.algebra.specs.Blocks.{IsBlock}
use Rattle.algebra.specs.Arithmetic.{block_operations, Lawful, Returns}
use Rattle.algebra.specs.Modular.{variable, multiples, x_to_q, q_rows, modular, modulo, ModulusRule}
use Rattle.algebra.proofs.Rings.{mul_nil}
use Rattle.algebra.proofs.Quotient.{Tuple, same_tuple, quotient, quotient_ring}
use Rattle.algebra.proofs.Powers.{power_one, power_two, power_mul, constant, variable as X, constant_mul, of_list, all_list, list_power, empty_power, fixes_all}
use Rattle.algebra.proofs.Iteration.{iterate_shift, iterate_map, iterate_power}
use Rattle.algebra.proofs.CodeRing.{Code, code_ops, code_ring, code_returns}
use Rattle.algebra.proofs.Natural.{map_unit, map_times_x, map_times}
use Rattle.algebra.proofs.Exponent.{power_power}
use Rattle.algebra.proofs.BlockSteps.{q_power_iterated}
use Rattle.algebra.proofs.Closed.{unit_keeps, times_x_keeps}
use Rattle.algebra.proofs.Tuples.{length_unit, length_times_x}
use Rattle.algebra.proofs.Vectors.{add, times_by, total}
use Rattle.algebra.proofs.CodeVectors.{same_codes, block_total as vector-total}
use Rattle.algebra.proofs.Blocks.{down, lift, down_lift, length_lift, by_tuple, carries, keeps_codes, modular_byte_products}

-- one multiple more
pub multiples_more : {A : Type 0} (product : A → A → A) (w x : A) (n : ℕ) → multiples product w x (n + 1) ≡ multiples product w x n ++ (iterate (product w) n x ∷ [])
unfolding multiples iterate
multiples_more {A} product w x n = ap (multiples product w x) (add-one n) ∙ again x n
  where
    again : (x : A) (n : ℕ) → multiples product w x (suc n) ≡ multiples product w x n ++ (iterate (product w) n x ∷ [])
    again x zero = refl
    again x (suc n) =
        ap (λ (t : List A). x ∷ t) (again (product w x) n ∙ ap (λ y. multiples product w (product w x) n ++ (y ∷ [])) (iterate_shift (product w) n x))

-- ---- in a quotient over any ring

module _ {A : Type 0} {O : Ops A} (R : Ring2 O) (f : List A) where
  -- a multiple of a tuple is its product with a constant
  by_constant : (x : A) (t : Tuple A (length f)) → times_by O (length f) x t ≡ (quotient O f).mul (constant R f x) t
  by_constant x t = same_tuple _ _ (sym (constant_mul R f x t))

  -- with the multiples of y by w = X^(2^n), it is y times the 2^n-th power
  total_power : (n : ℕ) → ((a : A) → power O a (2 ^ n) ≡ a) → (a : List A) (y : Tuple A (length f)) (k : ℕ) → length a ≤ k
      → total O (length f) (multiples (quotient O f).mul (power (quotient O f) (X R f) (2 ^ n)) y k) a ≡ (quotient O f).mul y (power (quotient O f) (of_list R f a) (2 ^ n))
  unfolding total multiples quotient
  total_power n fixes [] y zero h = sym (ap ((quotient O f).mul y) (empty_power R f n fixes) ∙ mul_nil (quotient_ring R f) y)
  total_power n fixes [] y (suc k) h = sym (ap ((quotient O f).mul y) (empty_power R f n fixes) ∙ mul_nil (quotient_ring R f) y)
  total_power n fixes (x ∷ a) y zero h = absurd (not-suc-le-zero h)
  total_power n fixes (x ∷ a) y (suc k) h =
      let Q = quotient O f in
      let QR = quotient_ring R f in
      let w = power Q (X R f) (2 ^ n) in
      let p = power Q (of_list R f a) (2 ^ n) in
      ap₂ (add O (length f)) (by_constant x y) (total_power n fixes a (Q.mul w y) k (le_of_suc-le-suc h))
      ∙ ap₂ Q.add (QR.mul_comm (constant R f x) y) (ap (λ z. Q.mul z p) (QR.mul_comm w y) ∙ QR.mul_assoc y w p)
      ∙ sym (QR.mul_add y (constant R f x) (Q.mul w p)) ∙ ap (Q.mul y) (sym (list_power R f n fixes x a))

-- ---- over the codes of a field

module _ (M : Meaning) (s : Shape M) (L : Laws M) (F : List (Code M)) where
  abbrev O : Ops (Code M)
  O = code_ops M s

  abbrev N : Ops ℕ
  N = on_bytes M

  R : Ring2 O
  R = code_ring M s L

  abbrev Q : Ops (Tuple (Code M) (length F))
  Q = quotient O F

  abbrev f : List ℕ
  f = down M F

  abbrev code : Code M → ℕ
  code x = x.0

  -- a tuple as a block
  abbrev block : Tuple (Code M) (length F) → List ℕ
  block t = down M t.0

  size_is : length f ≡ length F
  size_is = length-map F code

  block_mul : (a b : Tuple (Code M) (length F)) → times N f (block a) (block b) ≡ block (Q.mul a b)
  unfolding quotient
  block_mul a b = sym (map_times code (carries M s) F a.0 b.0)

  block_one : unit N (length f) ≡ block Q.one
  unfolding quotient
  block_one = ap (unit N) size_is ∙ sym (map_unit code (carries M s) (length F))

  block_x : variable N f ≡ block (X R F)
  unfolding variable X
  block_x = ap (times_x N f) (ap (unit N) size_is ∙ sym (map_unit code (carries M s) (length F))) ∙ sym (map_times_x code (carries M s) F (unit O (length F)))

  block_power : (t : Tuple (Code M) (length F)) (k : ℕ) → power (block_operations (modulo M f)) (block t) k ≡ block (power Q t k)
  unfolding power block_operations modulo
  block_power t zero = block_one
  block_power t (suc k) = ap (times N f (block t)) (block_power t k) ∙ block_mul t (power Q t k)

  block_multiples : (w x : Tuple (Code M) (length F)) (k : ℕ) → multiples (times N f) (block w) (block x) k ≡ map block (multiples Q.mul w x k)
  unfolding multiples
  block_multiples w x zero = refl
  block_multiples w x (suc k) =
      ap (λ (z : List (List ℕ)). block x ∷ z) (ap (λ z. multiples (times N f) (block w) z k) (block_mul w x) ∙ block_multiples w (Q.mul w x) k)

  block_total : (ts : List (Tuple (Code M) (length F))) (a : List (Code M))
      → combination N (zeros N (length f)) (map block ts) (down M a) ≡ block (total O (length F) ts a)
  block_total ts a = ap (λ n. combination N (zeros N n) (map block ts) (down M a)) size_is ∙ vector-total M s (length F) ts a

  -- X squared m times is X^q
  block_root : x_to_q M f ≡ block (power Q (X R F) (2 ^ M.width))
  unfolding x_to_q
  block_root =
      ap (iterate (λ x. times N f x x) M.width) block_x
      ∙ iterate_map block (λ t. power Q t 2) (λ x. times N f x x) (λ t. block_mul t t ∙ ap block (sym (power_two (quotient_ring R F) t))) M.width (X R F)
      ∙ ap block (iterate_power (quotient_ring R F) 2 M.width (X R F))

  rows_power : (t : Tuple (Code M) (length F)) → (modulo M f).q_power (block t) ≡ power (block_operations (modulo M f)) (block t) (2 ^ M.width)
  unfolding modulo q_rows
  rows_power t =
      let q = 2 ^ M.width in
      let w = power Q (X R F) q in
      let QR = quotient_ring R F in
      ap (λ z. combination N (zeros N (length f)) z (block t))
      (ap₂ (λ x y. multiples (times N f) x y (length f)) block_root block_one ∙ ap (multiples (times N f) (block w) (block Q.one)) size_is ∙ block_multiples w Q.one (length F))
      ∙ block_total (multiples Q.mul w Q.one (length F)) t.0
      ∙ ap block
      (total_power R F M.width (code_returns M s L) t.0 Q.one (length F) (subst (λ n. n ≤ length F) (sym t.1) (le_refl (length F)))
      ∙ QR.mul_comm Q.one (power Q (of_list R F t.0) q) ∙ QR.mul_one (power Q (of_list R F t.0) q) ∙ ap (λ z. power Q z q) (all_list R F t))
      ∙ sym (block_power t q)

  -- every code is its own q^v-th power
  fixes_code : (v : ℕ) (x : Code M) → power O x ((2 ^ M.width) ^ v) ≡ x
  fixes_code zero x = ap (power O x) (pow-zero (2 ^ M.width)) ∙ power_one R x
  fixes_code (suc v) x =
      ap (power O x) (pow-suc (2 ^ M.width) v) ∙ power_mul R x ((2 ^ M.width) ^ v) (2 ^ M.width)
      ∙ code_returns M s L (power O x ((2 ^ M.width) ^ v)) ∙ fixes_code v x

  tuple_returns : ModulusRule M f → (t : Tuple (Code M) (length F)) → power (block_operations (modulo M f)) (block t) ((2 ^ M.width) ^ length f) ≡ block t
  unfolding ModulusRule
  tuple_returns rule t =
      let n = M.width * length f in
      let e : (2 ^ M.width) ^ length f ≡ 2 ^ n = power_power 2 M.width (length f) in
      let fixes : (x : Code M) → power O x (2 ^ n) ≡ x = λ x. ap (power O x) (sym e) ∙ fixes_code (length f) x in
      let fixes_x : power Q (X R F) (2 ^ n) ≡ X R F
      = same_tuple _ _
      (same_codes M (power Q (X R F) (2 ^ n)).0 (X R F).0
      (ap (λ k. block (power Q (X R F) k)) (sym e) ∙ sym (block_power (X R F) ((2 ^ M.width) ^ length f))
      ∙ ap (λ z. power (block_operations (modulo M f)) z ((2 ^ M.width) ^ length f)) (sym block_x) ∙ rule ∙ block_x)) in
      block_power t ((2 ^ M.width) ^ length f) ∙ ap (λ k. block (power Q t k)) e ∙ ap block (fixes_all R F n fixes fixes_x t)

module _ (M : Meaning) (s : Shape M) (L : Laws M) where
  -- what holds of all blocks modulo a tuple of codes holds of all blocks modulo a block
  by_lift : (P : List ℕ → List ℕ → Type 0) → ((F : List (Code M)) (t : Tuple (Code M) (length F)) → P (down M F) (down M t.0))
      → (f : List ℕ) → IsBlock M (length f) f → (u : List ℕ) → IsBlock M (length f) u → P f u
  by_lift P each f h u hu =
      let F = lift M f h.codes in
      subst (λ z. P z u) (down_lift M f h.codes) (by_tuple M (length f) (P (down M F)) (λ t e. each F (t, e ∙ sym (length_lift M f h.codes))) u hu)

  -- the arithmetic modulo X^v + f is lawful
  pub modulo_lawful : (f : List ℕ) → IsBlock M (length f) f → Lawful (modulo M f)
  unfolding modulo
  modulo_lawful f h = record {
    shape = s;
    laws = L;
    products = modular_byte_products M s L (length f) f h;
    q_power_is = by_lift (λ f u. (modulo M f).q_power u ≡ power (block_operations (modulo M f)) u (2 ^ M.width)) (rows_power M s L) f h;
  }

  -- under its rule every block is its own q^v-th power
  pub rule_returns : (f : List ℕ) → IsBlock M (length f) f → ModulusRule M f → Returns (modulo M f)
  unfolding modulo
  rule_returns f h rule u hu =
      by_lift (λ f u. ModulusRule M f → power (block_operations (modulo M f)) u ((2 ^ M.width) ^ length f) ≡ u)
      (λ F t rule. tuple_returns M s L F rule t) f h u hu rule

  variable_block : (f : List ℕ) → IsBlock M (length f) f → IsBlock M (length f) (variable (on_bytes M) f)
  unfolding variable
  variable_block f h = record {
    size = length_times_x (on_bytes M) f (unit (on_bytes M) (length f)) (length_unit (on_bytes M) (length f));
    codes = times_x_keeps (keeps_codes M s) 0 f (unit (on_bytes M) (length f)) h.codes (unit_keeps (keeps_codes M s) 0 (length f));
  }

  -- the rule by the q-th power, v times over
  pub rule_iterated : (f : List ℕ) (rows : List (List ℕ)) → IsBlock M (length f) f → Lawful (modular M f rows)
      → iterate (modular M f rows).q_power (length f) (variable (on_bytes M) f)
      ≡ power (block_operations (modulo M f)) (variable (on_bytes M) f) ((2 ^ M.width) ^ length f)
  unfolding modulo block_operations
  rule_iterated f rows h lawful = q_power_iterated (modular M f rows) lawful (length f) (variable (on_bytes M) f) (variable_block f h)
