-- The blocks of lawful arithmetic as a carrier of their own: a ring.
-- Assumes nothing.
use Rattle.std.proofs.Common.{◌≡◌, ℕ, zero, suc, ◌^◌, List, length, get_or, sym, refl, ap, ◌∙◌}
use mathlib.Core.HLevel.{×_prop, Π_prop, Σ_prop_path}
use native.Mathlib.Bridge.{le_prop}
use native.Mathlib.Nat.{ℕ_set}
use lib.Bits.{xor_comm, xor_assoc, xor_self, xor_zero_r}
use Rattle.algebra.specs.Operations.{Ops, Ring2, power}
use Rattle.algebra.specs.Meaning.{Meaning, on_bytes}
use Rattle.algebra.specs.Tuples.{plus, zeros}
use Rattle.algebra.specs.Blocks.{Codes}
use Rattle.algebra.specs.Arithmetic.{Arithmetic, BlockOf, block_operations, Lawful}
use Rattle.algebra.proofs.Rings.{Sums}
use Rattle.algebra.proofs.Tuples.{length_zeros, length_plus, sum_comm, sum_assoc, sum_zeros, sum_self}
use Rattle.algebra.proofs.Closed.{zeros_keep, plus_keeps}
use Rattle.algebra.proofs.Blocks.{keeps_codes}

-- v codes
abbrev Whole : Meaning → ℕ → List ℕ → Type 0
Whole M v u = (length u ≡ v) × Codes M u

whole_prop : (M : Meaning) (v : ℕ) (u : List ℕ) → IsProp (Whole M v u)
whole_prop M v u = ×_prop (ℕ_set (length u) v) (Π_prop (λ i. Π_prop (λ h. le_prop {n = suc (get_or u i 0)} {m = 2 ^ M.width})))

abbrev pub Block : Arithmetic → Type 0
Block A = (u : List ℕ) × Whole A.field A.size u

pub same_block : (A : Arithmetic) (a b : Block A) → a.0 ≡ b.0 → a ≡ b
same_block A a b e = Σ_prop_path (whole_prop A.field A.size) {u = a} {v = b} e

abbrev pub whole : (A : Arithmetic) (u : List ℕ) → BlockOf A u → Block A
whole A u h = (u, (h.size, h.codes))

pub is_block : (A : Arithmetic) (x : Block A) → BlockOf A x.0
is_block A x = record { size = x.1.0; codes = x.1.1 }

xor_sums : (M : Meaning) → Sums (on_bytes M)
unfolding on_bytes
xor_sums M = record { assoc = xor_assoc; comm = xor_comm; nil = xor_zero_r; self = xor_self }

module _ (A : Arithmetic) (L : Lawful A) where
  unfoldable pub ring_operations : Ops (Block A)
  ring_operations =
      let O = on_bytes A.field in
      let K = keeps_codes A.field L.shape in
      record {
        nil = (zeros O A.size, (length_zeros O A.size, zeros_keep K 0 A.size));
        one = whole A A.one L.products.one_block;
        add = λ a b. (plus O a.0 b.0, (length_plus O a.0 b.0 (a.1.0 ∙ sym b.1.0) ∙ b.1.0, plus_keeps K 0 a.0 b.0 a.1.1 b.1.1));
        mul = λ a b. whole A (A.product a.0 b.0) (L.products.stays a.0 b.0 (is_block A a) (is_block A b));
      }

  pub block_ring : Ring2 ring_operations
  unfolding ring_operations is_block
  block_ring =
      let O = on_bytes A.field in
      let S = xor_sums A.field in
      let P = L.products in
      record {
        add_assoc = λ a b c. same_block A _ _ (sum_assoc S a.0 b.0 c.0);
        add_comm = λ a b. same_block A _ _ (sum_comm S a.0 b.0);
        add_nil = λ a. same_block A _ _ (sum_zeros S a.0 A.size a.1.0);
        add_self = λ a. same_block A _ _ (sum_self S a.0 ∙ ap (zeros O) a.1.0);
        mul_assoc = λ a b c. same_block A _ _ (P.associates a.0 b.0 c.0 (is_block A a) (is_block A b) (is_block A c));
        mul_comm = λ a b. same_block A _ _ (P.commutes a.0 b.0 (is_block A a) (is_block A b));
        mul_add = λ a b c. same_block A _ _ (P.distributes a.0 b.0 c.0 (is_block A a) (is_block A b) (is_block A c));
        mul_one = λ a. same_block A _ _ (P.commutes a.0 A.one (is_block A a) P.one_block ∙ P.one_times a.0 (is_block A a));
      }

  -- the powers of a block are those in the ring
  pub ring_power : (x : Block A) (k : ℕ) → (power ring_operations x k).0 ≡ power (block_operations A) x.0 k
  unfolding power ring_operations block_operations
  ring_power x zero = refl
  ring_power x (suc k) = ap (A.product x.0) (ring_power x k)
