-- The product modulo a monic polynomial makes the tuples of one length a ring again.
-- Assumes nothing.
use Rattle.std.proofs.Common.{◌≡◌, ℕ, List, length, sym, ap, ◌∙◌}
use mathlib.Core.HLevel.{Σ_prop_path}
use native.Mathlib.Nat.{ℕ_set}
use Rattle.algebra.specs.Operations.{Ops, Ring2}
use Rattle.algebra.specs.Tuples.{plus, zeros, unit, times}
use Rattle.algebra.specs.Quotient.{Quotient}
use Rattle.algebra.proofs.Rings.{sums_of}
use Rattle.algebra.proofs.Tuples.{length_zeros, length_unit, length_plus, length_times, sum_comm, sum_assoc, sum_zeros, sum_self, times_plus, times_times, times_unit}

module _ {A : Type 0} {O : Ops A} (R : Ring2 O) (f : List A) where
  pub times_comm : (a b : List A) → length a ≡ length f → length b ≡ length f → times O f a b ≡ times O f b a
  times_comm a b ha hb =
      ap (times O f a) (sym (times_unit R f b hb))
      ∙ times_times R f a b (unit O (length f)) (length_unit O (length f))
      ∙ ap (times O f b) (times_unit R f a ha)

  pub times_assoc : (a b c : List A) → length a ≡ length f → length b ≡ length f → length c ≡ length f
      → times O f (times O f a b) c ≡ times O f a (times O f b c)
  times_assoc a b c ha hb hc =
      times_comm (times O f a b) c (length_times O f a b hb) hc
      ∙ times_times R f c a b hb
      ∙ ap (times O f a) (times_comm c b hc hb)

  pub unit_times : (a : List A) → length a ≡ length f → times O f (unit O (length f)) a ≡ a
  unit_times a h = times_comm (unit O (length f)) a (length_unit O (length f)) h ∙ times_unit R f a h

  pub quotient_stands : Quotient O f
  quotient_stands = record {
    stays = λ a b h. length_times O f a b h;
    commutes = times_comm;
    associates = times_assoc;
    distributes = λ a b c hb hc. times_plus R f a b c hb hc;
    has_one = unit_times;
  }

-- the tuples of v elements as a carrier of their own, where the laws hold with no condition
abbrev pub Tuple : Type 0 → ℕ → Type 0
Tuple A v = (l : List A) × (length l ≡ v)

pub same_tuple : {A : Type 0} {v : ℕ} (a b : Tuple A v) → a.0 ≡ b.0 → a ≡ b
same_tuple {A} {v} a b e = Σ_prop_path (λ l. ℕ_set (length l) v) {u = a} {v = b} e

module _ {A : Type 0} (O : Ops A) (f : List A) where
  unfoldable pub quotient : Ops (Tuple A (length f))
  quotient = record {
    nil = (zeros O (length f), length_zeros O (length f));
    one = (unit O (length f), length_unit O (length f));
    add = λ a b. (plus O a.0 b.0, length_plus O a.0 b.0 (a.1 ∙ sym b.1) ∙ b.1);
    mul = λ a b. (times O f a.0 b.0, length_times O f a.0 b.0 b.1);
  }

pub quotient_ring : {A : Type 0} {O : Ops A} (R : Ring2 O) (f : List A) → Ring2 (quotient O f)
unfolding quotient
quotient_ring {O = O} R f = record {
  add_assoc = λ a b c. same_tuple _ _ (sum_assoc (sums_of R) a.0 b.0 c.0);
  add_comm = λ a b. same_tuple _ _ (sum_comm (sums_of R) a.0 b.0);
  add_nil = λ a. same_tuple _ _ (sum_zeros (sums_of R) a.0 (length f) a.1);
  add_self = λ a. same_tuple _ _ (sum_self (sums_of R) a.0 ∙ ap (zeros O) a.1);
  mul_assoc = λ a b c. same_tuple _ _ (times_assoc R f a.0 b.0 c.0 a.1 b.1 c.1);
  mul_comm = λ a b. same_tuple _ _ (times_comm R f a.0 b.0 a.1 b.1);
  mul_add = λ a b c. same_tuple _ _ (times_plus R f a.0 b.0 c.0 b.1 c.1);
  mul_one = λ a. same_tuple _ _ (times_unit R f a.0 a.1);
}
