-- Loops that write a block place by place.
-- Assumes nothing.
use Rattle.std.proofs.Common.{◌≡◌, ℕ, ◌+◌, ◌<◌, ◌≤◌, List, length, get_or, set, sym, ap, ◌∙◌, subst, ⊎_elim, arith, length-set, get_or-set_other, get_or-set_same}
use lib.ListN.{get_or-eq_default}
use Rattle.std.proofs.lemmas.Bool.{cases_eq, cases_lt}
use Rattle.algebra.proofs.Polynomials.{same_list}

-- a block that was written at all its places
written : (x old new : List ℕ) → length x ≡ length old → length new ≡ length old → ((k : ℕ) → k < length old → get_or x k 0 ≡ get_or new k 0) → x ≡ new
written x old new hx hn each =
    same_list 0 x new (hx ∙ sym hn)
    (λ k. ⊎_elim (each k)
    (λ (beyond : length old ≤ k). get_or-eq_default x 0 (subst (λ n. n ≤ k) (sym hx) beyond) ∙ sym (get_or-eq_default new 0 (subst (λ n. n ≤ k) (sym hn) beyond)))
    (cases_lt k (length old)))

-- after one write a place holds what it should, if the place written does, and every other did
one_write : (x new : List ℕ) (i v k : ℕ) → i < length x → v ≡ get_or new i 0 → ((k ≡ i → ⊥) → get_or x k 0 ≡ get_or new k 0) → get_or (set x i v) k 0 ≡ get_or new k 0
one_write x new i v k h is others =
    ⊎_elim (λ (e : k ≡ i). ap (λ z. get_or (set x i v) z 0) e ∙ get_or-set_same x i v 0 h ∙ is ∙ ap (λ z. get_or new z 0) (sym e))
    (λ other. get_or-set_other x i k v 0 other ∙ others other) (cases_eq k i)

-- x is the old block below i and the new one from i on
pub record From (x old new : List ℕ) (i : ℕ) : Type 0 where
  pub size : length x ≡ length old
  pub kept : (k : ℕ) → k < i → get_or x k 0 ≡ get_or old k 0
  pub done : (k : ℕ) → i ≤ k → k < length old → get_or x k 0 ≡ get_or new k 0

-- one place lower
pub lower : (x old new : List ℕ) (i v : ℕ) → From x old new (i + 1) → i < length old → v ≡ get_or new i 0 → From (set x i v) old new i
lower x old new i v f h is = record {
  size = length-set x i v ∙ f.size;
  kept = λ k less. get_or-set_other x i k v 0 (λ e. omega arith) ∙ f.kept k (omega arith);
  done = λ k from below. one_write x new i v k (subst (λ n. i < n) (sym f.size) h) is (λ other. f.done k (omega (arith, other)) below);
}

-- the bottom place is the last to be written
pub bottom : (x old new : List ℕ) (i v : ℕ) → From x old new i → i ≤ 1 → 0 < length old → v ≡ get_or new 0 0 → length new ≡ length old → set x 0 v ≡ new
bottom x old new i v f h pos is hn =
    written (set x 0 v) old new (length-set x 0 v ∙ f.size) hn
    (λ k below. one_write x new 0 v k (subst (λ n. 0 < n) (sym f.size) pos) is (λ other. f.done k (omega (arith, other)) below))

-- x is the new block below i and the old one from i on
pub record Below (x old new : List ℕ) (i : ℕ) : Type 0 where
  pub size : length x ≡ length old
  pub done : (k : ℕ) → k < i → get_or x k 0 ≡ get_or new k 0
  pub kept : (k : ℕ) → i ≤ k → get_or x k 0 ≡ get_or old k 0

-- one place higher
pub higher : (x old new : List ℕ) (i v : ℕ) → Below x old new i → i < length old → v ≡ get_or new i 0 → Below (set x i v) old new (i + 1)
higher x old new i v b h is = record {
  size = length-set x i v ∙ b.size;
  done = λ k less. one_write x new i v k (subst (λ n. i < n) (sym b.size) h) is (λ other. b.done k (omega (arith, other)));
  kept = λ k from. get_or-set_other x i k v 0 (λ e. omega arith) ∙ b.kept k (omega arith);
}

pub below_all : (x old new : List ℕ) (i : ℕ) → Below x old new i → length old ≤ i → length new ≡ length old → x ≡ new
below_all x old new i b h hn = written x old new b.size hn (λ k less. b.done k (omega arith))
