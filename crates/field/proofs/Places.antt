-- The lowest place of a code in a table, as a loop from the last place down finds it.
-- Assumes nothing.
use Rattle.std.proofs.Common.{◌≡◌, ℕ, suc, ◌+◌, ◌-◌, ◌<◌, Bool, true, false, cond, eqb, ltb, List, Some, None, Option, length, get_or, set, sym, refl, ap, ◌∙◌, subst, ⊎_elim, arith, get_or-set_other, get_or-set_same}
use native.Mathlib.Nat.{sub_self, sub-zero}
use Rattle.std.proofs.lemmas.Bool.{cond-true, cond-false, cases_eq, lt-ltb, le-ltb, eq-eqb, ne_eqb}
use Rattle.algebra.specs.Search.{first_from}
use Rattle.field.specs.Tables.{lowest}

-- the lowest of the places from i up to n where a stands, if any
unfoldable pub lowest_from : List ℕ → ℕ → ℕ → ℕ → Option ℕ
lowest_from entries n i a = let k = first_from i (n - i) (λ k. eqb (get_or entries k 0) a) in cond (ltb k n) (Some k) None

-- none is left at the end
pub lowest_end : (entries : List ℕ) (n a : ℕ) → lowest_from entries n n a ≡ None
unfolding lowest_from first_from
lowest_end entries n a =
    ap (λ z. cond (ltb (first_from n z (λ k. eqb (get_or entries k 0) a)) n) (Some (first_from n z (λ k. eqb (get_or entries k 0) a))) None) (sub_self n)
    ∙ cond-false (ltb n n) (Some n) None (le-ltb n n (omega arith))

-- one place lower: there or as before
lowest_step : (entries : List ℕ) (n i a : ℕ) → i < n → lowest_from entries n i a ≡ cond (eqb (get_or entries i 0) a) (Some i) (lowest_from entries n (i + 1) a)
unfolding lowest_from first_from
lowest_step entries n i a h =
    let test : ℕ → Bool = λ k. eqb (get_or entries k 0) a in
    let size : n - i ≡ suc (n - (i + 1)) = omega arith in
    let up : suc i ≡ i + 1 = omega arith in
    ap (λ z. cond (ltb (first_from i z test) n) (Some (first_from i z test)) None) size ∙ by (test i) (first_from (suc i) (n - (i + 1)) test)
    ∙ ap (λ z. cond (test i) (Some i) (cond (ltb (first_from z (n - (i + 1)) test) n) (Some (first_from z (n - (i + 1)) test)) None)) up
  where
    by : (b : Bool) (k : ℕ) → cond (ltb (cond b i k) n) (Some (cond b i k)) None ≡ cond b (Some i) (cond (ltb k n) (Some k) None)
    by true k = cond-true (ltb i n) (Some i) None (lt-ltb i n h)
    by false k = refl

-- writing place i for what stands there is one turn of the loop
pub written : (entries : List ℕ) (logs : List (Option ℕ)) (n i a : ℕ) → length logs ≡ 256 → i < n → a < 256
    → get_or logs a None ≡ lowest_from entries n (i + 1) a → get_or (set logs (get_or entries i 0) (Some i)) a None ≡ lowest_from entries n i a
written entries logs n i a size hi ha before =
    ⊎_elim
    (λ (is : get_or entries i 0 ≡ a).
    ap (λ z. get_or (set logs z (Some i)) a None) is
    ∙ get_or-set_same logs a (Some i) None (subst (λ z. a < z) (sym size) ha)
    ∙ sym (lowest_step entries n i a hi ∙ cond-true (eqb (get_or entries i 0) a) (Some i) (lowest_from entries n (i + 1) a) (eq-eqb (get_or entries i 0) a is)))
    (λ other.
    get_or-set_other logs (get_or entries i 0) a (Some i) None (λ e. other (sym e)) ∙ before
    ∙ sym (lowest_step entries n i a hi ∙ cond-false (eqb (get_or entries i 0) a) (Some i) (lowest_from entries n (i + 1) a) (ne_eqb (get_or entries i 0) a other)))
    (cases_eq (get_or entries i 0) a)

pub lowest_all : (entries : List ℕ) (n a : ℕ) → lowest_from entries n 0 a ≡ lowest entries n a
unfolding lowest_from lowest
lowest_all entries n a = ap (λ z. cond (ltb (first_from 0 z (λ k. eqb (get_or entries k 0) a)) n) (Some (first_from 0 z (λ k. eqb (get_or entries k 0) a))) None) (sub-zero n)
