-- In a sound field every code but 0 has an inverse, so a count over all codes finds all but one.
-- Assumes nothing.
use Rattle.std.proofs.Common.{◌≡◌, ℕ, zero, suc, ◌+◌, ◌-◌, ◌^◌, ◌<◌, ◌≤◌, Bool, true, false, cond, eqb, get_or, sym, refl, ap, ◌∙◌, ap₂, subst, zero-add, arith}
use Rattle.std.specs.List.{range_with_len, count_by}
use Rattle.std.proofs.lemmas.Bool.{eq-eqb, ne_eqb}
use Rattle.std.proofs.lemmas.List.Folds.{list_any_none, list_any_at}
use Rattle.std.proofs.lemmas.List.Sums.{sum_by-cons}
use Rattle.std.proofs.lemmas.List.FromFn.{length-range_with_len, get_or-range_with_len}
use Rattle.algebra.specs.Meaning.{Meaning, Shape, Laws}
use Rattle.algebra.proofs.Codes.{zero_times}
use Rattle.survey.specs.Codes.{all_codes, has_inverse, invertible}

all_pass : (test : ℕ → Bool) (n a : ℕ) → ((k : ℕ) → a ≤ k → k < a + n → test k ≡ true) → count_by test (range_with_len a n) ≡ n
all_pass test zero a all = refl
all_pass test (suc n) a all =
    let rest = all_pass test n (a + 1) (λ k lo hi. all k (omega arith) (omega arith)) in
    sum_by-cons (λ k. cond (test k) 1 0) a (range_with_len (a + 1) n) ∙ ap₂ (λ b k. cond b 1 0 + k) (all a (omega arith) (omega arith)) rest ∙ omega arith

all_but_zero : (test : ℕ → Bool) (n : ℕ) → test 0 ≡ false → ((k : ℕ) → 0 < k → k < n → test k ≡ true) → count_by test (range_with_len 0 n) ≡ n - 1
all_but_zero test zero none all = refl
all_but_zero test (suc n) none all =
    let rest = all_pass test n 1 (λ k lo hi. all k (omega arith) (omega arith)) in
    sum_by-cons (λ k. cond (test k) 1 0) 0 (range_with_len 1 n) ∙ ap₂ (λ b k. cond b 1 0 + k) none rest ∙ omega arith

pub all_invertible : (M : Meaning) → Shape M → Laws M → invertible M ≡ 2 ^ M.width - 1
unfolding invertible has_inverse
all_invertible M s L =
    let n = 2 ^ M.width in
    all_but_zero (has_inverse M) n
    (list_any_none (λ b. eqb (M.product 0 b) M.one) (all_codes M)
    (λ k d h. let b : k < n = subst (λ j. k < j) (length-range_with_len 0 n) h in
    ne_eqb (M.product 0 (get_or (all_codes M) k d)) M.one
    (λ e. L.one_not_zero (sym e ∙ ap (M.product 0) (get_or-range_with_len 0 n k d b ∙ zero-add k) ∙ zero_times M s L k b))))
    (λ a lo hi. let i = L.inverse a hi (λ z. omega arith) in
    list_any_at (λ b. eqb (M.product a b) M.one) (all_codes M) i.0 0 (subst (λ k. i.0 < k) (sym (length-range_with_len 0 n)) i.1)
    (eq-eqb (M.product a (get_or (all_codes M) i.0 0)) M.one (ap (M.product a) (get_or-range_with_len 0 n i.0 0 i.1 ∙ zero-add i.0) ∙ i.2)))
