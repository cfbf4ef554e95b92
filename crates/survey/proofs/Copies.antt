-- A loop that multiplies by one copy after another, against the first number of copies that it looks for.
-- Assumes nothing.
use Rattle.std.proofs.Common.{◌≡◌, ℕ, zero, suc, ◌+◌, ◌-◌, ◌<◌, ◌≤◌, Bool, true, Some, None, eqb, sym, ap, ◌∙◌, refl, ⊎_elim, eq-or-lt_of_le, arith}
use Rattle.std.specs.List.{range_with_len, find}
use Rattle.std.proofs.lemmas.Bool.{ne_eqb, cond-true, cond-false}
use Rattle.algebra.specs.Operations.{power}
use Rattle.algebra.specs.Meaning.{Meaning, IsCode, as_code, operations}
use Rattle.algebra.proofs.Codes.{own_code}
use Rattle.algebra.proofs.Search.{Fails, fails_more}

pub found : (test : ℕ → Bool) (n i e : ℕ) → i ≤ e → e < i + n → Fails test i e → test e ≡ true → find test (range_with_len i n) ≡ Some e
found test zero i e lo hi fails passes = absurd (omega arith)
found test (suc n) i e lo hi fails passes =
    ⊎_elim (λ (is : i ≡ e). cond-true (test i) (Some i) (find test (range_with_len (i + 1) n)) (ap test is ∙ passes) ∙ ap Some is)
    (λ (less : i < e). cond-false (test i) (Some i) (find test (range_with_len (i + 1) n)) (fails i (omega arith) less)
    ∙ found test n (i + 1) e (omega arith) (omega arith) (λ k lo hi. fails k (omega arith) hi) passes)
    (eq-or-lt_of_le lo)

pub not_found : (test : ℕ → Bool) (n i : ℕ) → Fails test i (i + n) → find test (range_with_len i n) ≡ None
not_found test zero i fails = refl
not_found test (suc n) i fails =
    cond-false (test i) (Some i) (find test (range_with_len (i + 1) n)) (fails i (omega arith) (omega arith))
    ∙ not_found test n (i + 1) (λ k lo hi. fails k (omega arith) (omega arith))

-- one copy more of a
pub power_more : (M : Meaning) (a x e r : ℕ) → IsCode M x → 1 ≤ e → x ≡ power (operations M) a (e - 1) → r ≡ M.product a (as_code M x) → r ≡ power (operations M) a e
unfolding power operations
power_more M a x e r code pos so_far is =
    let e-is : suc (e - 1) ≡ e = omega arith in
    is ∙ ap (M.product a) (own_code M x code ∙ so_far) ∙ ap (power (operations M) a) e-is

-- e copies do not give one either
pub none_more : (M : Meaning) (a e one r : ℕ) → one ≡ M.one → Fails (λ k. eqb (power (operations M) a k) M.one) 1 e → r ≡ power (operations M) a e → (r ≡ one → ⊥)
    → Fails (λ k. eqb (power (operations M) a k) M.one) 1 (e + 1)
none_more M a e one r one-is none is other =
    fails_more (λ k. eqb (power (operations M) a k) M.one) 1 e none (ne_eqb (power (operations M) a e) M.one (λ z. other (is ∙ z ∙ sym one-is)))
