-- Searches below a bound, as tests and as facts.
-- Assumes nothing.
use Rattle.std.proofs.Common.{◌≡◌, ℕ, zero, suc, ◌+◌, ◌<◌, ◌≤◌, Bool, true, false, cond, ◌&&◌, ◌||◌, ◌⊎◌, sym, refl, ap, ◌∙◌, subst, ap₂, ⊎_elim, le_trans, le_refl, le_of_suc-le-suc, not-suc-le-zero, add-zero, lt-suc_self, eq-or-lt_of_le, add-one, arith}
use native.Mathlib.Nat.{le-suc}
use Rattle.std.proofs.lemmas.Bool.{and_parts, or_cases, or_from, or_left, or_right, both_ways, cases_Bool, cond-true, cond-false, cond_both, false≢true}
use Rattle.algebra.specs.Search.{some_below, first_from}

-- every number below n passes the test
unfoldable pub all_below : ℕ → (ℕ → Bool) → Bool
all_below zero test = true
all_below (suc n) test = test n && all_below n test

-- below n + 1 is below n, or n
below_cases : (n k : ℕ) → k < suc n → (k ≡ n) ⊎ (k < n)
below_cases n k h = eq-or-lt_of_le (le_of_suc-le-suc h)

pub all_below_at : (test : ℕ → Bool) (n : ℕ) → all_below n test ≡ true → (k : ℕ) → k < n → test k ≡ true
unfolding all_below
all_below_at test zero e k h = absurd (not-suc-le-zero h)
all_below_at test (suc n) e k h =
    ⊎_elim (λ (is : k ≡ n). ap test is ∙ (and_parts (test n) (all_below n test) e).0)
    (λ less. all_below_at test n (and_parts (test n) (all_below n test) e).1 k less) (below_cases n k h)

pub some_below_at : (test : ℕ → Bool) (n k : ℕ) → k < n → test k ≡ true → some_below n test ≡ true
unfolding some_below
some_below_at test zero k h e = absurd (not-suc-le-zero h)
some_below_at test (suc n) k h e =
    ⊎_elim (λ (is : k ≡ n). or_left (test n) (some_below n test) (ap test (sym is) ∙ e))
    (λ less. or_right (test n) (some_below n test) (some_below_at test n k less e)) (below_cases n k h)

pub some_below_found : (test : ℕ → Bool) (n : ℕ) → some_below n test ≡ true → (k : ℕ) × (k < n) × (test k ≡ true)
unfolding some_below
some_below_found test zero e = absurd (false≢true e)
some_below_found test (suc n) e =
    ⊎_elim (λ (here : test n ≡ true). (n, lt-suc_self n, here))
    (λ there. let f = some_below_found test n there in (f.0, le_trans f.1 (le-suc n), f.2)) (or_cases (test n) (some_below n test) e)

pub some_below_none : (test : ℕ → Bool) (n : ℕ) → ((k : ℕ) → k < n → test k ≡ false) → some_below n test ≡ false
unfolding some_below
some_below_none test zero none = refl
some_below_none test (suc n) none =
    or_from (test n) (some_below n test) (none n (lt-suc_self n)) (some_below_none test n (λ k h. none k (le_trans h (le-suc n))))

pub some_below_not : (test : ℕ → Bool) (n : ℕ) → some_below n test ≡ false → (k : ℕ) → k < n → test k ≡ false
some_below_not test n none k h =
    ⊎_elim (λ (found : test k ≡ true). absurd (both_ways (some_below n test) none (some_below_at test n k h found))) (λ no_one. no_one) (cases_Bool (test k))

-- tests that agree find alike
pub some_below_same : (t s : ℕ → Bool) (n : ℕ) → ((k : ℕ) → k < n → t k ≡ s k) → some_below n t ≡ some_below n s
unfolding some_below
some_below_same t s zero same = refl
some_below_same t s (suc n) same = ap₂ ◌||◌ (same n (lt-suc_self n)) (some_below_same t s n (λ k h. same k (le_trans h (le-suc n))))

-- ---- the first

pub first_same : (t s : ℕ → Bool) (n i : ℕ) → ((k : ℕ) → i ≤ k → k < i + n → t k ≡ s k) → first_from i n t ≡ first_from i n s
unfolding first_from
first_same t s zero i same = refl
first_same t s (suc n) i same =
    ap₂ (λ b k. cond b i k) (same i (le_refl i) (omega arith)) (first_same t s n (suc i) (λ k lo hi. same k (omega arith) (omega arith)))

-- every number from i up to j fails
abbrev pub Fails : (ℕ → Bool) → ℕ → ℕ → Type 0
Fails test i j = (k : ℕ) → i ≤ k → k < j → test k ≡ false

pub first_found : (test : ℕ → Bool) (n i j : ℕ) → i ≤ j → j < i + n → Fails test i j → test j ≡ true → first_from i n test ≡ j
unfolding first_from
first_found test zero i j lo hi fails passes = absurd (omega arith)
first_found test (suc n) i j lo hi fails passes =
    ⊎_elim (λ (is : i ≡ j). cond-true (test i) i (first_from (suc i) n test) (ap test is ∙ passes) ∙ is)
    (λ (less : i < j). cond-false (test i) i (first_from (suc i) n test) (fails i (le_refl i) less)
    ∙ first_found test n (suc i) j less (omega arith) (λ k h l. fails k (omega arith) l) passes)
    (eq-or-lt_of_le lo)

pub first_none : (test : ℕ → Bool) (n i : ℕ) → Fails test i (i + n) → first_from i n test ≡ i + n
unfolding first_from
first_none test zero i fails = sym (add-zero i)
first_none test (suc n) i fails =
    cond-false (test i) i (first_from (suc i) n test) (fails i (le_refl i) (omega arith))
    ∙ first_none test n (suc i) (λ k h l. fails k (omega arith) (omega arith)) ∙ omega arith

-- one number more fails
pub fails_more : (test : ℕ → Bool) (i e : ℕ) → Fails test i e → test e ≡ false → Fails test i (e + 1)
fails_more test i e below here k lo hi =
    ⊎_elim (λ (is : k ≡ e). ap test is ∙ here) (λ less. below k lo less) (eq-or-lt_of_le (le_of_suc-le-suc (subst (λ n. k < n) (add-one e) hi)))

-- what is found passes
pub first_passes : (test : ℕ → Bool) (n i : ℕ) → first_from i n test < i + n → test (first_from i n test) ≡ true
unfolding first_from
first_passes test zero i h = absurd (omega arith)
first_passes test (suc n) i h = by (test i) refl h (first_passes test n (suc i))
  where
    by : (b : Bool) → test i ≡ b → cond b i (first_from (suc i) n test) < i + suc n
        → (first_from (suc i) n test < suc i + n → test (first_from (suc i) n test) ≡ true) → test (cond b i (first_from (suc i) n test)) ≡ true
    by true e l next = e
    by false e l next = next (omega arith)

-- and never lies past the end
pub first_bound : (test : ℕ → Bool) (n i : ℕ) → first_from i n test ≤ i + n
unfolding first_from
first_bound test zero i = omega arith
first_bound test (suc n) i = cond_both (test i) i (first_from (suc i) n test) (λ k. k ≤ i + suc n) (λ e. omega arith) (λ e. let h = first_bound test n (suc i) in omega arith)

-- what passes is not missed
pub first_reaches : (test : ℕ → Bool) (n i k : ℕ) → i ≤ k → k < i + n → test k ≡ true → first_from i n test ≤ k
unfolding first_from
first_reaches test zero i k lo hi e = absurd (omega arith)
first_reaches test (suc n) i k lo hi e =
    cond_both (test i) i (first_from (suc i) n test) (λ z. z ≤ k) (λ _. lo)
    (λ fails. ⊎_elim (λ (is : i ≡ k). absurd (both_ways (test i) fails (ap test is ∙ e)))
    (λ less. first_reaches test n (suc i) k less (omega arith) e) (eq-or-lt_of_le lo))

pub first_start : (test : ℕ → Bool) (n i : ℕ) → i ≤ first_from i n test
unfolding first_from
first_start test zero i = le_refl i
first_start test (suc n) i = cond_both (test i) i (first_from (suc i) n test) (λ k. i ≤ k) (λ e. le_refl i) (λ e. let h = first_start test n (suc i) in omega arith)
