-- A search through a range or a list, as a search through numbers.
-- Assumes nothing.
use Rattle.std.proofs.Common.{◌≡◌, ℕ, zero, suc, ◌+◌, ◌≤◌, Bool, true, false, not, ◌&&◌, ◌||◌, List, length, get_or, take, sym, refl, ap, ◌∙◌, ap₂, add-one, arith}
use Rattle.std.proofs.lemmas.Bool.{and_right}
use Rattle.std.proofs.lemmas.List.Folds.{list_all_more}
use Rattle.std.specs.List.{list_any, list_all, range_with_len}
use Rattle.algebra.specs.Search.{some_below}
use Rattle.algebra.proofs.Search.{some_below_same}

or_swap : (a b c : Bool) → (a || (b || c)) ≡ (b || (a || c))
or_swap true true c = refl
or_swap true false c = refl
or_swap false b c = refl

-- the lowest number first
from_lowest : (test : ℕ → Bool) (n : ℕ) → some_below (suc n) test ≡ (test 0 || some_below n (λ k. test (k + 1)))
unfolding some_below
from_lowest test zero = refl
from_lowest test (suc n) =
    ap (λ b. test (suc n) || b) (from_lowest test n) ∙ or_swap (test (suc n)) (test 0) (some_below n (λ k. test (k + 1)))
    ∙ ap (λ k. test 0 || (test k || some_below n (λ k. test (k + 1)))) (sym (add-one n))

pub some_in_range : (test : ℕ → Bool) (a n : ℕ) → list_any test (range_with_len a n) ≡ some_below n (λ k. test (k + a))
unfolding some_below
some_in_range test a zero = refl
some_in_range test a (suc n) =
    let same : (k : ℕ) → k + (a + 1) ≡ k + 1 + a = λ k. omega arith in
    ap₂ ◌||◌ (ap test (omega arith))
    (some_in_range test (a + 1) n ∙ some_below_same (λ k. test (k + (a + 1))) (λ k. test (k + 1 + a)) n (λ k h. ap test (same k)))
    ∙ sym (from_lowest (λ k. test (k + a)) n)

not_or : (a b : Bool) → (not b && a) ≡ not (not a || b)
not_or true b = by b
  where
    by : (b : Bool) → (not b && true) ≡ not (false || b)
    by true = refl
    by false = refl
not_or false b = and_right (not b) false refl

pub all_of_first : {X : Type 0} (test : X → Bool) (d : X) (xs : List X) (n : ℕ) → n ≤ length xs
    → list_all test (take n xs) ≡ not (some_below n (λ k. not (test (get_or xs k d))))
unfolding some_below
all_of_first test d xs zero h = refl
all_of_first test d xs (suc n) h =
    ap (λ k. list_all test (take k xs)) (sym (add-one n)) ∙ list_all_more test xs n d h
    ∙ ap (λ b. b && test (get_or xs n d)) (all_of_first test d xs n (omega arith))
    ∙ not_or (test (get_or xs n d)) (some_below n (λ k. not (test (get_or xs k d))))
