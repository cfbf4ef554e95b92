-- Searches through numbers.
use Rattle.std.specs.Prelude.{ℕ, zero, suc, Bool, false, cond, ◌||◌}

-- some number below n passes the test
unfoldable pub some_below : ℕ → (ℕ → Bool) → Bool
some_below zero test = false
some_below (suc n) test = test n || some_below n test

-- the first number from i on that passes the test, of n that are looked at; i + n if none does
unfoldable pub first_from : ℕ → ℕ → (ℕ → Bool) → ℕ
first_from i zero test = i
first_from i (suc n) test = cond (test i) i (first_from (suc i) n test)
