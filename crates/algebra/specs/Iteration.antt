-- A function applied again and again.
use Rattle.std.specs.Prelude.{ℕ, zero, suc}

-- k times
unfoldable pub iterate : {A : Type 0} → (A → A) → ℕ → A → A
iterate f zero u = u
iterate f (suc k) u = f (iterate f k u)
