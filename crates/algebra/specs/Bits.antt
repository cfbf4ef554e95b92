-- The field of two elements, and a number as the tuple of its bits.
use Rattle.std.specs.Prelude.{ℕ, zero, suc, ◌+◌, ◌*◌, ◌/◌, ◌%◌, Bool, true, false, cond, ◌&&◌, List, [], ◌∷◌, ◌==◌}
use Rattle.std.specs.Bool.{xor}
use Rattle.algebra.specs.Operations.{Ops}

-- false is zero and true is one
unfoldable pub two : Ops Bool
two = record { nil = false; one = true; add = xor; mul = ◌&&◌ }

-- the v lowest bits of n, the lowest first
unfoldable pub bits : ℕ → ℕ → List Bool
bits zero n = []
bits (suc v) n = (n % 2 == 1) ∷ bits v (n / 2)

-- the number with these bits
unfoldable pub number : List Bool → ℕ
number [] = 0
number (x ∷ l) = cond x 1 0 + 2 * number l
