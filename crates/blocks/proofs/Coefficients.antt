-- The product of blocks, coefficient by coefficient.
-- Assumes nothing.
use Rattle.std.proofs.Common.{◌≡◌, ℕ, zero, suc, List, [], ◌∷◌, ◌++◌, length, replicate, sym, refl, ap, suc-ne-zero}
use Rattle.algebra.specs.Meaning.{Meaning, on_bytes}
use Rattle.algebra.specs.Tuples.{zeros}

pub zeros_are : (M : Meaning) (v : ℕ) → replicate v 0 ≡ zeros (on_bytes M) v
unfolding zeros on_bytes
zeros_are M zero = refl
zeros_are M (suc v) = ap (λ (t : List ℕ). 0 ∷ t) (zeros_are M v)

-- where nothing is left, all was taken
pub all_taken : (rest done a : List ℕ) → a ≡ rest ++ done → length rest ≡ 0 → done ≡ a
all_taken [] done a e h = sym e
all_taken (x ∷ rest) done a e h = absurd (suc-ne-zero (length rest) h)
