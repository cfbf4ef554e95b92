-- The low bits of a number, as code takes them: by a mask made of a shifted one.
-- Assumes nothing.
use Rattle.std.proofs.Common.{◌≡◌, ℕ, ◌-◌, ◌*◌, ◌%◌, ◌^◌, ◌≤◌, ap, ◌∙◌, mod-eq_of_lt, one-mul, arith, pow_mono}
use lib.Bits.{bit_and, and_mask}

-- the mask of m low bits
pub mask_is : (m : ℕ) → m ≤ 8 → 1 * 2 ^ m % 2 ^ 32 - 1 ≡ 2 ^ m - 1
mask_is m h =
    let small : 2 ^ m ≤ 2 ^ 8 = pow_mono h in
    ap (λ z. z % 2 ^ 32 - 1) (one-mul (2 ^ m)) ∙ ap (λ z. z - 1) (mod-eq_of_lt (omega arith))

pub low_is : (x m : ℕ) → m ≤ 8 → bit_and x (1 * 2 ^ m % 2 ^ 32 - 1) ≡ x % 2 ^ m
low_is x m h = ap (bit_and x) (mask_is m h) ∙ and_mask x m
