-- One turn of the loop that works a product of polynomials out.
-- Assumes nothing.
use Rattle.std.proofs.Common.{◌≡◌, ℕ, suc, ◌-◌, ◌*◌, ◌/◌, ◌%◌, ◌^◌, ◌<◌, ◌≤◌, sym, ap, ◌∙◌, ap₂, mod-eq_of_lt, mul_comm, arith, pow_mono}
use lib.Bits.{bit_and, bit_xor, and_mask}
use Rattle.algebra.proofs.Binary.{step, horner, horner_next}

-- a code is doubled with no bit lost
pub doubled : (w r : ℕ) → w ≤ 8 → r < 2 ^ w → r * 2 % 2 ^ 32 ≡ 2 * r
doubled w r hw hr =
    let small : 2 ^ w ≤ 2 ^ 8 = pow_mono hw in
    mod-eq_of_lt (omega arith) ∙ mul_comm r 2

pub turn : (w p b digits i a r s t : ℕ) → w ≤ 8 → 0 < i → i ≤ digits → r < 2 ^ w → r ≡ horner w p b (digits - i) (a / 2 ^ i)
    → s ≡ r * 2 % 2 ^ 32 / 2 ^ w * p → t ≡ bit_and (a / 2 ^ (i - 1)) 1 * b
    → bit_xor (bit_xor (r * 2 % 2 ^ 32) s) t ≡ horner w p b (digits - (i - 1)) (a / 2 ^ (i - 1))
unfolding step
turn w p b digits i a r s t hw hi hd hr is s-is t-is =
    let j = i - 1 in
    let twice : r * 2 % 2 ^ 32 ≡ 2 * r = doubled w r hw hr in
    let i-is : suc j ≡ i = omega arith in
    let n-is : suc (digits - i) ≡ digits - j = omega arith in
    ap₂ bit_xor
    (ap₂ bit_xor twice (s-is ∙ ap (λ z. z / 2 ^ w * p) twice) ∙ ap (step w p) (is ∙ ap (λ k. horner w p b (digits - i) (a / 2 ^ k)) (sym i-is)))
    (t-is ∙ ap (λ z. z * b) (and_mask (a / 2 ^ j) 1))
    ∙ sym (horner_next w p b (digits - i) j a)
    ∙ ap (λ n. horner w p b n (a / 2 ^ j)) n-is
