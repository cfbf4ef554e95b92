-- Masks and shifts on machine words, as arithmetic.
-- Assumes nothing.
use Rattle.std.proofs.Common.{◌≡◌, ℕ, zero, suc, ◌+◌, ◌-◌, ◌*◌, ◌%◌, ◌^◌, ◌<◌, sym, ap, ◌∙◌, mod-eq_of_lt, one-mul, zero-mul, arith}
use lib.Bits.{bit_and, and_zero_r, and_mask}

-- a word and the negative of a bit: the word where the bit is set, else 0
pub chosen : (bit value r : ℕ) → bit < 2 → value < 2 ^ 32 → r < 2 ^ 32 → (r + bit) % 2 ^ 32 ≡ 0 → bit_and value r ≡ bit * value
chosen zero value r hb hv hr e =
    let z : r ≡ 0 = omega arith in
    ap (bit_and value) z ∙ and_zero_r value ∙ sym (zero-mul value)
chosen (suc zero) value r hb hv hr e =
    let z : r ≡ 2 ^ 32 - 1 = omega arith in
    ap (bit_and value) z ∙ and_mask value 32 ∙ mod-eq_of_lt hv ∙ sym (one-mul value)
chosen (suc (suc bit)) value r hb hv hr e = absurd (omega arith)
