-- Codes of any field.
-- Assumes nothing.
use Rattle.std.proofs.Common.{◌≡◌, ℕ, ◌^◌, ◌<◌, ◌≤◌, ◌∙◌, ap₂, le_trans, mod-lt, mod-eq_of_lt, pow_pos, pow_mono}
use lib.Bits.{xor_self}
use Rattle.algebra.specs.Meaning.{Meaning, Shape, Laws, IsCode, as_code}

-- what a byte is taken for is a code
pub is_code : (M : Meaning) (a : ℕ) → IsCode M (as_code M a)
unfolding as_code
is_code M a = mod-lt a (pow_pos M.width)

-- a code is taken for itself
pub own_code : (M : Meaning) (a : ℕ) → IsCode M a → as_code M a ≡ a
unfolding as_code
own_code M a h = mod-eq_of_lt h

pub product_of_codes : (M : Meaning) (a b : ℕ) → IsCode M a → IsCode M b → M.product (as_code M a) (as_code M b) ≡ M.product a b
product_of_codes M a b ha hb = ap₂ M.product (own_code M a ha) (own_code M b hb)

-- there are at most 256
pub few_codes : (M : Meaning) → Shape M → 2 ^ M.width ≤ 256
few_codes M s = pow_mono s.at_most

pub code_byte : (M : Meaning) → Shape M → (a : ℕ) → IsCode M a → a < 256
code_byte M s a h = le_trans h (few_codes M s)

-- ---- in a sound field

module _ (M : Meaning) (s : Shape M) (L : Laws M) where
  zero_code : IsCode M 0
  zero_code = pow_pos M.width

  pub times_zero : (a : ℕ) → IsCode M a → M.product a 0 ≡ 0
  times_zero a h = L.distributes a 0 0 h zero_code zero_code ∙ xor_self (M.product a 0)

  pub zero_times : (a : ℕ) → IsCode M a → M.product 0 a ≡ 0
  zero_times a h = L.commutes 0 a zero_code h ∙ times_zero a h
