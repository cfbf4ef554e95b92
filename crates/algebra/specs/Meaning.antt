-- What a finite field of up to 256 elements means: its width, its one, its product on codes, and whether it is sound.
-- A code is a number below 2^width; the sum of two codes is their bitwise exclusive or.
use Rattle.std.specs.Prelude.{◌≡◌, ℕ, ◌%◌, ◌^◌, ◌<◌, ◌≤◌, Bool, false, ◌≢◌, bit_xor}
use Rattle.algebra.specs.Operations.{Ops, power}

-- a field by what it answers; `sound` is its own word that the laws below hold
pub record Meaning : Type 0 where
  pub width : ℕ
  pub one : ℕ
  pub product : ℕ → ℕ → ℕ
  pub sound : Bool

-- a number that stands for an element
abbrev pub IsCode : Meaning → ℕ → Type 0
IsCode M a = a < 2 ^ M.width

-- the code that a product takes an operand for: its low bits
unfoldable pub as_code : Meaning → ℕ → ℕ
as_code M a = a % 2 ^ M.width

-- what counts of a number that a field is made from: its m low bits
unfoldable pub low_bits : ℕ → ℕ → ℕ
low_bits m n = n % 2 ^ m

-- a field's operations on codes
unfoldable pub operations : Meaning → Ops ℕ
operations M = record { nil = 0; one = M.one; add = bit_xor; mul = M.product }

-- and on bytes, as its product takes them: of a factor counts the code that it is taken for
unfoldable pub on_bytes : Meaning → Ops ℕ
on_bytes M = record { nil = 0; one = M.one; add = bit_xor; mul = λ a b. M.product (as_code M a) (as_code M b) }

-- what holds of every field, sound or not
pub record Shape (M : Meaning) : Type 0 where
  pub at_least : 1 ≤ M.width
  pub at_most : M.width ≤ 8
  pub one_code : IsCode M M.one
  pub product_code : (a b : ℕ) → IsCode M a → IsCode M b → IsCode M (M.product a b)

-- what a field vouches for when it calls itself sound: it is a field, and every element is its own 2^width-th power
pub record Laws (M : Meaning) : Type 0 where
  pub commutes : (a b : ℕ) → IsCode M a → IsCode M b → M.product a b ≡ M.product b a
  pub associates : (a b c : ℕ) → IsCode M a → IsCode M b → IsCode M c → M.product (M.product a b) c ≡ M.product a (M.product b c)
  pub distributes : (a b c : ℕ) → IsCode M a → IsCode M b → IsCode M c
      → M.product a (bit_xor b c) ≡ bit_xor (M.product a b) (M.product a c)
  pub one_not_zero : M.one ≡ 0 → ⊥
  pub one_times : (a : ℕ) → IsCode M a → M.product M.one a ≡ a
  pub inverse : (a : ℕ) → IsCode M a → (a ≢ 0) → (b : ℕ) × IsCode M b × (M.product a b ≡ M.one)
  pub returns : (a : ℕ) → IsCode M a → power (operations M) a (2 ^ M.width) ≡ a

-- the field that is made where the numbers given do not make one: products are zero, and it is not sound
unfoldable pub dead : Meaning
dead = record { width = 1; one = 1; product = λ a b. 0; sound = false }
