-- Block arithmetic: a product on the blocks of one size over a field, and the q-th power, where q is how many codes the field has.
use Rattle.std.specs.Prelude.{◌≡◌, ℕ, ◌^◌, ◌≤◌, List}
use Rattle.algebra.specs.Operations.{Ops, power}
use Rattle.algebra.specs.Meaning.{Meaning, Shape, Laws, on_bytes}
use Rattle.algebra.specs.Tuples.{plus, zeros}
use Rattle.algebra.specs.Blocks.{IsBlock, ByteProduct}

-- block arithmetic by what it answers: the field below, the size of a block, the unit, the product of two blocks, and a block's q-th power
pub record Arithmetic : Type 0 where
  pub field : Meaning
  pub size : ℕ
  pub one : List ℕ
  pub product : List ℕ → List ℕ → List ℕ
  pub q_power : List ℕ → List ℕ

-- a block of that size over that field
abbrev pub BlockOf : Arithmetic → List ℕ → Type 0
BlockOf A u = IsBlock A.field A.size u

-- the operations on blocks; the powers of a block are `power` over them
unfoldable pub block_operations : Arithmetic → Ops (List ℕ)
block_operations A = record { nil = zeros (on_bytes A.field) A.size; one = A.one; add = plus (on_bytes A.field); mul = A.product }

-- what holds of every block arithmetic, lawful or not
pub record Formed (A : Arithmetic) : Type 0 where
  pub shape : Shape A.field
  pub some : 1 ≤ A.size
  pub few : A.size ≤ 32

-- what is asked of one: over a field that keeps the laws, the product is bilinear, commutative and associative and has a unit, and the q-th
-- power is the product of q copies
pub record Lawful (A : Arithmetic) : Type 0 where
  pub shape : Shape A.field
  pub laws : Laws A.field
  pub products : ByteProduct A.field A.size A.one A.product
  pub q_power_is : (u : List ℕ) → BlockOf A u → A.q_power u ≡ power (block_operations A) u (2 ^ A.field.width)

-- every block is its own q^v-th power, where v is the size
abbrev pub Returns : Arithmetic → Type 0
Returns A = (u : List ℕ) → BlockOf A u → power (block_operations A) u ((2 ^ A.field.width) ^ A.size) ≡ u
