-- Operations on any carrier, and the rings that this library is about.
use Rattle.std.specs.Prelude.{◌≡◌, ℕ, zero, suc}

-- a zero, a one, a sum and a product
pub record Ops (A : Type 0) : Type 0 where
  pub nil : A
  pub one : A
  pub add : A → A → A
  pub mul : A → A → A

-- a commutative ring with a one in which a + a is zero, so that no sign is ever needed
pub record Ring2 {A : Type 0} (O : Ops A) : Type 0 where
  pub add_assoc : (a b c : A) → O.add (O.add a b) c ≡ O.add a (O.add b c)
  pub add_comm : (a b : A) → O.add a b ≡ O.add b a
  pub add_nil : (a : A) → O.add a O.nil ≡ a
  pub add_self : (a : A) → O.add a a ≡ O.nil
  pub mul_assoc : (a b c : A) → O.mul (O.mul a b) c ≡ O.mul a (O.mul b c)
  pub mul_comm : (a b : A) → O.mul a b ≡ O.mul b a
  pub mul_add : (a b c : A) → O.mul a (O.add b c) ≡ O.add (O.mul a b) (O.mul a c)
  pub mul_one : (a : A) → O.mul a O.one ≡ a

-- the product of k copies of a, and one for none
unfoldable pub power : {A : Type 0} → Ops A → A → ℕ → A
power O a zero = O.one
power O a (suc k) = O.mul a (power O a k)
