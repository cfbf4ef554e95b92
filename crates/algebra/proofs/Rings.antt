-- What every commutative ring with a + a = 0 has besides its laws.
-- Assumes nothing.
use Rattle.std.proofs.Common.{◌≡◌, sym, ap, ◌∙◌, ap₂}
use Rattle.algebra.specs.Operations.{Ops, Ring2}

-- the laws that are about sums alone
pub record Sums {A : Type 0} (O : Ops A) : Type 0 where
  pub assoc : (a b c : A) → O.add (O.add a b) c ≡ O.add a (O.add b c)
  pub comm : (a b : A) → O.add a b ≡ O.add b a
  pub nil : (a : A) → O.add a O.nil ≡ a
  pub self : (a : A) → O.add a a ≡ O.nil

pub sums_of : {A : Type 0} {O : Ops A} → Ring2 O → Sums O
sums_of R = record { assoc = R.add_assoc; comm = R.add_comm; nil = R.add_nil; self = R.add_self }

module _ {A : Type 0} {O : Ops A} (R : Ring2 O) where
  pub nil_add : (a : A) → O.add O.nil a ≡ a
  nil_add a = R.add_comm O.nil a ∙ R.add_nil a

  pub add_left_comm : (a b c : A) → O.add a (O.add b c) ≡ O.add b (O.add a c)
  add_left_comm a b c = sym (R.add_assoc a b c) ∙ ap (λ x. O.add x c) (R.add_comm a b) ∙ R.add_assoc b a c

  pub add_twice : (a b : A) → O.add a (O.add a b) ≡ b
  add_twice a b = sym (R.add_assoc a a b) ∙ ap (λ x. O.add x b) (R.add_self a) ∙ nil_add b

  pub add_exchange : (a b c d : A) → O.add (O.add a b) (O.add c d) ≡ O.add (O.add a c) (O.add b d)
  add_exchange a b c d = R.add_assoc a b (O.add c d) ∙ ap (O.add a) (add_left_comm b c d) ∙ sym (R.add_assoc a c (O.add b d))

  -- two elements whose sum is zero are one
  pub equal_if_nil : (a b : A) → O.add a b ≡ O.nil → a ≡ b
  equal_if_nil a b e = sym (R.add_nil a) ∙ ap (O.add a) (sym e) ∙ add_twice a b

  pub mul_nil : (a : A) → O.mul a O.nil ≡ O.nil
  mul_nil a = ap (O.mul a) (sym (R.add_self O.nil)) ∙ R.mul_add a O.nil O.nil ∙ R.add_self (O.mul a O.nil)

  pub nil_mul : (a : A) → O.mul O.nil a ≡ O.nil
  nil_mul a = R.mul_comm O.nil a ∙ mul_nil a

  pub one_mul : (a : A) → O.mul O.one a ≡ a
  one_mul a = R.mul_comm O.one a ∙ R.mul_one a

  pub add_mul : (a b c : A) → O.mul (O.add a b) c ≡ O.add (O.mul a c) (O.mul b c)
  add_mul a b c = R.mul_comm (O.add a b) c ∙ R.mul_add c a b ∙ ap₂ O.add (R.mul_comm c a) (R.mul_comm c b)

  pub mul_left_comm : (a b c : A) → O.mul a (O.mul b c) ≡ O.mul b (O.mul a c)
  mul_left_comm a b c = sym (R.mul_assoc a b c) ∙ ap (λ x. O.mul x c) (R.mul_comm a b) ∙ R.mul_assoc b a c

  pub mul_exchange : (a b c d : A) → O.mul (O.mul a b) (O.mul c d) ≡ O.mul (O.mul a c) (O.mul b d)
  mul_exchange a b c d = R.mul_assoc a b (O.mul c d) ∙ ap (O.mul a) (mul_left_comm b c d) ∙ sym (R.mul_assoc a c (O.mul b d))

  -- the square of a sum is the sum of the squares
  pub square_sum : (a b : A) → O.mul (O.add a b) (O.add a b) ≡ O.add (O.mul a a) (O.mul b b)
  square_sum a b =
      R.mul_add (O.add a b) a b ∙ ap₂ O.add (add_mul a b a) (add_mul a b b ∙ R.add_comm (O.mul a b) (O.mul b b))
      ∙ add_exchange (O.mul a a) (O.mul b a) (O.mul b b) (O.mul a b)
      ∙ ap (O.add (O.add (O.mul a a) (O.mul b b))) (ap (λ z. O.add z (O.mul a b)) (R.mul_comm b a) ∙ R.add_self (O.mul a b))
      ∙ R.add_nil (O.add (O.mul a a) (O.mul b b))
