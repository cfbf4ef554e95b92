-- A field whose codes stand one to one for the elements of a ring, and its laws by those of the ring.
-- Assumes nothing.
use Rattle.std.proofs.Common.{◌≡◌, ℕ, zero, suc, ◌-◌, ◌^◌, ◌≤◌, ◌⊎◌, sym, ap, ◌∙◌, subst, ap₂, arith, pow_pos, pow_mono}
use lib.Bits.{bit_xor, xor_lt}
use Rattle.algebra.specs.Operations.{Ops, Ring2, power}
use Rattle.algebra.specs.Meaning.{Meaning, Laws, IsCode, operations}
use Rattle.algebra.proofs.Rings.{mul_nil, one_mul}
use Rattle.algebra.proofs.Powers.{inverse_by_power}

-- codes and elements stand for each other, and so do sums, products, zero and one
pub record Carried {A : Type 0} (N : Meaning) (Q : Ops A) : Type 0 where
  pub to : ℕ → A
  pub from : A → ℕ
  pub from_code : (u : A) → IsCode N (from u)
  pub from_to : (a : ℕ) → IsCode N a → from (to a) ≡ a
  pub to_from : (u : A) → to (from u) ≡ u
  pub product_is : (a b : ℕ) → IsCode N a → IsCode N b → N.product a b ≡ from (Q.mul (to a) (to b))
  pub sum_is : (a b : ℕ) → IsCode N a → IsCode N b → to (bit_xor a b) ≡ Q.add (to a) (to b)
  pub zero_is : to 0 ≡ Q.nil
  pub one_is : to N.one ≡ Q.one
  pub one_code : IsCode N N.one

module _ {A : Type 0} {N : Meaning} {Q : Ops A} (K : Carried N Q) where
  pub to_product : (a b : ℕ) → IsCode N a → IsCode N b → K.to (N.product a b) ≡ Q.mul (K.to a) (K.to b)
  to_product a b ha hb = ap K.to (K.product_is a b ha hb) ∙ K.to_from (Q.mul (K.to a) (K.to b))

  pub product_lt : (a b : ℕ) → IsCode N a → IsCode N b → IsCode N (N.product a b)
  product_lt a b ha hb = subst (IsCode N) (sym (K.product_is a b ha hb)) (K.from_code (Q.mul (K.to a) (K.to b)))

  pub from_sum : (s t : A) → K.from (Q.add s t) ≡ bit_xor (K.from s) (K.from t)
  from_sum s t =
      let a = K.from s in
      let b = K.from t in
      ap K.from (ap₂ Q.add (sym (K.to_from s)) (sym (K.to_from t)) ∙ sym (K.sum_is a b (K.from_code s) (K.from_code t)))
      ∙ K.from_to (bit_xor a b) (xor_lt N.width a b (K.from_code s) (K.from_code t))

  pub from_zero : K.from Q.nil ≡ 0
  from_zero = sym (ap K.from K.zero_is) ∙ K.from_to 0 (pow_pos N.width)

  pub from_one : K.from Q.one ≡ N.one
  from_one = sym (ap K.from K.one_is) ∙ K.from_to N.one K.one_code

  pub same_element : (s t : A) → K.from s ≡ K.from t → s ≡ t
  same_element s t e = sym (K.to_from s) ∙ ap K.to e ∙ K.to_from t

  pub same_code : (a b : ℕ) → IsCode N a → IsCode N b → K.to a ≡ K.to b → a ≡ b
  same_code a b ha hb e = sym (K.from_to a ha) ∙ ap K.from e ∙ K.from_to b hb

  pub power_is : (a : ℕ) → IsCode N a → (k : ℕ) → power (operations N) a k ≡ K.from (power Q (K.to a) k)
  unfolding power operations
  power_is a h zero = sym from_one
  power_is a h (suc k) =
      let t = power Q (K.to a) k in
      ap (N.product a) (power_is a h k) ∙ K.product_is a (K.from t) h (K.from_code t) ∙ ap (λ u. K.from (Q.mul (K.to a) u)) (K.to_from t)

  pub power_code : (a : ℕ) → IsCode N a → (k : ℕ) → IsCode N (power (operations N) a k)
  power_code a h k = subst (IsCode N) (sym (power_is a h k)) (K.from_code (power Q (K.to a) k))

  pub to_power : (a : ℕ) → IsCode N a → (k : ℕ) → K.to (power (operations N) a k) ≡ power Q (K.to a) k
  to_power a h k = ap K.to (power_is a h k) ∙ K.to_from (power Q (K.to a) k)

  -- ---- the laws of a ring

  module _ (R : Ring2 Q) where
    pub commutes : (a b : ℕ) → IsCode N a → IsCode N b → N.product a b ≡ N.product b a
    commutes a b ha hb = K.product_is a b ha hb ∙ ap K.from (R.mul_comm (K.to a) (K.to b)) ∙ sym (K.product_is b a hb ha)

    pub associates : (a b c : ℕ) → IsCode N a → IsCode N b → IsCode N c → N.product (N.product a b) c ≡ N.product a (N.product b c)
    associates a b c ha hb hc =
        K.product_is (N.product a b) c (product_lt a b ha hb) hc ∙ ap (λ t. K.from (Q.mul t (K.to c))) (to_product a b ha hb)
        ∙ ap K.from (R.mul_assoc (K.to a) (K.to b) (K.to c))
        ∙ ap (λ t. K.from (Q.mul (K.to a) t)) (sym (to_product b c hb hc)) ∙ sym (K.product_is a (N.product b c) ha (product_lt b c hb hc))

    pub distributes : (a b c : ℕ) → IsCode N a → IsCode N b → IsCode N c → N.product a (bit_xor b c) ≡ bit_xor (N.product a b) (N.product a c)
    distributes a b c ha hb hc =
        K.product_is a (bit_xor b c) ha (xor_lt N.width b c hb hc) ∙ ap (λ t. K.from (Q.mul (K.to a) t)) (K.sum_is b c hb hc)
        ∙ ap K.from (R.mul_add (K.to a) (K.to b) (K.to c)) ∙ from_sum (Q.mul (K.to a) (K.to b)) (Q.mul (K.to a) (K.to c))
        ∙ ap₂ bit_xor (sym (K.product_is a b ha hb)) (sym (K.product_is a c ha hc))

    pub one_times : (a : ℕ) → IsCode N a → N.product N.one a ≡ a
    one_times a h =
        K.product_is N.one a K.one_code h ∙ ap (λ t. K.from (Q.mul t (K.to a))) K.one_is
        ∙ ap K.from (one_mul R (K.to a)) ∙ K.from_to a h

    pub times_zero : (a : ℕ) → IsCode N a → N.product a 0 ≡ 0
    times_zero a h =
        K.product_is a 0 h (pow_pos N.width) ∙ ap (λ t. K.from (Q.mul (K.to a) t)) K.zero_is
        ∙ ap K.from (mul_nil R (K.to a)) ∙ from_zero

    -- what has an inverse divides no zero
    pub no_divisor : (a b c : ℕ) → IsCode N a → IsCode N b → IsCode N c → N.product a c ≡ N.one → N.product a b ≡ 0 → b ≡ 0
    no_divisor a b c ha hb hc unit e =
        sym (one_times b hb) ∙ ap (λ z. N.product z b) (sym unit ∙ commutes a c ha hc) ∙ associates c a b hc ha hb
        ∙ ap (N.product c) e ∙ times_zero c hc

    -- ---- the laws of a field, where every element is its own 2^width-th power and only zero and one are their own squares

    module _ (wide : 1 ≤ N.width) (apart : N.one ≡ 0 → ⊥) (returns : (u : A) → power Q u (2 ^ N.width) ≡ u)
        (own_squares : (e : A) → Q.mul e e ≡ e → (e ≡ Q.nil) ⊎ (e ≡ Q.one)) where
      inverse_element : (u : A) → (u ≡ Q.nil → ⊥) → Q.mul u (power Q u (2 ^ N.width - 2)) ≡ Q.one
      inverse_element =
          let two : 2 ^ 1 ≤ 2 ^ N.width = pow_mono wide in
          let is : suc (suc (2 ^ N.width - 2)) ≡ 2 ^ N.width = omega arith in
          inverse_by_power R (2 ^ N.width - 2) (λ u. ap (power Q u) is ∙ returns u) own_squares

      pub inverse : (a : ℕ) → IsCode N a → (a ≡ 0 → ⊥) → (b : ℕ) × IsCode N b × (N.product a b ≡ N.one)
      inverse a h not-zero =
          let t = power Q (K.to a) (2 ^ N.width - 2) in
          let not_nil : K.to a ≡ Q.nil → ⊥ = λ e. not-zero (sym (K.from_to a h) ∙ ap K.from e ∙ from_zero) in (
            K.from t,
            K.from_code t,
            K.product_is a (K.from t) h (K.from_code t) ∙ ap (λ u. K.from (Q.mul (K.to a) u)) (K.to_from t)
                ∙ ap K.from (inverse_element (K.to a) not_nil) ∙ from_one,
          )

      pub carried_laws : Laws N
      carried_laws = record {
        commutes = commutes;
        associates = associates;
        distributes = distributes;
        one_not_zero = apart;
        one_times = one_times;
        inverse = inverse;
        returns = λ a h. power_is a h (2 ^ N.width) ∙ ap K.from (returns (K.to a)) ∙ K.from_to a h;
      }
