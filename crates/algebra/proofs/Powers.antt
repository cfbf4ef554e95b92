-- Powers in a ring with a + a = 0: raising to a power of two is additive, and in a quotient it fixes every tuple once it fixes X.
-- Assumes nothing.
use Rattle.std.proofs.Common.{◌≡◌, ℕ, zero, suc, ◌+◌, ◌*◌, ◌^◌, ◌⊎◌, List, [], ◌∷◌, length, sym, refl, ap, ◌∙◌, ap₂, inl, inr, add_comm, suc-add, pow-suc, mul-zero, zero-add, mul-suc}
use Rattle.algebra.specs.Operations.{Ops, Ring2, power}
use Rattle.algebra.specs.Tuples.{plus, scale, zeros, unit, times_x, times}
use Rattle.algebra.proofs.Rings.{mul_nil, one_mul, mul_exchange, mul_left_comm, square_sum}
use Rattle.algebra.proofs.Tuples.{length_scale, length_unit, length_times_x, length_times, scale_one, scale_mul, times_unit, times_scale, times_times_x}
use Rattle.algebra.proofs.Quotient.{times_comm, Tuple, same_tuple, quotient, quotient_ring}

module _ {A : Type 0} {O : Ops A} (R : Ring2 O) where
  pub power_one : (a : A) → power O a 1 ≡ a
  unfolding power
  power_one a = R.mul_one a

  pub power_add : (a : A) (j k : ℕ) → power O a (j + k) ≡ O.mul (power O a j) (power O a k)
  unfolding power
  power_add a zero k = ap (power O a) (zero-add k) ∙ sym (one_mul R (power O a k))
  power_add a (suc j) k = ap (power O a) (suc-add j k) ∙ ap (O.mul a) (power_add a j k) ∙ sym (R.mul_assoc a (power O a j) (power O a k))

  pub power_mul : (a : A) (j k : ℕ) → power O a (j * k) ≡ power O (power O a j) k
  unfolding power
  power_mul a j zero = ap (power O a) (mul-zero j)
  power_mul a j (suc k) =
      ap (power O a) (mul-suc j k ∙ add_comm (j * k) j) ∙ power_add a j (j * k) ∙ ap (O.mul (power O a j)) (power_mul a j k)

  pub power_product : (a b : A) (k : ℕ) → power O (O.mul a b) k ≡ O.mul (power O a k) (power O b k)
  unfolding power
  power_product a b zero = sym (R.mul_one O.one)
  power_product a b (suc k) = ap (O.mul (O.mul a b)) (power_product a b k) ∙ mul_exchange R a b (power O a k) (power O b k)

  pub power_of_one : (k : ℕ) → power O O.one k ≡ O.one
  unfolding power
  power_of_one zero = refl
  power_of_one (suc k) = one_mul R (power O O.one k) ∙ power_of_one k

  pub power_two : (a : A) → power O a 2 ≡ O.mul a a
  unfolding power
  power_two a = ap (O.mul a) (R.mul_one a)

  pub power_two_add : (a b : A) (n : ℕ) → power O (O.add a b) (2 ^ n) ≡ O.add (power O a (2 ^ n)) (power O b (2 ^ n))
  power_two_add a b zero = power_one (O.add a b) ∙ ap₂ O.add (sym (power_one a)) (sym (power_one b))
  power_two_add a b (suc n) =
      let twice : (x : A) → power O x (2 ^ suc n) ≡ power O (power O x (2 ^ n)) 2 = λ x. ap (power O x) (pow-suc 2 n) ∙ power_mul x (2 ^ n) 2 in
      twice (O.add a b) ∙ ap (λ z. power O z 2) (power_two_add a b n) ∙ power_two (O.add (power O a (2 ^ n)) (power O b (2 ^ n)))
      ∙ square_sum R (power O a (2 ^ n)) (power O b (2 ^ n))
      ∙ ap₂ O.add (sym (twice a ∙ power_two (power O a (2 ^ n)))) (sym (twice b ∙ power_two (power O b (2 ^ n))))

  pub power_two_nil : (n : ℕ) → power O O.nil (2 ^ n) ≡ O.nil
  power_two_nil n =
      ap (λ z. power O z (2 ^ n)) (sym (R.add_self O.nil)) ∙ power_two_add O.nil O.nil n ∙ R.add_self (power O O.nil (2 ^ n))

  -- where every element is its own power and nothing but zero and one is its own square, every element but zero has an inverse
  pub inverse_by_power : (N : ℕ) → ((u : A) → power O u (suc (suc N)) ≡ u) → ((e : A) → O.mul e e ≡ e → (e ≡ O.nil) ⊎ (e ≡ O.one))
      → (u : A) → (u ≡ O.nil → ⊥) → O.mul u (power O u N) ≡ O.one
  unfolding power
  inverse_by_power N returns few u not_nil = decide (few e own_square)
    where
      e : A
      e = O.mul u (power O u N)

      u_e : O.mul u e ≡ u
      u_e = returns u

      own_square : O.mul e e ≡ e
      own_square = R.mul_assoc u (power O u N) e ∙ ap (O.mul u) (mul_left_comm R (power O u N) u (power O u N)) ∙ again
        where
          again : O.mul u (O.mul u (O.mul (power O u N) (power O u N))) ≡ e
          again =
              ap (O.mul u) (sym (R.mul_assoc u (power O u N) (power O u N)) ∙ R.mul_comm e (power O u N))
              ∙ mul_left_comm R u (power O u N) e ∙ ap (O.mul (power O u N)) u_e ∙ R.mul_comm (power O u N) u

      decide : (e ≡ O.nil) ⊎ (e ≡ O.one) → e ≡ O.one
      decide (inl z) = absurd (not_nil (sym u_e ∙ ap (O.mul u) z ∙ mul_nil R u))
      decide (inr z) = z

-- ---- in a quotient

module _ {A : Type 0} {O : Ops A} (R : Ring2 O) (f : List A) where
  -- an element of the carrier as a constant polynomial, and the polynomial X
  unfoldable pub constant : A → Tuple A (length f)
  constant a = (scale O a (unit O (length f)), length_scale O a (unit O (length f)) ∙ length_unit O (length f))

  unfoldable pub variable : Tuple A (length f)
  variable = (times_x O f (unit O (length f)), length_times_x O f (unit O (length f)) (length_unit O (length f)))

  pub constant_mul : (a : A) (t : Tuple A (length f)) → ((quotient O f).mul (constant a) t).0 ≡ scale O a t.0
  unfolding quotient constant
  constant_mul a t =
      times_comm R f (constant a).0 t.0 (constant a).1 t.1 ∙ times_scale R f t.0 a (unit O (length f))
      ∙ ap (scale O a) (times_unit R f t.0 t.1)

  variable_mul : (t : Tuple A (length f)) → ((quotient O f).mul variable t).0 ≡ times_x O f t.0
  unfolding quotient variable
  variable_mul t =
      times_comm R f variable.0 t.0 variable.1 t.1 ∙ times_times_x R f t.0 (unit O (length f)) (length_unit O (length f))
      ∙ ap (times_x O f) (times_unit R f t.0 t.1)

  pub constant_power : (a : A) (k : ℕ) → power (quotient O f) (constant a) k ≡ constant (power O a k)
  unfolding power quotient constant
  constant_power a zero = same_tuple _ _ (sym (scale_one R (unit O (length f))))
  constant_power a (suc k) =
      ap ((quotient O f).mul (constant a)) (constant_power a k)
      ∙ same_tuple _ _ (constant_mul a (constant (power O a k)) ∙ sym (scale_mul R a (power O a k) (unit O (length f))))

  -- the tuple of a list of coefficients, of any length
  pub of_list : List A → Tuple A (length f)
  of_list a = (times O f a (unit O (length f)), length_times O f a (unit O (length f)) (length_unit O (length f)))

  of_list_more : (x : A) (a : List A) → of_list (x ∷ a) ≡ (quotient O f).add (constant x) ((quotient O f).mul variable (of_list a))
  unfolding of_list times quotient constant
  of_list_more x a = same_tuple _ _ (ap (plus O (scale O x (unit O (length f)))) (sym (variable_mul (of_list a))))

  -- every tuple is that of its own elements
  pub all_list : (u : Tuple A (length f)) → of_list u.0 ≡ u
  unfolding of_list
  all_list u = same_tuple _ _ (times_unit R f u.0 u.1)

  empty_list : of_list [] ≡ (quotient O f).nil
  unfolding of_list times quotient
  empty_list = same_tuple _ _ (ap (zeros O) (length_unit O (length f)))

  module _ (n : ℕ) (fixes : (a : A) → power O a (2 ^ n) ≡ a) where
    -- raising to such a power of two goes coefficient by coefficient
    pub list_power : (x : A) (a : List A) → power (quotient O f) (of_list (x ∷ a)) (2 ^ n)
        ≡ (quotient O f).add (constant x) ((quotient O f).mul (power (quotient O f) variable (2 ^ n)) (power (quotient O f) (of_list a) (2 ^ n)))
    list_power x a =
        let Q = quotient O f in
        let c = constant x in
        let t = of_list a in
        ap (λ u. power Q u (2 ^ n)) (of_list_more x a)
        ∙ power_two_add (quotient_ring R f) c (Q.mul variable t) n
        ∙ ap₂ Q.add (constant_power x (2 ^ n) ∙ ap constant (fixes x)) (power_product (quotient_ring R f) variable t (2 ^ n))

    pub empty_power : power (quotient O f) (of_list []) (2 ^ n) ≡ (quotient O f).nil
    empty_power = ap (λ u. power (quotient O f) u (2 ^ n)) empty_list ∙ power_two_nil (quotient_ring R f) n

    module _ (fixes_x : power (quotient O f) variable (2 ^ n) ≡ variable) where
      fixes_list : (a : List A) → power (quotient O f) (of_list a) (2 ^ n) ≡ of_list a
      fixes_list [] = empty_power ∙ sym empty_list
      fixes_list (x ∷ a) =
          let Q = quotient O f in
          list_power x a ∙ ap (Q.add (constant x)) (ap₂ Q.mul fixes_x (fixes_list a)) ∙ sym (of_list_more x a)

      -- a power of two that fixes the carrier and X fixes every tuple
      pub fixes_all : (u : Tuple A (length f)) → power (quotient O f) u (2 ^ n) ≡ u
      fixes_all u = ap (λ z. power (quotient O f) z (2 ^ n)) (sym (all_list u)) ∙ fixes_list u.0 ∙ all_list u
