-- The product modulo a monic polynomial is the remainder of the plain product, and no other tuple of its length is.
-- Assumes nothing.
use Rattle.std.proofs.Common.{◌≡◌, ℕ, zero, suc, ◌≤◌, List, [], ◌∷◌, length, get_or, sym, refl, ap, ◌∙◌, subst, ap₂, le_trans, le_refl, le_of_suc-le-suc, not-suc-le-zero, suc-ne-zero}
use native.Mathlib.Nat.{suc_inj, le-suc}
use lib.ListN.{get_or-eq_default}
use Rattle.algebra.specs.Operations.{Ops, Ring2}
use Rattle.algebra.specs.Tuples.{plus, scale, zeros, up, last, times_x, times}
use Rattle.algebra.specs.Polynomials.{coefficient, Same, poly_sum, poly_product, monic, Congruent}
use Rattle.algebra.specs.Quotient.{OnlyRemainder}
use Rattle.algebra.proofs.Rings.{nil_add, add_twice, add_exchange, equal_if_nil, mul_nil, nil_mul, add_mul}
use Rattle.algebra.proofs.Tuples.{length_scale, length_times_x, length_times}

-- tuples of one length with the same coefficients are one
pub same_list : {A : Type 0} (d : A) (a b : List A) → length a ≡ length b → ((i : ℕ) → get_or a i d ≡ get_or b i d) → a ≡ b
same_list d [] [] h e = refl
same_list d [] (y ∷ b) h e = absurd (suc-ne-zero (length b) (sym h))
same_list d (x ∷ a) [] h e = absurd (suc-ne-zero (length a) h)
same_list d (x ∷ a) (y ∷ b) h e = ap₂ ◌∷◌ (e zero) (same_list d a b (suc_inj h) (λ i. e (suc i)))

module _ {A : Type 0} {O : Ops A} (R : Ring2 O) where
  -- ---- the coefficients of what is built from polynomials

  pub of_sum : (p q : List A) (i : ℕ) → coefficient O (poly_sum O p q) i ≡ O.add (coefficient O p i) (coefficient O q i)
  unfolding coefficient poly_sum
  of_sum [] q i = sym (nil_add R (get_or q i O.nil))
  of_sum (x ∷ p) [] i = sym (R.add_nil (get_or (x ∷ p) i O.nil))
  of_sum (x ∷ p) (y ∷ q) zero = refl
  of_sum (x ∷ p) (y ∷ q) (suc i) = of_sum p q i

  pub of_scale : (s : A) (p : List A) (i : ℕ) → coefficient O (scale O s p) i ≡ O.mul s (coefficient O p i)
  unfolding coefficient scale
  of_scale s [] i = sym (mul_nil R s)
  of_scale s (x ∷ p) zero = refl
  of_scale s (x ∷ p) (suc i) = of_scale s p i

  of_plus : (a b : List A) → length a ≡ length b → (i : ℕ) → coefficient O (plus O a b) i ≡ O.add (coefficient O a i) (coefficient O b i)
  unfolding coefficient plus
  of_plus [] [] h i = sym (R.add_nil O.nil)
  of_plus [] (y ∷ b) h i = absurd (suc-ne-zero (length b) (sym h))
  of_plus (x ∷ a) [] h i = absurd (suc-ne-zero (length a) h)
  of_plus (x ∷ a) (y ∷ b) h zero = refl
  of_plus (x ∷ a) (y ∷ b) h (suc i) = of_plus a b (suc_inj h) i

  pub of_zeros : (v i : ℕ) → coefficient O (zeros O v) i ≡ O.nil
  unfolding coefficient zeros
  of_zeros zero i = refl
  of_zeros (suc v) zero = refl
  of_zeros (suc v) (suc i) = of_zeros v i

  -- X·p + X·q is X·r where p + q is r
  of_up : (p q r : List A) → ((i : ℕ) → O.add (coefficient O p i) (coefficient O q i) ≡ coefficient O r i)
      → (i : ℕ) → O.add (coefficient O (O.nil ∷ p) i) (coefficient O (O.nil ∷ q) i) ≡ coefficient O (O.nil ∷ r) i
  unfolding coefficient
  of_up p q r e zero = R.add_nil O.nil
  of_up p q r e (suc i) = e i

  -- ---- the modulus

  top : (f : List A) → coefficient O (monic O f) (length f) ≡ O.one
  unfolding coefficient monic
  top [] = refl
  top (x ∷ f) = top f

  past_top : (f : List A) (i : ℕ) → length f ≤ i → coefficient O (monic O f) (suc i) ≡ O.nil
  unfolding coefficient monic
  past_top [] i h = refl
  past_top (x ∷ f) zero h = absurd (not-suc-le-zero h)
  past_top (x ∷ f) (suc i) h = past_top f i (le_of_suc-le-suc h)

  -- X times t differs from what stands for it modulo X^v + f by as many times the modulus as its last element says
  turned : (c : A) (t f : List A) → length t ≡ length f → (s : A) → s ≡ last O c t
      → (i : ℕ) → O.add (coefficient O (c ∷ t) i) (coefficient O (plus O (up O c t) (scale O s f)) i) ≡ O.mul s (coefficient O (monic O f) i)
  unfolding coefficient monic plus up scale last
  turned c [] [] h s e zero = R.add_nil c ∙ sym e ∙ sym (R.mul_one s)
  turned c [] [] h s e (suc i) = R.add_nil O.nil ∙ sym (mul_nil R s)
  turned c [] (y ∷ f) h s e i = absurd (suc-ne-zero (length f) (sym h))
  turned c (x ∷ t) [] h s e i = absurd (suc-ne-zero (length t) h)
  turned c (x ∷ t) (y ∷ f) h s e zero = add_twice R c (O.mul s y)
  turned c (x ∷ t) (y ∷ f) h s e (suc i) = turned x t f (suc_inj h) s e i

  -- ---- the product modulo X^v + f differs from the plain product by a multiple of the modulus

  -- how many times the modulus goes into the plain product
  unfoldable pub times_modulus : (f a b : List A) → List A
  times_modulus f [] b = []
  times_modulus f (x ∷ a) b = last O O.nil (times O f a b) ∷ times_modulus f a b

  reduced : (f t : List A) → length t ≡ length f → (i : ℕ)
      → O.add (coefficient O (O.nil ∷ t) i) (coefficient O (times_x O f t) i) ≡ O.mul (last O O.nil t) (coefficient O (monic O f) i)
  unfolding times_x
  reduced f t h i = turned O.nil t f h (last O O.nil t) refl i

  pub differs : (f a b : List A) → length b ≡ length f
      → (i : ℕ) → O.add (coefficient O (poly_product O a b) i) (coefficient O (times O f a b) i) ≡ coefficient O (poly_product O (times_modulus f a b) (monic O f)) i
  unfolding poly_product times times_modulus coefficient
  differs f [] b h i = nil_add R (coefficient O (zeros O (length b)) i) ∙ of_zeros (length b) i
  differs f (x ∷ a) b h i =
      let t = times O f a b in
      let ht : length t ≡ length f = length_times O f a b h in
      let n = O.nil in
      let m = monic O f in
      let km = poly_product O (times_modulus f a b) m in
      let s = last O n t in
      let xb = coefficient O (scale O x b) i in
      let xab = coefficient O (n ∷ poly_product O a b) i in
      let tx = coefficient O (times_x O f t) i in
      ap₂ O.add (of_sum (scale O x b) (n ∷ poly_product O a b) i)
      (of_plus (scale O x b) (times_x O f t) (length_scale O x b ∙ h ∙ sym (length_times_x O f t ht)) i)
      ∙ add_exchange R xb xab xb tx
      ∙ ap (λ z. O.add z (O.add xab tx)) (R.add_self xb)
      ∙ nil_add R (O.add xab tx)
      ∙ ap (O.add xab) (sym (add_twice R (coefficient O (n ∷ t) i) tx))
      ∙ sym (R.add_assoc xab (coefficient O (n ∷ t) i) (O.add (coefficient O (n ∷ t) i) tx))
      ∙ ap₂ O.add (of_up (poly_product O a b) t km (differs f a b h) i) (reduced f t ht i)
      ∙ R.add_comm (coefficient O (n ∷ km) i) (O.mul s (coefficient O m i))
      ∙ ap (λ z. O.add z (coefficient O (n ∷ km) i)) (sym (of_scale s m i))
      ∙ sym (of_sum (scale O s m) (n ∷ km) i)

  -- ---- and no other tuple does

  of_products : (k l m : List A) (i : ℕ)
      → O.add (coefficient O (poly_product O k m) i) (coefficient O (poly_product O l m) i) ≡ coefficient O (poly_product O (poly_sum O k l) m) i
  unfolding poly_product poly_sum coefficient
  of_products [] l m i = nil_add R (coefficient O (poly_product O l m) i)
  of_products (x ∷ k) [] m i = R.add_nil (coefficient O (poly_product O (x ∷ k) m) i)
  of_products (x ∷ k) (y ∷ l) m i =
      let n = O.nil in
      let mi = coefficient O m i in
      let km = coefficient O (n ∷ poly_product O k m) i in
      let lm = coefficient O (n ∷ poly_product O l m) i in
      ap₂ O.add (of_sum (scale O x m) (n ∷ poly_product O k m) i ∙ ap (λ z. O.add z km) (of_scale x m i))
      (of_sum (scale O y m) (n ∷ poly_product O l m) i ∙ ap (λ z. O.add z lm) (of_scale y m i))
      ∙ add_exchange R (O.mul x mi) km (O.mul y mi) lm
      ∙ ap₂ O.add (sym (add_mul R x y mi) ∙ sym (of_scale (O.add x y) m i))
      (of_up (poly_product O k m) (poly_product O l m) (poly_product O (poly_sum O k l) m) (of_products k l m) i)
      ∙ sym (of_sum (scale O (O.add x y) m) (n ∷ poly_product O (poly_sum O k l) m) i)

  -- X·p is zero at a place where p is zero everywhere
  up_of_nil : (p : List A) → ((i : ℕ) → coefficient O p i ≡ O.nil) → (i : ℕ) → coefficient O (O.nil ∷ p) i ≡ O.nil
  unfolding coefficient
  up_of_nil p e zero = refl
  up_of_nil p e (suc i) = e i

  -- a multiple of X^v + f with nothing at X^v or above is zero
  vanishes : (f k : List A) → ((i : ℕ) → length f ≤ i → coefficient O (poly_product O k (monic O f)) i ≡ O.nil)
      → (i : ℕ) → coefficient O (poly_product O k (monic O f)) i ≡ O.nil
  unfolding poly_product coefficient
  vanishes f [] h i = refl
  vanishes f (x ∷ k) h i =
      let n = O.nil in
      let m = monic O f in
      let km = poly_product O k m in
      let at : (j : ℕ) → coefficient O (poly_sum O (scale O x m) (n ∷ km)) j ≡ O.add (O.mul x (coefficient O m j)) (coefficient O (n ∷ km) j)
      = λ j. of_sum (scale O x m) (n ∷ km) j ∙ ap (λ z. O.add z (coefficient O (n ∷ km) j)) (of_scale x m j) in
      let low : (j : ℕ) → coefficient O km j ≡ n
      = vanishes f k (λ j le. sym (nil_add R (coefficient O km j))
      ∙ ap (λ z. O.add z (coefficient O km j)) (sym (mul_nil R x) ∙ ap (O.mul x) (sym (past_top f j le)))
      ∙ sym (at (suc j)) ∙ h (suc j) (le_trans le (le-suc j))) in
      let x-nil : x ≡ n
      = sym (R.mul_one x) ∙ ap (O.mul x) (sym (top f)) ∙ sym (R.add_nil (O.mul x (coefficient O m (length f))))
      ∙ ap (O.add (O.mul x (coefficient O m (length f)))) (sym (up_of_nil km low (length f)))
      ∙ sym (at (length f)) ∙ h (length f) (le_refl (length f)) in
      at i ∙ ap₂ (λ z w. O.add (O.mul z (coefficient O m i)) w) x-nil (up_of_nil km low i)
      ∙ ap (λ z. O.add z n) (nil_mul R (coefficient O m i)) ∙ R.add_nil n

  -- two tuples that differ from p by multiples of the modulus are one
  one_remainder : (f p r s : List A) → length r ≡ length f → length s ≡ length f
      → Congruent O (monic O f) p r → Congruent O (monic O f) p s → r ≡ s
  unfolding Congruent Same coefficient
  one_remainder f p r s hr hs (k, ek) (l, el) =
      let n = O.nil in
      let m = monic O f in
      let sums : (i : ℕ) → O.add (coefficient O r i) (coefficient O s i) ≡ coefficient O (poly_product O (poly_sum O k l) m) i
      = λ i. sym (nil_add R (O.add (coefficient O r i) (coefficient O s i)))
      ∙ ap (λ z. O.add z (O.add (coefficient O r i) (coefficient O s i))) (sym (R.add_self (coefficient O p i)))
      ∙ add_exchange R (coefficient O p i) (coefficient O p i) (coefficient O r i) (coefficient O s i)
      ∙ ap₂ O.add (sym (of_sum p r i) ∙ ek i) (sym (of_sum p s i) ∙ el i)
      ∙ of_products k l m i in
      let high : (i : ℕ) → length f ≤ i → coefficient O (poly_product O (poly_sum O k l) m) i ≡ n
      = λ i le. sym (sums i)
      ∙ ap₂ O.add (get_or-eq_default r n (subst (λ v. v ≤ i) (sym hr) le)) (get_or-eq_default s n (subst (λ v. v ≤ i) (sym hs) le))
      ∙ R.add_nil n in
      same_list n r s (hr ∙ sym hs)
      (λ i. equal_if_nil R (coefficient O r i) (coefficient O s i) (sums i ∙ vanishes f (poly_sum O k l) high i))

  congruent : (f a b : List A) → length b ≡ length f → Congruent O (monic O f) (poly_product O a b) (times O f a b)
  unfolding Congruent Same
  congruent f a b h = (times_modulus f a b, λ i. of_sum (poly_product O a b) (times O f a b) i ∙ differs f a b h i)

  pub only_remainder : (f : List A) → OnlyRemainder O f
  only_remainder f a b r hb hr = (
    λ c. one_remainder f (poly_product O a b) r (times O f a b) hr (length_times O f a b hb) c (congruent f a b hb),
    λ e. subst (λ z. Congruent O (monic O f) (poly_product O a b) z) (sym e) (congruent f a b hb),
  )
