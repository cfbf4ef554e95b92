-- Tuples over a ring: sums, multiples, and the product modulo a monic polynomial.
-- Assumes nothing.
use Rattle.std.proofs.Common.{◌≡◌, ℕ, zero, suc, ◌+◌, ◌≤◌, List, [], ◌∷◌, ◌++◌, length, sym, refl, ap, ◌∙◌, subst, ap₂, append-nil, le_refl, le_of_suc-le-suc, not-suc-le-zero, add-zero, add-suc, suc-add, zero-add, suc-ne-zero, length-append}
use native.Mathlib.Nat.{suc_inj}
use Rattle.algebra.specs.Operations.{Ops, Ring2}
use Rattle.algebra.specs.Tuples.{plus, scale, zeros, unit, up, last, times_x, times}
use Rattle.algebra.proofs.Rings.{Sums, sums_of, mul_nil, nil_mul, one_mul, add_mul}

-- ---- lengths, for any operations
module _ {A : Type 0} (O : Ops A) where
  pub length_zeros : (v : ℕ) → length (zeros O v) ≡ v
  unfolding zeros
  length_zeros zero = refl
  length_zeros (suc v) = ap suc (length_zeros v)

  pub length_unit : (v : ℕ) → length (unit O v) ≡ v
  unfolding unit
  length_unit zero = refl
  length_unit (suc v) = ap suc (length_zeros v)

  -- a sum goes as far as its shorter part
  pub length_cut : (a b : List A) → length b ≤ length a → length (plus O a b) ≡ length b
  unfolding plus
  length_cut [] [] h = refl
  length_cut [] (y ∷ b) h = absurd (not-suc-le-zero h)
  length_cut (x ∷ a) [] h = refl
  length_cut (x ∷ a) (y ∷ b) h = ap suc (length_cut a b (le_of_suc-le-suc h))

  pub length_plus : (a b : List A) → length a ≡ length b → length (plus O a b) ≡ length b
  length_plus a b h = length_cut a b (subst (λ n. length b ≤ n) (sym h) (le_refl (length b)))

  pub length_scale : (s : A) (a : List A) → length (scale O s a) ≡ length a
  unfolding scale
  length_scale s [] = refl
  length_scale s (x ∷ a) = ap suc (length_scale s a)

  pub length_up : (c : A) (a : List A) → length (up O c a) ≡ length a
  unfolding up
  length_up c [] = refl
  length_up c (x ∷ a) = ap suc (length_up x a)

  pub length_times_x : (f b : List A) → length b ≡ length f → length (times_x O f b) ≡ length f
  unfolding times_x
  length_times_x f b h =
      length_plus (up O O.nil b) (scale O (last O O.nil b) f) (length_up O.nil b ∙ h ∙ sym (length_scale (last O O.nil b) f))
      ∙ length_scale (last O O.nil b) f

  pub length_times : (f a b : List A) → length b ≡ length f → length (times O f a b) ≡ length f
  unfolding times
  length_times f [] b h = length_zeros (length b) ∙ h
  length_times f (x ∷ a) b h =
      length_plus (scale O x b) (times_x O f (times O f a b))
      (length_scale x b ∙ h ∙ sym (length_times_x f (times O f a b) (length_times f a b h)))
      ∙ length_times_x f (times O f a b) (length_times f a b h)

-- ---- sums, where those of the elements keep their laws
module _ {A : Type 0} {O : Ops A} (S : Sums O) where
  pub sum_comm : (a b : List A) → plus O a b ≡ plus O b a
  unfolding plus
  sum_comm [] [] = refl
  sum_comm [] (y ∷ b) = refl
  sum_comm (x ∷ a) [] = refl
  sum_comm (x ∷ a) (y ∷ b) = ap₂ ◌∷◌ (S.comm x y) (sum_comm a b)

  pub sum_assoc : (a b c : List A) → plus O (plus O a b) c ≡ plus O a (plus O b c)
  unfolding plus
  sum_assoc [] b c = refl
  sum_assoc (x ∷ a) [] c = refl
  sum_assoc (x ∷ a) (y ∷ b) [] = refl
  sum_assoc (x ∷ a) (y ∷ b) (z ∷ c) = ap₂ ◌∷◌ (S.assoc x y z) (sum_assoc a b c)

  pub sum_zeros : (a : List A) (v : ℕ) → length a ≡ v → plus O a (zeros O v) ≡ a
  unfolding plus zeros
  sum_zeros [] v h = refl
  sum_zeros (x ∷ a) zero h = absurd (suc-ne-zero (length a) h)
  sum_zeros (x ∷ a) (suc v) h = ap₂ ◌∷◌ (S.nil x) (sum_zeros a v (suc_inj h))

  pub sum_self : (a : List A) → plus O a a ≡ zeros O (length a)
  unfolding plus zeros
  sum_self [] = refl
  sum_self (x ∷ a) = ap₂ ◌∷◌ (S.self x) (sum_self a)

module _ {A : Type 0} {O : Ops A} (R : Ring2 O) where
  -- ---- sums over a ring

  plus_comm : (a b : List A) → plus O a b ≡ plus O b a
  plus_comm = sum_comm (sums_of R)

  plus_assoc : (a b c : List A) → plus O (plus O a b) c ≡ plus O a (plus O b c)
  plus_assoc = sum_assoc (sums_of R)

  plus_zeros : (a : List A) (v : ℕ) → length a ≡ v → plus O a (zeros O v) ≡ a
  plus_zeros = sum_zeros (sums_of R)

  pub plus_left_comm : (a b c : List A) → plus O a (plus O b c) ≡ plus O b (plus O a c)
  plus_left_comm a b c = sym (plus_assoc a b c) ∙ ap (λ x. plus O x c) (plus_comm a b) ∙ plus_assoc b a c

  pub plus_exchange : (a b c d : List A) → plus O (plus O a b) (plus O c d) ≡ plus O (plus O a c) (plus O b d)
  plus_exchange a b c d = plus_assoc a b (plus O c d) ∙ ap (plus O a) (plus_left_comm b c d) ∙ sym (plus_assoc a c (plus O b d))

  pub zeros_plus : (a : List A) (v : ℕ) → length a ≡ v → plus O (zeros O v) a ≡ a
  zeros_plus a v h = plus_comm (zeros O v) a ∙ plus_zeros a v h

  -- ---- multiples

  pub scale_plus : (s : A) (a b : List A) → scale O s (plus O a b) ≡ plus O (scale O s a) (scale O s b)
  unfolding plus scale
  scale_plus s [] b = refl
  scale_plus s (x ∷ a) [] = refl
  scale_plus s (x ∷ a) (y ∷ b) = ap₂ ◌∷◌ (R.mul_add s x y) (scale_plus s a b)

  pub scale_add : (s t : A) (a : List A) → scale O (O.add s t) a ≡ plus O (scale O s a) (scale O t a)
  unfolding plus scale
  scale_add s t [] = refl
  scale_add s t (x ∷ a) = ap₂ ◌∷◌ (add_mul R s t x) (scale_add s t a)

  pub scale_mul : (s t : A) (a : List A) → scale O (O.mul s t) a ≡ scale O s (scale O t a)
  unfolding scale
  scale_mul s t [] = refl
  scale_mul s t (x ∷ a) = ap₂ ◌∷◌ (R.mul_assoc s t x) (scale_mul s t a)

  pub scale_scale : (s t : A) (a : List A) → scale O s (scale O t a) ≡ scale O t (scale O s a)
  scale_scale s t a = sym (scale_mul s t a) ∙ ap (λ x. scale O x a) (R.mul_comm s t) ∙ scale_mul t s a

  pub scale_nil : (a : List A) → scale O O.nil a ≡ zeros O (length a)
  unfolding scale zeros
  scale_nil [] = refl
  scale_nil (x ∷ a) = ap₂ ◌∷◌ (nil_mul R x) (scale_nil a)

  pub scale_one : (a : List A) → scale O O.one a ≡ a
  unfolding scale
  scale_one [] = refl
  scale_one (x ∷ a) = ap₂ ◌∷◌ (one_mul R x) (scale_one a)

  pub scale_zeros : (s : A) (v : ℕ) → scale O s (zeros O v) ≡ zeros O v
  unfolding scale zeros
  scale_zeros s zero = refl
  scale_zeros s (suc v) = ap₂ ◌∷◌ (mul_nil R s) (scale_zeros s v)

  -- ---- one place up

  up_plus : (c d : A) (a b : List A) → up O (O.add c d) (plus O a b) ≡ plus O (up O c a) (up O d b)
  unfolding plus up
  up_plus c d [] b = refl
  up_plus c d (x ∷ a) [] = refl
  up_plus c d (x ∷ a) (y ∷ b) = ap (λ t. O.add c d ∷ t) (up_plus x y a b)

  up_scale : (s c : A) (a : List A) → up O (O.mul s c) (scale O s a) ≡ scale O s (up O c a)
  unfolding scale up
  up_scale s c [] = refl
  up_scale s c (x ∷ a) = ap (λ t. O.mul s c ∷ t) (up_scale s x a)

  last_plus : (c d : A) (a b : List A) → length a ≡ length b → last O (O.add c d) (plus O a b) ≡ O.add (last O c a) (last O d b)
  unfolding plus last
  last_plus c d [] [] h = refl
  last_plus c d [] (y ∷ b) h = absurd (suc-ne-zero (length b) (sym h))
  last_plus c d (x ∷ a) [] h = absurd (suc-ne-zero (length a) h)
  last_plus c d (x ∷ a) (y ∷ b) h = last_plus x y a b (suc_inj h)

  last_scale : (s c : A) (a : List A) → last O (O.mul s c) (scale O s a) ≡ O.mul s (last O c a)
  unfolding scale last
  last_scale s c [] = refl
  last_scale s c (x ∷ a) = last_scale s x a

  -- ---- X times a tuple is linear

  pub times_x_plus : (f b c : List A) → length b ≡ length c → times_x O f (plus O b c) ≡ plus O (times_x O f b) (times_x O f c)
  unfolding times_x
  times_x_plus f b c h =
      let o = O.nil in
      ap₂ (plus O)
      (ap (λ x. up O x (plus O b c)) (sym (R.add_nil o)) ∙ up_plus o o b c)
      (ap (λ s. scale O s f) (ap (λ x. last O x (plus O b c)) (sym (R.add_nil o)) ∙ last_plus o o b c h)
      ∙ scale_add (last O o b) (last O o c) f)
      ∙ plus_exchange (up O o b) (up O o c) (scale O (last O o b) f) (scale O (last O o c) f)

  pub times_x_scale : (f : List A) (s : A) (b : List A) → times_x O f (scale O s b) ≡ scale O s (times_x O f b)
  unfolding times_x
  times_x_scale f s b =
      let o = O.nil in
      ap₂ (plus O)
      (ap (λ x. up O x (scale O s b)) (sym (mul_nil R s)) ∙ up_scale s o b)
      (ap (λ x. scale O x f) (ap (λ x. last O x (scale O s b)) (sym (mul_nil R s)) ∙ last_scale s o b)
      ∙ scale_mul s (last O o b) f)
      ∙ sym (scale_plus s (up O o b) (scale O (last O o b) f))

  pub times_x_zeros : (f : List A) (v : ℕ) → length f ≡ v → times_x O f (zeros O v) ≡ zeros O v
  times_x_zeros f v h =
      ap (times_x O f) (sym (scale_zeros O.nil v))
      ∙ times_x_scale f O.nil (zeros O v)
      ∙ scale_nil (times_x O f (zeros O v))
      ∙ ap (zeros O) (length_times_x O f (zeros O v) (length_zeros O v ∙ sym h) ∙ h)

  -- ---- a product is linear in its right factor, and two products in a row change places

  module _ (f : List A) where
    -- b has as many elements as f
    abbrev Fits : List A → Type 0
    Fits b = length b ≡ length f

    fits_scale : (s : A) (b : List A) → Fits b → Fits (scale O s b)
    fits_scale s b h = length_scale O s b ∙ h

    pub times_plus : (a b c : List A) → length b ≡ length f → length c ≡ length f → times O f a (plus O b c) ≡ plus O (times O f a b) (times O f a c)
    unfolding times
    times_plus [] b c hb hc =
        ap (zeros O) (length_plus O b c (hb ∙ sym hc))
        ∙ sym (plus_zeros (zeros O (length c)) (length c) (length_zeros O (length c)))
        ∙ ap (λ v. plus O (zeros O v) (zeros O (length c))) (hc ∙ sym hb)
    times_plus (x ∷ a) b c hb hc =
        ap₂ (plus O) (scale_plus x b c)
        (ap (times_x O f) (times_plus a b c hb hc)
        ∙ times_x_plus f (times O f a b) (times O f a c) (length_times O f a b hb ∙ sym (length_times O f a c hc)))
        ∙ plus_exchange (scale O x b) (scale O x c) (times_x O f (times O f a b)) (times_x O f (times O f a c))

    pub times_scale : (a : List A) (s : A) (b : List A) → times O f a (scale O s b) ≡ scale O s (times O f a b)
    unfolding times
    times_scale [] s b = ap (zeros O) (length_scale O s b) ∙ sym (scale_zeros s (length b))
    times_scale (x ∷ a) s b =
        ap₂ (plus O) (scale_scale x s b) (ap (times_x O f) (times_scale a s b) ∙ times_x_scale f s (times O f a b))
        ∙ sym (scale_plus s (scale O x b) (times_x O f (times O f a b)))

    pub times_times_x : (a b : List A) → length b ≡ length f → times O f a (times_x O f b) ≡ times_x O f (times O f a b)
    unfolding times
    times_times_x [] b h =
        ap (zeros O) (length_times_x O f b h)
        ∙ sym (times_x_zeros f (length f) refl)
        ∙ ap (λ v. times_x O f (zeros O v)) (sym h)
    times_times_x (x ∷ a) b h =
        ap₂ (plus O) (sym (times_x_scale f x b)) (ap (times_x O f) (times_times_x a b h))
        ∙ sym (times_x_plus f (scale O x b) (times_x O f (times O f a b))
        (fits_scale x b h ∙ sym (length_times_x O f (times O f a b) (length_times O f a b h))))

    times_zeros : (a : List A) (v : ℕ) → length f ≡ v → times O f a (zeros O v) ≡ zeros O v
    times_zeros a v h =
        ap (times O f a) (sym (scale_zeros O.nil v))
        ∙ times_scale a O.nil (zeros O v)
        ∙ scale_nil (times O f a (zeros O v))
        ∙ ap (zeros O) (length_times O f a (zeros O v) (length_zeros O v ∙ sym h) ∙ h)

    pub times_times : (a b c : List A) → length c ≡ length f → times O f a (times O f b c) ≡ times O f b (times O f a c)
    unfolding times
    times_times [] b c h =
        ap (zeros O) (length_times O f b c h)
        ∙ sym (times_zeros b (length f) refl)
        ∙ ap (λ v. times O f b (zeros O v)) (sym h)
    times_times (x ∷ a) b c h =
        ap₂ (plus O) (sym (times_scale b x c))
        (ap (times_x O f) (times_times a b c h) ∙ sym (times_times_x b (times O f a c) (length_times O f a c h)))
        ∙ sym (times_plus b (scale O x c) (times_x O f (times O f a c)) (fits_scale x c h)
        (length_times_x O f (times O f a c) (length_times O f a c h)))

  -- ---- the unit

  -- what does not reach the top moves up whole
  up_zeros : (c : A) (a : List A) (n : ℕ) → up O c (a ++ zeros O (suc n)) ≡ c ∷ (a ++ zeros O n)
  unfolding up zeros
  up_zeros c [] n = ap (λ t. c ∷ t) (again n)
    where
      again : (n : ℕ) → up O O.nil (zeros O n) ≡ zeros O n
      again zero = refl
      again (suc n) = ap (λ t. O.nil ∷ t) (again n)
  up_zeros c (x ∷ a) n = ap (λ t. c ∷ t) (up_zeros x a n)

  last_zeros : (c : A) (a : List A) (n : ℕ) → last O c (a ++ zeros O (suc n)) ≡ O.nil
  unfolding last zeros
  last_zeros c [] n = again n
    where
      again : (n : ℕ) → last O O.nil (zeros O n) ≡ O.nil
      again zero = refl
      again (suc n) = again n
  last_zeros c (x ∷ a) n = last_zeros x a n

  filled : (a : List A) (n : ℕ) → length (a ++ zeros O n) ≡ length a + n
  filled a n = length-append a (zeros O n) ∙ ap (λ k. length a + k) (length_zeros O n)

  moved : (f a : List A) (n : ℕ) → suc (length a + n) ≡ length f → times_x O f (a ++ zeros O (suc n)) ≡ O.nil ∷ (a ++ zeros O n)
  unfolding times_x
  moved f a n e =
      ap₂ (plus O) (up_zeros O.nil a n) (ap (λ s. scale O s f) (last_zeros O.nil a n) ∙ scale_nil f)
      ∙ plus_zeros (O.nil ∷ (a ++ zeros O n)) (length f) (ap suc (filled a n) ∙ e)

  placed : (x : A) (a : List A) (n v : ℕ) → suc (length a + n) ≡ v
      → plus O (scale O x (unit O v)) (O.nil ∷ (a ++ zeros O n)) ≡ x ∷ (a ++ zeros O n)
  unfolding plus scale unit
  placed x a n zero e = absurd (suc-ne-zero (length a + n) e)
  placed x a n (suc v) e =
      ap₂ ◌∷◌ (R.add_nil (O.mul x O.one) ∙ R.mul_one x)
      (ap (λ t. plus O t (a ++ zeros O n)) (scale_zeros x v) ∙ zeros_plus (a ++ zeros O n) v (filled a n ∙ suc_inj e))

  -- times one, a stands in its places, with zeros in the n places that it lacks
  from_unit : (f a : List A) (n : ℕ) → length a + n ≡ length f → times O f a (unit O (length f)) ≡ a ++ zeros O n
  unfolding times
  from_unit f [] n h = ap (zeros O) (length_unit O (length f) ∙ sym h ∙ zero-add n)
  from_unit f (x ∷ a) n h =
      let e : suc (length a + n) ≡ length f = sym (suc-add (length a) n) ∙ h in
      ap (λ t. plus O (scale O x (unit O (length f))) (times_x O f t)) (from_unit f a (suc n) (add-suc (length a) n ∙ e))
      ∙ ap (plus O (scale O x (unit O (length f)))) (moved f a n e)
      ∙ placed x a n (length f) e

  pub times_unit : (f a : List A) → length a ≡ length f → times O f a (unit O (length f)) ≡ a
  unfolding zeros
  times_unit f a h = from_unit f a 0 (add-zero (length a) ∙ h) ∙ append-nil a
