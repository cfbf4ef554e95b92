-- The elements of sums, multiples and products of tuples, place by place, over any operations at all.
-- Assumes nothing.
use Rattle.std.proofs.Common.{◌≡◌, ℕ, zero, suc, ◌-◌, ◌<◌, List, [], ◌∷◌, length, get_or, sym, refl, ap, ◌∙◌, subst, le_of_suc-le-suc, not-suc-le-zero, arith}
use Rattle.algebra.specs.Operations.{Ops}
use Rattle.algebra.specs.Tuples.{plus, scale, up, last, times_x}
use Rattle.algebra.proofs.Tuples.{length_scale, length_up}

module _ {A : Type 0} (O : Ops A) where
  pub plus_at : (a b : List A) (i : ℕ) (d : A) → i < length a → i < length b → get_or (plus O a b) i d ≡ O.add (get_or a i d) (get_or b i d)
  unfolding plus
  plus_at [] b i d ha hb = absurd (not-suc-le-zero ha)
  plus_at (x ∷ a) [] i d ha hb = absurd (not-suc-le-zero hb)
  plus_at (x ∷ a) (y ∷ b) zero d ha hb = refl
  plus_at (x ∷ a) (y ∷ b) (suc i) d ha hb = plus_at a b i d (le_of_suc-le-suc ha) (le_of_suc-le-suc hb)

  pub scale_at : (s : A) (a : List A) (i : ℕ) (d : A) → i < length a → get_or (scale O s a) i d ≡ O.mul s (get_or a i d)
  unfolding scale
  scale_at s [] i d h = absurd (not-suc-le-zero h)
  scale_at s (x ∷ a) zero d h = refl
  scale_at s (x ∷ a) (suc i) d h = scale_at s a i d (le_of_suc-le-suc h)

  up_first : (c : A) (a : List A) (d : A) → 0 < length a → get_or (up O c a) 0 d ≡ c
  unfolding up
  up_first c [] d h = absurd (not-suc-le-zero h)
  up_first c (x ∷ a) d h = refl

  up_at : (c : A) (a : List A) (i : ℕ) (d : A) → i < length a → get_or (up O c a) i d ≡ get_or (c ∷ a) i d
  unfolding up
  up_at c [] i d h = absurd (not-suc-le-zero h)
  up_at c (x ∷ a) zero d h = refl
  up_at c (x ∷ a) (suc i) d h = up_at x a i d (le_of_suc-le-suc h)

  up_next : (c : A) (a : List A) (i : ℕ) (d : A) → suc i < length a → get_or (up O c a) (suc i) d ≡ get_or a i d
  unfolding up
  up_next c [] i d h = absurd (not-suc-le-zero h)
  up_next c (x ∷ a) i d h = up_at x a i d (le_of_suc-le-suc h)

  last_at : (c : A) (a : List A) (d : A) → 0 < length a → last O c a ≡ get_or a (length a - 1) d
  unfolding last
  last_at c [] d h = absurd (not-suc-le-zero h)
  last_at c (x ∷ []) d h = refl
  last_at c (x ∷ y ∷ a) d h =
      let e : suc (length (y ∷ a) - 1) ≡ length (x ∷ y ∷ a) - 1 = omega arith in
      last_at x (y ∷ a) d (omega arith) ∙ ap (λ k. get_or (x ∷ y ∷ a) k d) e

  -- X times a tuple: the bottom place, and each other
  pub times_x_first : (f b : List A) (d : A) → length b ≡ length f → 0 < length b
      → get_or (times_x O f b) 0 d ≡ O.add O.nil (O.mul (get_or b (length b - 1) d) (get_or f 0 d))
  unfolding times_x
  times_x_first f b d same pos =
      let s = last O O.nil b in
      plus_at (up O O.nil b) (scale O s f) 0 d (subst (λ n. 0 < n) (sym (length_up O O.nil b)) pos) (subst (λ n. 0 < n) (sym (length_scale O s f)) (subst (λ n. 0 < n) same pos))
      ∙ ap (λ z. O.add z (get_or (scale O s f) 0 d)) (up_first O.nil b d pos)
      ∙ ap (O.add O.nil) (scale_at s f 0 d (subst (λ n. 0 < n) same pos) ∙ ap (λ z. O.mul z (get_or f 0 d)) (last_at O.nil b d pos))

  pub times_x_next : (f b : List A) (i : ℕ) (d : A) → length b ≡ length f → suc i < length b
      → get_or (times_x O f b) (suc i) d ≡ O.add (get_or b i d) (O.mul (get_or b (length b - 1) d) (get_or f (suc i) d))
  unfolding times_x
  times_x_next f b i d same h =
      let s = last O O.nil b in
      let hf : suc i < length f = subst (λ n. suc i < n) same h in
      plus_at (up O O.nil b) (scale O s f) (suc i) d (subst (λ n. suc i < n) (sym (length_up O O.nil b)) h) (subst (λ n. suc i < n) (sym (length_scale O s f)) hf)
      ∙ ap (λ z. O.add z (get_or (scale O s f) (suc i) d)) (up_next O.nil b i d h)
      ∙ ap (O.add (get_or b i d)) (scale_at s f (suc i) d hf ∙ ap (λ z. O.mul z (get_or f (suc i) d)) (last_at O.nil b d (omega arith)))
