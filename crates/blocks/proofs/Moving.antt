-- X times a block: every element one place up, and what falls off at the top.
-- Assumes nothing.
use Rattle.std.proofs.Common.{◌≡◌, ℕ, ◌-◌, ◌<◌, List, [], ◌∷◌, ◌++◌, length, get_or, take, drop, set, refl, ap, ◌∙◌, ap₂, not-suc-le-zero, arith}
use lib.Bits.{xor_comm}
use Rattle.algebra.specs.Meaning.{Meaning, on_bytes}
use Rattle.algebra.specs.Tuples.{plus, scale, up, last, times_x}

module _ (M : Meaning) where
  commute : (a b : List ℕ) → plus (on_bytes M) a b ≡ plus (on_bytes M) b a
  unfolding plus on_bytes
  commute [] [] = refl
  commute [] (y ∷ b) = refl
  commute (x ∷ a) [] = refl
  commute (x ∷ a) (y ∷ b) = ap₂ ◌∷◌ (xor_comm x y) (commute a b)

  front : (c x : ℕ) (a : List ℕ) → c ∷ take (length a) (x ∷ a) ≡ up (on_bytes M) c (x ∷ a)
  unfolding up
  front c x [] = refl
  front c x (y ∷ a) = ap (λ (t : List ℕ). c ∷ t) (front x y a)

  back : (x : ℕ) (a : List ℕ) → drop (length a) (x ∷ a) ≡ last (on_bytes M) x a ∷ []
  unfolding last
  back x [] = refl
  back x (y ∷ a) = back y a

  top : (b : List ℕ) → 0 < length b → get_or b (length b - 1) 0 ≡ last (on_bytes M) 0 b
  unfolding last
  top [] h = absurd (not-suc-le-zero h)
  top (x ∷ a) h = let n : length (x ∷ a) - 1 ≡ length a = omega arith in ap (λ k. get_or (x ∷ a) k 0) n ∙ there x a
    where
      there : (x : ℕ) (a : List ℕ) → get_or (x ∷ a) (length a) 0 ≡ last (on_bytes M) x a
      there x [] = refl
      there x (y ∷ a) = there y a

  -- turned once, with zero at the bottom
  turned : (b : List ℕ) → 0 < length b → set (drop (length b - 1) b ++ take (length b - 1) b) 0 0 ≡ up (on_bytes M) 0 b
  turned [] h = absurd (not-suc-le-zero h)
  turned (x ∷ a) h =
      let n : length (x ∷ a) - 1 ≡ length a = omega arith in
      ap (λ k. set (drop k (x ∷ a) ++ take k (x ∷ a)) 0 0) n ∙ ap (λ (t : List ℕ). set (t ++ take (length a) (x ∷ a)) 0 0) (back x a) ∙ front 0 x a

  pub times_x_turned : (f b : List ℕ) → 0 < length b
      → plus (on_bytes M) (scale (on_bytes M) (get_or b (length b - 1) 0) f) (set (drop (length b - 1) b ++ take (length b - 1) b) 0 0) ≡ times_x (on_bytes M) f b
  unfolding times_x on_bytes
  times_x_turned f b h =
      ap₂ (plus (on_bytes M)) (ap (λ s. scale (on_bytes M) s f) (top b h)) (turned b h)
      ∙ commute (scale (on_bytes M) (last (on_bytes M) 0 b) f) (up (on_bytes M) 0 b)
