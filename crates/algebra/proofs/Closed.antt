-- What the elements of tuples keep: a property of zero and one that sums and products have again.
-- Assumes nothing.
use Rattle.std.proofs.Common.{ℕ, zero, suc, ◌<◌, List, [], ◌∷◌, length, get_or, suc-le-suc, le_of_suc-le-suc, not-suc-le-zero, arith}
use Rattle.algebra.specs.Operations.{Ops}
use Rattle.algebra.specs.Tuples.{plus, scale, zeros, unit, up, last, times_x, times}

-- every element has P; beyond the end stands d
abbrev pub Every : {A : Type 0} → (A → Type 0) → A → List A → Type 0
Every P d a = (i : ℕ) → i < length a → P (get_or a i d)

-- operations that lead from elements with P to elements with P
pub record Keeps {A : Type 0} (O : Ops A) (P : A → Type 0) : Type 0 where
  pub nil : P O.nil
  pub one : P O.one
  pub add : (x y : A) → P x → P y → P (O.add x y)
  pub mul : (x y : A) → P x → P y → P (O.mul x y)

module _ {A : Type 0} {O : Ops A} {P : A → Type 0} (K : Keeps O P) (d : A) where
  rest : (x : A) (a : List A) → Every P d (x ∷ a) → Every P d a
  rest x a h i less = h (suc i) (suc-le-suc less)

  first : (x : A) (a : List A) → Every P d (x ∷ a) → P x
  first x a h = h 0 (omega arith)

  pub plus_keeps : (a b : List A) → Every P d a → Every P d b → Every P d (plus O a b)
  unfolding plus
  plus_keeps [] b ha hb i h = absurd (not-suc-le-zero h)
  plus_keeps (x ∷ a) [] ha hb i h = absurd (not-suc-le-zero h)
  plus_keeps (x ∷ a) (y ∷ b) ha hb zero h = K.add x y (first x a ha) (first y b hb)
  plus_keeps (x ∷ a) (y ∷ b) ha hb (suc i) h = plus_keeps a b (rest x a ha) (rest y b hb) i (le_of_suc-le-suc h)

  pub scale_keeps : (s : A) (a : List A) → P s → Every P d a → Every P d (scale O s a)
  unfolding scale
  scale_keeps s [] hs ha i h = absurd (not-suc-le-zero h)
  scale_keeps s (x ∷ a) hs ha zero h = K.mul s x hs (first x a ha)
  scale_keeps s (x ∷ a) hs ha (suc i) h = scale_keeps s a hs (rest x a ha) i (le_of_suc-le-suc h)

  pub zeros_keep : (v : ℕ) → Every P d (zeros O v)
  unfolding zeros
  zeros_keep zero i h = absurd (not-suc-le-zero h)
  zeros_keep (suc v) zero h = K.nil
  zeros_keep (suc v) (suc i) h = zeros_keep v i (le_of_suc-le-suc h)

  pub unit_keeps : (v : ℕ) → Every P d (unit O v)
  unfolding unit
  unit_keeps zero i h = absurd (not-suc-le-zero h)
  unit_keeps (suc v) zero h = K.one
  unit_keeps (suc v) (suc i) h = zeros_keep v i (le_of_suc-le-suc h)

  up_keeps : (c : A) (a : List A) → P c → Every P d a → Every P d (up O c a)
  unfolding up
  up_keeps c [] hc ha i h = absurd (not-suc-le-zero h)
  up_keeps c (x ∷ a) hc ha zero h = hc
  up_keeps c (x ∷ a) hc ha (suc i) h = up_keeps x a (first x a ha) (rest x a ha) i (le_of_suc-le-suc h)

  last_keeps : (c : A) (a : List A) → P c → Every P d a → P (last O c a)
  unfolding last
  last_keeps c [] hc ha = hc
  last_keeps c (x ∷ a) hc ha = last_keeps x a (first x a ha) (rest x a ha)

  pub times_x_keeps : (f b : List A) → Every P d f → Every P d b → Every P d (times_x O f b)
  unfolding times_x
  times_x_keeps f b hf hb =
      plus_keeps (up O O.nil b) (scale O (last O O.nil b) f) (up_keeps O.nil b K.nil hb)
      (scale_keeps (last O O.nil b) f (last_keeps O.nil b K.nil hb) hf)

  pub times_keeps : (f a b : List A) → Every P d f → Every P d a → Every P d b → Every P d (times O f a b)
  unfolding times
  times_keeps f [] b hf ha hb = zeros_keep (length b)
  times_keeps f (x ∷ a) b hf ha hb =
      plus_keeps (scale O x b) (times_x O f (times O f a b)) (scale_keeps x b (first x a ha) hb)
      (times_x_keeps f (times O f a b) hf (times_keeps f a b hf (rest x a ha) hb))
