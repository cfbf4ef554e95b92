-- Tuples under a map that keeps the operations.
-- Assumes nothing.
use Rattle.std.proofs.Common.{◌≡◌, ℕ, zero, suc, List, [], ◌∷◌, ◌++◌, map, length, sym, refl, ap, ◌∙◌, ap₂}
use mathlib.Core.List.{map-append}
use lib.ListN.{length-map}
use Rattle.algebra.specs.Operations.{Ops}
use Rattle.algebra.specs.Polynomials.{poly_sum, poly_product, monic}
use Rattle.algebra.specs.Tuples.{plus, scale, zeros, unit, up, last, times_x, times}

-- what such a map does
pub record Carries {A B : Type 0} (O : Ops A) (N : Ops B) (h : A → B) : Type 0 where
  pub nil : h O.nil ≡ N.nil
  pub one : h O.one ≡ N.one
  pub add : (x y : A) → h (O.add x y) ≡ N.add (h x) (h y)
  pub mul : (x y : A) → h (O.mul x y) ≡ N.mul (h x) (h y)

module _ {A B : Type 0} {O : Ops A} {N : Ops B} (h : A → B) (C : Carries O N h) where
  pub map_plus : (a b : List A) → map h (plus O a b) ≡ plus N (map h a) (map h b)
  unfolding plus
  map_plus [] b = refl
  map_plus (x ∷ a) [] = refl
  map_plus (x ∷ a) (y ∷ b) = ap₂ ◌∷◌ (C.add x y) (map_plus a b)

  pub map_scale : (s : A) (a : List A) → map h (scale O s a) ≡ scale N (h s) (map h a)
  unfolding scale
  map_scale s [] = refl
  map_scale s (x ∷ a) = ap₂ ◌∷◌ (C.mul s x) (map_scale s a)

  pub map_zeros : (v : ℕ) → map h (zeros O v) ≡ zeros N v
  unfolding zeros
  map_zeros zero = refl
  map_zeros (suc v) = ap₂ ◌∷◌ C.nil (map_zeros v)

  pub map_unit : (v : ℕ) → map h (unit O v) ≡ unit N v
  unfolding unit
  map_unit zero = refl
  map_unit (suc v) = ap₂ ◌∷◌ C.one (map_zeros v)

  map_up : (c : A) (a : List A) → map h (up O c a) ≡ up N (h c) (map h a)
  unfolding up
  map_up c [] = refl
  map_up c (x ∷ a) = ap (λ (t : List B). h c ∷ t) (map_up x a)

  map_last : (c : A) (a : List A) → h (last O c a) ≡ last N (h c) (map h a)
  unfolding last
  map_last c [] = refl
  map_last c (x ∷ a) = map_last x a

  pub map_times_x : (f b : List A) → map h (times_x O f b) ≡ times_x N (map h f) (map h b)
  unfolding times_x
  map_times_x f b =
      map_plus (up O O.nil b) (scale O (last O O.nil b) f)
      ∙ ap₂ (plus N) (map_up O.nil b ∙ ap (λ z. up N z (map h b)) C.nil)
      (map_scale (last O O.nil b) f ∙ ap (λ z. scale N z (map h f)) (map_last O.nil b ∙ ap (λ z. last N z (map h b)) C.nil))

  pub map_times : (f a b : List A) → map h (times O f a b) ≡ times N (map h f) (map h a) (map h b)
  unfolding times
  map_times f [] b = map_zeros (length b) ∙ ap (zeros N) (sym (length-map b h))
  map_times f (x ∷ a) b =
      map_plus (scale O x b) (times_x O f (times O f a b))
      ∙ ap₂ (plus N) (map_scale x b) (map_times_x f (times O f a b) ∙ ap (times_x N (map h f)) (map_times f a b))

  pub map_poly_sum : (p q : List A) → map h (poly_sum O p q) ≡ poly_sum N (map h p) (map h q)
  unfolding poly_sum
  map_poly_sum [] q = refl
  map_poly_sum (x ∷ p) [] = refl
  map_poly_sum (x ∷ p) (y ∷ q) = ap₂ ◌∷◌ (C.add x y) (map_poly_sum p q)

  pub map_poly_product : (p q : List A) → map h (poly_product O p q) ≡ poly_product N (map h p) (map h q)
  unfolding poly_product
  map_poly_product [] q = refl
  map_poly_product (x ∷ p) q =
      map_poly_sum (scale O x q) (O.nil ∷ poly_product O p q) ∙ ap₂ (poly_sum N) (map_scale x q) (ap₂ ◌∷◌ C.nil (map_poly_product p q))

  pub map_monic : (f : List A) → map h (monic O f) ≡ monic N (map h f)
  unfolding monic
  map_monic f = map-append h f (O.one ∷ []) ∙ ap (λ z. map h f ++ (z ∷ [])) C.one
