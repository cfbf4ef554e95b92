-- Units as rows, one by one and cut.
-- Assumes nothing.
use Rattle.std.proofs.Common.{◌≡◌, ℕ, zero, suc, ◌+◌, ◌<◌, ◌≤◌, List, [], ◌∷◌, ◌++◌, map, length, take, set, sym, refl, ap, ◌∙◌, ap₂, le_of_suc-le-suc, not-suc-le-zero, add-zero, add-suc, suc-add, add-one, arith}
use lib.Seq.{take-set-lt}
use Rattle.algebra.specs.Operations.{Ops}
use Rattle.algebra.specs.Tuples.{zeros}
use Rattle.algebra.specs.Linear.{basis, basis_from}

module _ {A : Type 0} (O : Ops A) where
  pub length_basis_from : (v i n : ℕ) → length (basis_from O v i n) ≡ n
  unfolding basis_from
  length_basis_from v i zero = refl
  length_basis_from v i (suc n) = ap suc (length_basis_from v (suc i) n)

  -- one unit more
  pub basis_more : (v i n : ℕ) → basis_from O v i (n + 1) ≡ basis_from O v i n ++ (basis O v (i + n) ∷ [])
  unfolding basis_from
  basis_more v i n = ap (basis_from O v i) (add-one n) ∙ again i n
    where
      again : (i n : ℕ) → basis_from O v i (suc n) ≡ basis_from O v i n ++ (basis O v (i + n) ∷ [])
      again i zero = ap (λ k. basis O v k ∷ []) (sym (add-zero i))
      again i (suc n) = ap (λ (t : List (List A)). basis O v i ∷ t) (again (suc i) n ∙ ap (λ k. basis_from O v (suc i) n ++ (basis O v k ∷ [])) (suc-add i n ∙ sym (add-suc i n)))

  zeros_cut : (n v : ℕ) → n ≤ v → take n (zeros O v) ≡ zeros O n
  unfolding zeros
  zeros_cut zero v h = refl
  zeros_cut (suc n) zero h = absurd (not-suc-le-zero h)
  zeros_cut (suc n) (suc v) h = ap (λ (t : List A). O.nil ∷ t) (zeros_cut n v (le_of_suc-le-suc h))

  -- the start of a longer unit is a unit
  pub basis_cut : (n v i : ℕ) → n ≤ v → i < n → take n (basis O v i) ≡ basis O n i
  unfolding basis
  basis_cut n v i h less = take-set-lt n (zeros O v) i O.one less ∙ ap (λ z. set z i O.one) (zeros_cut n v h)

  pub basis_from_cut : (n v i m : ℕ) → n ≤ v → i + m ≤ n → map (take n) (basis_from O v i m) ≡ basis_from O n i m
  unfolding basis_from
  basis_from_cut n v i zero h fits = refl
  basis_from_cut n v i (suc m) h fits = ap₂ ◌∷◌ (basis_cut n v i h (omega arith)) (basis_from_cut n v (suc i) m h (omega arith))
