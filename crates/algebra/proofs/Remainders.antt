-- Over a field that keeps the laws, the product of blocks is the remainder of the plain product.
-- Assumes nothing.
use Rattle.std.proofs.Common.{◌≡◌, ℕ, List, length, sym, ap, ◌∙◌, subst}
use lib.ListN.{get_or-map}
use Rattle.algebra.specs.Operations.{Ops}
use Rattle.algebra.specs.Meaning.{Meaning, Shape, Laws, on_bytes}
use Rattle.algebra.specs.Tuples.{times}
use Rattle.algebra.specs.Polynomials.{coefficient, Same, poly_sum, poly_product, monic, Congruent}
use Rattle.algebra.specs.Blocks.{BlockCongruent, BlockRemainders}
use Rattle.algebra.proofs.Blocks.{down, lift, down_lift, by_tuple, carries}
use Rattle.algebra.proofs.CodeRing.{Code, same, code_ops, code_ring}
use Rattle.algebra.proofs.CodeVectors.{same_codes, down_codes}
use Rattle.algebra.proofs.Natural.{map_times, map_poly_sum, map_poly_product, map_monic}
use Rattle.algebra.proofs.Polynomials.{only_remainder}

module _ (M : Meaning) (s : Shape M) (L : Laws M) where
  abbrev O : Ops (Code M)
  O = code_ops M s

  abbrev N : Ops ℕ
  N = on_bytes M

  abbrev code : Code M → ℕ
  code x = x.0

  coefficient_is : (p : List (Code M)) (i : ℕ) → coefficient N (down M p) i ≡ (coefficient O p i).0
  unfolding coefficient code_ops on_bytes
  coefficient_is p i = get_or-map code p i O.nil

  -- one polynomial on codes, and on the numbers
  same_down : (p q : List (Code M)) → Same O p q → Same N (down M p) (down M q)
  unfolding Same
  same_down p q e i = coefficient_is p i ∙ ap code (e i) ∙ sym (coefficient_is q i)

  same_up : (p q : List (Code M)) → Same N (down M p) (down M q) → Same O p q
  unfolding Same
  same_up p q e i = same M _ _ (sym (coefficient_is p i) ∙ e i ∙ coefficient_is q i)

  left_is : (a b r : List (Code M)) → down M (poly_sum O (poly_product O a b) r) ≡ poly_sum N (poly_product N (down M a) (down M b)) (down M r)
  left_is a b r = map_poly_sum code (carries M s) (poly_product O a b) r ∙ ap (λ z. poly_sum N z (down M r)) (map_poly_product code (carries M s) a b)

  right_is : (k f : List (Code M)) → down M (poly_product O k (monic O f)) ≡ poly_product N (down M k) (monic N (down M f))
  right_is k f = map_poly_product code (carries M s) k (monic O f) ∙ ap (poly_product N (down M k)) (map_monic code (carries M s) f)

  to_codes : (f a b r : List (Code M)) → BlockCongruent M (down M f) (down M a) (down M b) (down M r) → Congruent O (monic O f) (poly_product O a b) r
  unfolding Congruent
  to_codes f a b r c =
      let k = lift M c.0 c.1 in
      let k-is : down M k ≡ c.0 = down_lift M c.0 c.1 in (
        k,
        same_up (poly_sum O (poly_product O a b) r) (poly_product O k (monic O f))
            (subst (λ z. Same N z (down M (poly_product O k (monic O f)))) (sym (left_is a b r))
            (subst (Same N (poly_sum N (poly_product N (down M a) (down M b)) (down M r))) (ap (λ z. poly_product N z (monic N (down M f))) (sym k-is) ∙ sym (right_is k f)) c.2)),
      )

  of_codes : (f a b r : List (Code M)) → Congruent O (monic O f) (poly_product O a b) r → BlockCongruent M (down M f) (down M a) (down M b) (down M r)
  unfolding Congruent
  of_codes f a b r c = (
    down M c.0,
    down_codes M s c.0,
    subst (λ z. Same N z (poly_product N (down M c.0) (monic N (down M f)))) (left_is a b r)
        (subst (Same N (down M (poly_sum O (poly_product O a b) r))) (right_is c.0 f) (same_down (poly_sum O (poly_product O a b) r) (poly_product O c.0 (monic O f)) c.1)),
  )

  pub block_remainders : BlockRemainders M
  block_remainders v f a b r hf ha hb hr =
      by_tuple M v (λ f. Says f a b r)
      (λ F eF. by_tuple M v (λ a. Says (down M F) a b r)
      (λ A eA. by_tuple M v (λ b. Says (down M F) (down M A) b r)
      (λ B eB. by_tuple M v (λ r. Says (down M F) (down M A) (down M B) r) (λ T eT. of_tuples F A B T (eB ∙ sym eF) (eT ∙ sym eF)) r hr) b hb) a ha) f hf
    where
      Says : List ℕ → List ℕ → List ℕ → List ℕ → Type 0
      Says f a b r = (BlockCongruent M f a b r → r ≡ times N f a b) × (r ≡ times N f a b → BlockCongruent M f a b r)

      of_tuples : (F A B T : List (Code M)) → length B ≡ length F → length T ≡ length F → Says (down M F) (down M A) (down M B) (down M T)
      of_tuples F A B T eB eT =
          let only = only_remainder (code_ring M s L) F A B T eB eT in
          let product : down M (times O F A B) ≡ times N (down M F) (down M A) (down M B) = map_times code (carries M s) F A B in
          (λ c. ap (down M) (only.0 (to_codes F A B T c)) ∙ product, λ e. of_codes F A B T (only.1 (same_codes M T (times O F A B) (e ∙ sym product))))
