-- Over a sound field the product of blocks modulo a monic polynomial is bilinear, commutative and associative, and has a unit.
-- Assumes nothing.
use Rattle.std.proofs.Common.{◌≡◌, ℕ, suc, List, [], ◌∷◌, map, length, sym, refl, ap, ◌∙◌, subst, ap₂, suc-le-suc, arith, pow_pos}
use lib.Bits.{xor_lt}
use Rattle.algebra.specs.Blocks.{Codes, IsBlock, ByteProduct, ModularByteProducts}
use Rattle.algebra.specs.Meaning.{Meaning, Shape, Laws, IsCode, as_code, on_bytes}
use Rattle.algebra.specs.Operations.{Ops}
use Rattle.algebra.specs.Tuples.{plus, scale, unit, times}
use Rattle.algebra.proofs.Closed.{Keeps, unit_keeps, times_keeps}
use Rattle.algebra.proofs.Codes.{is_code, product_of_codes}
use Rattle.algebra.proofs.CodeRing.{Code, code_ops, code_ring}
use Rattle.algebra.proofs.Natural.{Carries, map_plus, map_scale, map_unit, map_times}
use Rattle.algebra.proofs.Quotient.{times_comm, times_assoc, unit_times}
use Rattle.algebra.proofs.Tuples.{length_unit, length_times, times_plus, times_scale}

-- sums and products of codes are codes
pub keeps_codes : (M : Meaning) → Shape M → Keeps (on_bytes M) (IsCode M)
unfolding on_bytes
keeps_codes M s = record {
  nil = pow_pos M.width;
  one = s.one_code;
  add = λ x y hx hy. xor_lt M.width x y hx hy;
  mul = λ x y hx hy. s.product_code (as_code M x) (as_code M y) (is_code M x) (is_code M y);
}

-- ---- a block of codes is a tuple over the carrier of codes

module _ (M : Meaning) where
  abbrev pub down : List (Code M) → List ℕ
  down = map (λ (x : Code M). x.0)

  abbrev pub lift : (a : List ℕ) → Codes M a → List (Code M)
  lift [] c = []
  lift (x ∷ a) c = (x, c 0 (omega arith)) ∷ lift a (λ i h. c (suc i) (suc-le-suc h))

  pub down_lift : (a : List ℕ) (c : Codes M a) → down (lift a c) ≡ a
  down_lift [] c = refl
  down_lift (x ∷ a) c = ap (λ (t : List ℕ). x ∷ t) (down_lift a (λ i h. c (suc i) (suc-le-suc h)))

  pub length_lift : (a : List ℕ) (c : Codes M a) → length (lift a c) ≡ length a
  length_lift [] c = refl
  length_lift (x ∷ a) c = ap suc (length_lift a (λ i h. c (suc i) (suc-le-suc h)))

  -- what holds of all such tuples holds of all blocks
  pub by_tuple : (v : ℕ) (Q : List ℕ → Type 0) → ((t : List (Code M)) → length t ≡ v → Q (down t)) → (a : List ℕ) → IsBlock M v a → Q a
  by_tuple v Q q a h = subst Q (down_lift a h.codes) (q (lift a h.codes) (length_lift a h.codes ∙ h.size))

pub carries : (M : Meaning) (s : Shape M) → Carries (code_ops M s) (on_bytes M) (λ (x : Code M). x.0)
unfolding code_ops on_bytes
carries M s = record { nil = refl; one = refl; add = λ x y. refl; mul = λ x y. sym (product_of_codes M x.0 y.0 x.1 y.1) }

module _ (M : Meaning) (s : Shape M) (L : Laws M) (F : List (Code M)) where
  abbrev O : Ops (Code M)
  O = code_ops M s

  abbrev N : Ops ℕ
  N = on_bytes M

  on : (a b : List (Code M)) → down M (times O F a b) ≡ times N (down M F) (down M a) (down M b)
  on a b = map_times (λ (x : Code M). x.0) (carries M s) F a b

  comm : (a b : List (Code M)) → length a ≡ length F → length b ≡ length F
      → times N (down M F) (down M a) (down M b) ≡ times N (down M F) (down M b) (down M a)
  comm a b ha hb = sym (on a b) ∙ ap (down M) (times_comm (code_ring M s L) F a b ha hb) ∙ on b a

  assoc : (a b c : List (Code M)) → length a ≡ length F → length b ≡ length F → length c ≡ length F
      → times N (down M F) (times N (down M F) (down M a) (down M b)) (down M c) ≡ times N (down M F) (down M a) (times N (down M F) (down M b) (down M c))
  assoc a b c ha hb hc =
      ap (λ z. times N (down M F) z (down M c)) (sym (on a b)) ∙ sym (on (times O F a b) c)
      ∙ ap (down M) (times_assoc (code_ring M s L) F a b c ha hb hc)
      ∙ on a (times O F b c) ∙ ap (times N (down M F) (down M a)) (on b c)

  distr : (a b c : List (Code M)) → length b ≡ length F → length c ≡ length F
      → times N (down M F) (down M a) (plus N (down M b) (down M c)) ≡ plus N (times N (down M F) (down M a) (down M b)) (times N (down M F) (down M a) (down M c))
  distr a b c hb hc =
      ap (times N (down M F) (down M a)) (sym (map_plus (λ (x : Code M). x.0) (carries M s) b c)) ∙ sym (on a (plus O b c))
      ∙ ap (down M) (times_plus (code_ring M s L) F a b c hb hc)
      ∙ map_plus (λ (x : Code M). x.0) (carries M s) (times O F a b) (times O F a c) ∙ ap₂ (plus N) (on a b) (on a c)

  scal : (x : Code M) (a b : List (Code M))
      → times N (down M F) (down M a) (scale N x.0 (down M b)) ≡ scale N x.0 (times N (down M F) (down M a) (down M b))
  scal x a b =
      ap (times N (down M F) (down M a)) (sym (map_scale (λ (x : Code M). x.0) (carries M s) x b)) ∙ sym (on a (scale O x b))
      ∙ ap (down M) (times_scale (code_ring M s L) F a x b)
      ∙ map_scale (λ (x : Code M). x.0) (carries M s) x (times O F a b) ∙ ap (scale N x.0) (on a b)

  unit_is : (a : List (Code M)) → length a ≡ length F → times N (down M F) (unit N (length F)) (down M a) ≡ down M a
  unit_is a h =
      ap (λ z. times N (down M F) z (down M a)) (sym (map_unit (λ (x : Code M). x.0) (carries M s) (length F))) ∙ sym (on (unit O (length F)) a)
      ∙ ap (down M) (unit_times (code_ring M s L) F a h)

module _ (M : Meaning) (s : Shape M) (L : Laws M) where
  -- the laws for a modulus that is such a tuple
  tuple_product : (v : ℕ) (F : List (Code M)) → length F ≡ v → IsBlock M v (down M F) → ByteProduct M v (unit (on_bytes M) v) (times (on_bytes M) (down M F))
  tuple_product v F hF f =
      let N = on_bytes M in
      let T = times N (down M F) in
      record {
        one_block = record { size = length_unit N v; codes = unit_keeps (keeps_codes M s) 0 v };
        stays = λ a b ha hb. record {
          size = length_times N (down M F) a b (hb.size ∙ sym f.size) ∙ f.size;
          codes = times_keeps (keeps_codes M s) 0 (down M F) a b f.codes ha.codes hb.codes;
        };
        commutes = λ a b ha hb.
            by_tuple M v (λ x. T x b ≡ T b x)
            (λ A hA. by_tuple M v (λ y. T (down M A) y ≡ T y (down M A)) (λ B hB. comm M s L F A B (hA ∙ sym hF) (hB ∙ sym hF)) b hb) a ha;
        associates = λ a b c ha hb hc.
            by_tuple M v (λ x. T (T x b) c ≡ T x (T b c))
            (λ A hA. by_tuple M v (λ y. T (T (down M A) y) c ≡ T (down M A) (T y c))
            (λ B hB. by_tuple M v (λ z. T (T (down M A) (down M B)) z ≡ T (down M A) (T (down M B) z))
            (λ C hC. assoc M s L F A B C (hA ∙ sym hF) (hB ∙ sym hF) (hC ∙ sym hF)) c hc) b hb) a ha;
        distributes = λ a b c ha hb hc.
            by_tuple M v (λ x. T x (plus N b c) ≡ plus N (T x b) (T x c))
            (λ A hA. by_tuple M v (λ y. T (down M A) (plus N y c) ≡ plus N (T (down M A) y) (T (down M A) c))
            (λ B hB. by_tuple M v (λ z. T (down M A) (plus N (down M B) z) ≡ plus N (T (down M A) (down M B)) (T (down M A) z))
            (λ C hC. distr M s L F A B C (hB ∙ sym hF) (hC ∙ sym hF)) c hc) b hb) a ha;
        scales = λ k a b hk ha hb.
            by_tuple M v (λ x. T x (scale N k b) ≡ scale N k (T x b))
            (λ A hA. by_tuple M v (λ y. T (down M A) (scale N k y) ≡ scale N k (T (down M A) y)) (λ B hB. scal M s L F (k, hk) A B) b hb) a ha;
        one_times = λ a ha.
            by_tuple M v (λ x. T (unit N v) x ≡ x)
            (λ A hA. subst (λ n. T (unit N n) (down M A) ≡ down M A) hF (unit_is M s L F A (hA ∙ sym hF))) a ha;
      }

  pub modular_byte_products : ModularByteProducts M
  modular_byte_products v f h =
      subst (λ z. ByteProduct M v (unit (on_bytes M) v) (times (on_bytes M) z)) (down_lift M f h.codes)
      (tuple_product v (lift M f h.codes) (length_lift M f h.codes ∙ h.size) (subst (IsBlock M v) (sym (down_lift M f h.codes)) h))
