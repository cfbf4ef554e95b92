-- On codes, a field's operations on codes and those on bytes make the same tuples.
-- Assumes nothing.
use Rattle.std.proofs.Common.{◌≡◌, ℕ, zero, suc, List, [], ◌∷◌, sym, refl, ap, ◌∙◌, subst, ap₂, suc-le-suc, arith}
use lib.Bits.{bit_xor}
use Rattle.algebra.specs.Blocks.{Codes, IsBlock, ByteProduct, ModularProducts}
use Rattle.algebra.specs.Meaning.{Meaning, Shape, Laws, IsCode, operations, on_bytes}
use Rattle.algebra.specs.Tuples.{plus, scale, zeros, unit, times_x, times}
use Rattle.algebra.proofs.Blocks.{down, lift, down_lift, carries, keeps_codes, modular_byte_products}
use Rattle.algebra.proofs.Closed.{plus_keeps, scale_keeps}
use Rattle.algebra.proofs.CodeRing.{Code, code_ops}
use Rattle.algebra.proofs.Codes.{product_of_codes}
use Rattle.algebra.proofs.Natural.{Carries, map_times_x, map_times}
use Rattle.algebra.proofs.Tuples.{length_plus, length_scale}

plain_carries : (M : Meaning) (s : Shape M) → Carries (code_ops M s) (operations M) (λ (x : Code M). x.0)
unfolding code_ops operations
plain_carries M s = record { nil = refl; one = refl; add = λ x y. refl; mul = λ x y. refl }

module _ (M : Meaning) where
  pub same_plus : (a b : List ℕ) → plus (on_bytes M) a b ≡ plus (operations M) a b
  unfolding plus operations on_bytes
  same_plus [] b = refl
  same_plus (x ∷ a) [] = refl
  same_plus (x ∷ a) (y ∷ b) = ap (λ (t : List ℕ). bit_xor x y ∷ t) (same_plus a b)

  pub same_scale : (s : ℕ) (a : List ℕ) → IsCode M s → Codes M a → scale (on_bytes M) s a ≡ scale (operations M) s a
  unfolding scale operations on_bytes
  same_scale s [] hs ha = refl
  same_scale s (x ∷ a) hs ha = ap₂ ◌∷◌ (product_of_codes M s x hs (ha 0 (omega arith))) (same_scale s a hs (λ i h. ha (suc i) (suc-le-suc h)))

  -- a multiple of a block of codes added to a block
  pub same_multiple : (s : ℕ) (a b : List ℕ) → IsCode M s → Codes M a
      → plus (on_bytes M) (scale (on_bytes M) s a) b ≡ plus (operations M) (scale (operations M) s a) b
  same_multiple s a b hs ha = same_plus (scale (on_bytes M) s a) b ∙ ap (λ z. plus (operations M) z b) (same_scale s a hs ha)

  same_zeros : (v : ℕ) → zeros (on_bytes M) v ≡ zeros (operations M) v
  unfolding zeros operations on_bytes
  same_zeros zero = refl
  same_zeros (suc v) = ap (λ (t : List ℕ). 0 ∷ t) (same_zeros v)

  same_unit : (v : ℕ) → unit (on_bytes M) v ≡ unit (operations M) v
  unfolding unit operations on_bytes
  same_unit zero = refl
  same_unit (suc v) = ap (λ (t : List ℕ). M.one ∷ t) (same_zeros v)

module _ (M : Meaning) (s : Shape M) where
  pub same_times_x : (f b : List ℕ) → Codes M f → Codes M b → times_x (on_bytes M) f b ≡ times_x (operations M) f b
  same_times_x f b hf hb =
      let F = lift M f hf in
      let B = lift M b hb in
      let both : times_x (on_bytes M) (down M F) (down M B) ≡ times_x (operations M) (down M F) (down M B)
      = sym (map_times_x (λ (x : Code M). x.0) (carries M s) F B) ∙ map_times_x (λ (x : Code M). x.0) (plain_carries M s) F B in
      subst (λ z. times_x (on_bytes M) z b ≡ times_x (operations M) z b) (down_lift M f hf)
      (subst (λ z. times_x (on_bytes M) (down M F) z ≡ times_x (operations M) (down M F) z) (down_lift M b hb) both)

  pub same_times : (f a b : List ℕ) → Codes M f → Codes M a → Codes M b → times (on_bytes M) f a b ≡ times (operations M) f a b
  same_times f a b hf ha hb =
      let F = lift M f hf in
      let A = lift M a ha in
      let B = lift M b hb in
      let all : times (on_bytes M) (down M F) (down M A) (down M B) ≡ times (operations M) (down M F) (down M A) (down M B)
      = sym (map_times (λ (x : Code M). x.0) (carries M s) F A B) ∙ map_times (λ (x : Code M). x.0) (plain_carries M s) F A B in
      subst (λ z. times (on_bytes M) z a b ≡ times (operations M) z a b) (down_lift M f hf)
      (subst (λ z. times (on_bytes M) (down M F) z b ≡ times (operations M) (down M F) z b) (down_lift M a ha)
      (subst (λ z. times (on_bytes M) (down M F) (down M A) z ≡ times (operations M) (down M F) (down M A) z) (down_lift M b hb) all))

  pub modular_products : Laws M → ModularProducts M
  modular_products L v f h =
      let N = on_bytes M in
      let P = operations M in
      let product : ByteProduct M v (unit N v) (times N f) = modular_byte_products M s L v f h in
      let same : (a b : List ℕ) → IsBlock M v a → IsBlock M v b → times N f a b ≡ times P f a b
      = λ a b ha hb. same_times f a b h.codes ha.codes hb.codes in
      let sum : (a b : List ℕ) → IsBlock M v a → IsBlock M v b → IsBlock M v (plus N a b)
      = λ a b ha hb. record { size = length_plus N a b (ha.size ∙ sym hb.size) ∙ hb.size; codes = plus_keeps (keeps_codes M s) 0 a b ha.codes hb.codes } in
      let multiple : (x : ℕ) (a : List ℕ) → IsCode M x → IsBlock M v a → IsBlock M v (scale N x a)
      = λ x a hx ha. record { size = length_scale N x a ∙ ha.size; codes = scale_keeps (keeps_codes M s) 0 x a hx ha.codes } in
      record {
        one_block = subst (IsBlock M v) (same_unit M v) product.one_block;
        stays = λ a b ha hb. subst (IsBlock M v) (same a b ha hb) (product.stays a b ha hb);
        commutes = λ a b ha hb. sym (same a b ha hb) ∙ product.commutes a b ha hb ∙ same b a hb ha;
        associates = λ a b c ha hb hc.
            ap (λ z. times P f z c) (sym (same a b ha hb)) ∙ sym (same (times N f a b) c (product.stays a b ha hb) hc)
            ∙ product.associates a b c ha hb hc ∙ same a (times N f b c) ha (product.stays b c hb hc) ∙ ap (times P f a) (same b c hb hc);
        distributes = λ a b c ha hb hc.
            ap (times P f a) (sym (same_plus M b c)) ∙ sym (same a (plus N b c) ha (sum b c hb hc)) ∙ product.distributes a b c ha hb hc
            ∙ same_plus M (times N f a b) (times N f a c) ∙ ap₂ (plus P) (same a b ha hb) (same a c ha hc);
        scales = λ x a b hx ha hb.
            ap (times P f a) (sym (same_scale M x b hx hb.codes)) ∙ sym (same a (scale N x b) ha (multiple x b hx hb)) ∙ product.scales x a b hx ha hb
            ∙ same_scale M x (times N f a b) hx (product.stays a b ha hb).codes ∙ ap (scale P x) (same a b ha hb);
        one_times = λ a ha.
            ap (λ z. times P f z a) (sym (same_unit M v)) ∙ sym (same (unit N v) a product.one_block ha) ∙ product.one_times a ha;
      }
