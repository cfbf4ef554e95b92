-- The scaled field on a sound field keeps the laws where the factor times the given one is the one below: a stands for the element a·factor.
-- Assumes nothing.
use Rattle.std.specs.Prelude.{◌≡◌, ℕ, ◌%◌, ◌^◌, true, ◌==◌, bit_xor}
use Rattle.std.proofs.Common.{sym, ◌∙◌, pow_pos}
use Rattle.std.proofs.Math.Path.{ap, ap₂}
use Rattle.std.proofs.Math.Nat.{mod-lt, mod-eq_of_lt}
use Rattle.std.proofs.lemmas.Nat.{xor_mod}
use Rattle.std.proofs.lemmas.Bool.{and_parts, eqb-true}
use Rattle.algebra.specs.Operations.{Ops, Ring2}
use Rattle.algebra.specs.Meaning.{Meaning, Shape, Laws, low_bits}
use Rattle.algebra.proofs.Rings.{nil_mul, add_mul, mul_exchange}
use Rattle.algebra.proofs.Codes.{times_zero}
use Rattle.algebra.proofs.CodeRing.{Code, same, code_ops, code_ring, code_returns, code_own_square}
use Rattle.algebra.proofs.Carried.{Carried, carried_laws}
use Rattle.lines.specs.Scaled.{scaled}

-- ---- in any ring, where c times e is one

module _ {A : Type 0} {O : Ops A} (R : Ring2 O) (c e : A) (unit : O.mul c e ≡ O.one) where
  up_down : (a : A) → O.mul (O.mul a c) e ≡ a
  up_down a = R.mul_assoc a c e ∙ ap (O.mul a) unit ∙ R.mul_one a

  down_up : (a : A) → O.mul (O.mul a e) c ≡ a
  down_up a = R.mul_assoc a e c ∙ ap (O.mul a) (R.mul_comm e c ∙ unit) ∙ R.mul_one a

  product_down : (a b : A) → O.mul (O.mul a b) c ≡ O.mul (O.mul (O.mul a c) (O.mul b c)) e
  product_down a b =
      sym (up_down (O.mul (O.mul a b) c))
      ∙ ap (λ z. O.mul z e) (R.mul_assoc (O.mul a b) c c ∙ mul_exchange R a b c c)

-- ---- every field

module _ (M : Meaning) (s : Shape M) (factor one : ℕ) where
  abbrev K : Ops (Code M)
  K = code_ops M s

  code : ℕ → Code M
  code a = (a % 2 ^ M.width, mod-lt a (pow_pos M.width))

  pub scaled_shape : Shape (scaled M factor one)
  unfolding scaled low_bits
  scaled_shape = record {
    at_least = s.at_least;
    at_most = s.at_most;
    one_code = mod-lt one (pow_pos M.width);
    product_code = λ a b ha hb. s.product_code (M.product a b) (factor % 2 ^ M.width) (s.product_code a b ha hb) (mod-lt factor (pow_pos M.width));
  }

  code_is : (x : Code M) → code x.0 ≡ x
  unfolding code
  code_is x = same M _ _ (mod-eq_of_lt x.1)

  -- ---- a sound one

  module _ (L : Laws M) (unit : M.product (low_bits M.width factor) (low_bits M.width one) ≡ M.one) where
    R : Ring2 K
    R = code_ring M s L

    units : K.mul (code factor) (code one) ≡ K.one
    unfolding code_ops code low_bits
    units = same M _ _ unit

    scaled_carried : Carried (scaled M factor one) K
    unfolding scaled low_bits code_ops code
    scaled_carried = record {
      to = λ a. K.mul (code a) (code factor);
      from = λ u. (K.mul u (code one)).0;
      from_code = λ u. (K.mul u (code one)).1;
      from_to = λ a h. ap (λ (x : Code M). x.0) (up_down R (code factor) (code one) units (code a)) ∙ mod-eq_of_lt h;
      to_from = λ u. ap (λ x. K.mul x (code factor)) (code_is (K.mul u (code one))) ∙ down_up R (code factor) (code one) units u;
      product_is = λ a b ha hb.
          ap₂ (λ x y. M.product (M.product x y) (factor % 2 ^ M.width)) (sym (mod-eq_of_lt ha)) (sym (mod-eq_of_lt hb))
          ∙ ap (λ (x : Code M). x.0) (product_down R (code factor) (code one) units (code a) (code b));
      sum_is = λ a b ha hb.
          ap (λ x. K.mul x (code factor)) (same M (code (bit_xor a b)) (K.add (code a) (code b)) (xor_mod a b M.width))
          ∙ add_mul R (code a) (code b) (code factor);
      zero_is = ap (λ x. K.mul x (code factor)) (code_is K.nil) ∙ nil_mul R (code factor);
      one_is = ap (λ x. K.mul x (code factor)) (code_is (code one)) ∙ R.mul_comm (code one) (code factor) ∙ units;
      one_code = mod-lt one (pow_pos M.width);
    }

    apart : low_bits M.width one ≡ 0 → ⊥
    unfolding low_bits
    apart e =
        let f = factor % 2 ^ M.width in
        L.one_not_zero (sym unit ∙ ap (M.product f) e ∙ times_zero M s L f (mod-lt factor (pow_pos M.width)))

    live_laws : Laws (scaled M factor one)
    unfolding scaled
    live_laws = carried_laws scaled_carried R s.at_least apart (code_returns M s L) (code_own_square M s L)

  pub scaled_laws : (M.sound ≡ true → Laws M) → (scaled M factor one).sound ≡ true → Laws (scaled M factor one)
  unfolding scaled
  scaled_laws laws sound =
      let f = low_bits M.width factor in
      let e = low_bits M.width one in
      let parts = and_parts M.sound (M.product f e == M.one) sound in
      live_laws (laws parts.0) (eqb-true (M.product f e) M.one parts.1)
