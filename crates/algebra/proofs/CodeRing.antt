-- The codes of a sound field as a carrier of their own: a ring, and more.
-- Assumes nothing.
use Rattle.std.proofs.Common.{◌≡◌, ℕ, zero, suc, ◌^◌, ◌⊎◌, sym, refl, ap, ◌∙◌, inl, inr, ⊎_elim, pow_pos}
use mathlib.Core.HLevel.{Σ_prop_path}
use native.Mathlib.Bridge.{le_prop}
use lib.Bits.{bit_xor, xor_lt, xor_comm, xor_assoc, xor_self, xor_zero_r}
use Rattle.std.proofs.lemmas.Bool.{cases_eq}
use Rattle.algebra.specs.Operations.{Ops, Ring2, power}
use Rattle.algebra.specs.Meaning.{Meaning, Shape, Laws, IsCode, operations}

abbrev pub Code : Meaning → Type 0
Code M = (a : ℕ) × IsCode M a

pub same : (M : Meaning) (x y : Code M) → x.0 ≡ y.0 → x ≡ y
same M x y e = Σ_prop_path (λ (a : ℕ). le_prop {n = suc a} {m = 2 ^ M.width}) {u = x} {v = y} e

module _ (M : Meaning) (s : Shape M) where
  unfoldable pub code_ops : Ops (Code M)
  code_ops = record {
    nil = (0, pow_pos M.width);
    one = (M.one, s.one_code);
    add = λ x y. (bit_xor x.0 y.0, xor_lt M.width x.0 y.0 x.1 y.1);
    mul = λ x y. (M.product x.0 y.0, s.product_code x.0 y.0 x.1 y.1);
  }

  pub code_power : (x : Code M) (k : ℕ) → (power code_ops x k).0 ≡ power (operations M) x.0 k
  unfolding power code_ops operations
  code_power x zero = refl
  code_power x (suc k) = ap (M.product x.0) (code_power x k)

  module _ (L : Laws M) where
    pub code_ring : Ring2 code_ops
    unfolding code_ops
    code_ring = record {
      add_assoc = λ x y z. same M _ _ (xor_assoc x.0 y.0 z.0);
      add_comm = λ x y. same M _ _ (xor_comm x.0 y.0);
      add_nil = λ x. same M _ _ (xor_zero_r x.0);
      add_self = λ x. same M _ _ (xor_self x.0);
      mul_assoc = λ x y z. same M _ _ (L.associates x.0 y.0 z.0 x.1 y.1 z.1);
      mul_comm = λ x y. same M _ _ (L.commutes x.0 y.0 x.1 y.1);
      mul_add = λ x y z. same M _ _ (L.distributes x.0 y.0 z.0 x.1 y.1 z.1);
      mul_one = λ x. same M _ _ (L.commutes x.0 M.one x.1 s.one_code ∙ L.one_times x.0 x.1);
    }

    pub code_returns : (x : Code M) → power code_ops x (2 ^ M.width) ≡ x
    code_returns x = same M _ _ (code_power x (2 ^ M.width) ∙ L.returns x.0 x.1)

    -- what is its own square is zero or one
    pub code_own_square : (x : Code M) → code_ops.mul x x ≡ x → (x ≡ code_ops.nil) ⊎ (x ≡ code_ops.one)
    unfolding code_ops
    code_own_square x e = ⊎_elim (λ (z : x.0 ≡ 0). inl (same M _ _ z)) (λ other. inr (unit other)) (cases_eq x.0 0)
      where
        unit : (x.0 ≡ 0 → ⊥) → x ≡ code_ops.one
        unit other =
            let i = L.inverse x.0 x.1 other in
            let y : Code M = (i.0, i.1) in
            let xy : code_ops.mul x y ≡ code_ops.one = same M _ _ i.2 in
            sym (code_ring.mul_one x) ∙ ap (code_ops.mul x) (sym xy) ∙ sym (code_ring.mul_assoc x x y) ∙ ap (λ z. code_ops.mul z y) e ∙ xy
