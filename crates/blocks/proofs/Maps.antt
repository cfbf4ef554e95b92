-- What an affine map holds.
-- Assumes nothing.
use Rattle.std.proofs.Common.{◌≡◌, ℕ, true, List, sym, refl, ap, ◌∙◌, subst, ap₂}
use Rattle.algebra.specs.Affine.{affine, linear, Square, DecidesInverse}
use Rattle.algebra.specs.Blocks.{IsBlock}
use Rattle.algebra.specs.Meaning.{Meaning, Shape}
use Rattle.algebra.proofs.Affine.{linear_block}
use Rattle.blocks.specs.declared.affine_value.AffineMap.{AffineMap}
use Rattle.blocks.specs.Maps.{size_of, constants_of, rows_of, image, MapCodes, UndoneBy}

-- the map that elimination finds
pub found : (M : Meaning) → Shape M → (p i : AffineMap) (C : List (List ℕ)) → MapCodes M p → size_of i ≡ size_of p → rows_of i ≡ C → constants_of i ≡ linear M (size_of p) C (constants_of p)
    → DecidesInverse M (size_of p) (rows_of p) true C → UndoneBy M p i
found M s p i C codes size rows constants says =
    let n = size_of p in
    let c = constants_of p in
    let square = says.square refl in
    let inverts = says.inverts refl c codes.constants in
    let same : (y : List ℕ) → affine M (linear M n C c) C y ≡ image M i y = λ y. ap₂ (λ (k : List ℕ) (r : List (List ℕ)). affine M k r y) (sym constants) (sym rows) in
    let after : (x : List ℕ) → IsBlock M n x → image M i (image M p x) ≡ x = λ x h. sym (same (image M p x)) ∙ inverts.after x h in
    record {
      size = size;
      codes = record {
        constants = subst (λ k. IsBlock M k (constants_of i)) (sym size) (subst (IsBlock M n) (sym constants) (linear_block M s n C square c codes.constants));
        rows = subst (λ k. Square M k (rows_of i)) (sym size) (subst (Square M n) (sym rows) square);
      };
      inverts = record {
        leads = λ y h. subst (IsBlock M n) (same y) (inverts.leads y h);
        after = after;
        before = λ y h. ap (image M p) (sym (same y)) ∙ inverts.before y h;
      };
      only = λ x y hx hy e. sym (after x hx) ∙ ap (image M i) e;
      one_to_one = λ x y hx hy e. sym (after x hx) ∙ ap (image M i) e ∙ after y hy;
    }
