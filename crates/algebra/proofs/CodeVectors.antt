-- Tuples over the codes of a field as blocks of codes.
-- Assumes nothing.
use Rattle.std.proofs.Common.{◌≡◌, ℕ, List, [], ◌∷◌, map, length, get_or, set, sym, refl, ap, ◌∙◌, subst, ap₂, suc-ne-zero}
use lib.ListN.{get_or-map}
use Rattle.std.proofs.lemmas.List.{map-set}
use Rattle.algebra.specs.Operations.{Ops}
use Rattle.algebra.specs.Meaning.{Meaning, Shape, IsCode, on_bytes}
use Rattle.algebra.specs.Tuples.{plus, scale, zeros}
use Rattle.algebra.specs.Linear.{combination, basis}
use Rattle.algebra.specs.Blocks.{Codes}
use Rattle.algebra.proofs.Blocks.{down, carries}
use Rattle.algebra.proofs.CodeRing.{Code, same, code_ops}
use Rattle.algebra.proofs.Natural.{map_plus, map_scale, map_zeros}
use Rattle.algebra.proofs.Quotient.{Tuple, same_tuple}
use Rattle.algebra.proofs.Vectors.{none, add, times_by, total, unit_at}

-- codes with one number each are one list
pub same_codes : (M : Meaning) (a b : List (Code M)) → down M a ≡ down M b → a ≡ b
same_codes M [] [] e = refl
same_codes M [] (y ∷ b) e = absurd (suc-ne-zero (length (down M b)) (sym (ap length e)))
same_codes M (x ∷ a) [] e = absurd (suc-ne-zero (length (down M a)) (ap length e))
same_codes M (x ∷ a) (y ∷ b) e =
    let first : x.0 ≡ y.0 = cc in
    let rest : down M a ≡ down M b = cc in
    ap₂ ◌∷◌ (same M x y first) (same_codes M a b rest)

-- the elements of such a list are codes
pub down_codes : (M : Meaning) → Shape M → (a : List (Code M)) → Codes M (down M a)
unfolding code_ops
down_codes M s a i h = subst (IsCode M) (sym (get_or-map (λ (x : Code M). x.0) a i (code_ops M s).nil)) (get_or a i (code_ops M s).nil).1

module _ (M : Meaning) (s : Shape M) (v : ℕ) where
  abbrev O : Ops (Code M)
  O = code_ops M s

  abbrev N : Ops ℕ
  N = on_bytes M

  abbrev code : Code M → ℕ
  code x = x.0

  -- a tuple as a block
  abbrev pub block : Tuple (Code M) v → List ℕ
  block t = down M t.0

  pub same_vector : (x y : Tuple (Code M) v) → block x ≡ block y → x ≡ y
  same_vector x y e = same_tuple x y (same_codes M x.0 y.0 e)

  pub block_none : zeros N v ≡ block (none O v)
  block_none = sym (map_zeros code (carries M s) v)

  pub block_add : (x y : Tuple (Code M) v) → plus N (block x) (block y) ≡ block (add O v x y)
  block_add x y = sym (map_plus code (carries M s) x.0 y.0)

  pub block_times : (k : Code M) (x : Tuple (Code M) v) → scale N k.0 (block x) ≡ block (times_by O v k x)
  block_times k x = sym (map_scale code (carries M s) k x.0)

  pub block_unit : (i : ℕ) → basis N v i ≡ block (unit_at O v i)
  unfolding basis code_ops on_bytes
  block_unit i = ap (λ z. set z i M.one) block_none ∙ sym (map-set code (zeros O v) i O.one)

  pub block_total : (ts : List (Tuple (Code M) v)) (a : List (Code M)) → combination N (zeros N v) (map block ts) (down M a) ≡ block (total O v ts a)
  unfolding combination total
  block_total [] a = block_none
  block_total (t ∷ ts) [] = block_none
  block_total (t ∷ ts) (x ∷ a) = ap₂ (plus N) (block_times x t) (block_total ts a) ∙ block_add (times_by O v x t) (total O v ts a)
