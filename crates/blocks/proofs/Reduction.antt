-- One row of elimination, as a step towards units.
-- Assumes nothing.
use Rattle.std.proofs.Common.{◌≡◌, ℕ, zero, suc, ◌+◌, ◌-◌, ◌^◌, ◌<◌, ◌≤◌, Bool, true, false, cond, eqb, List, [], ◌∷◌, map, length, get_or, set, sym, refl, ap, ◌∙◌, subst, ap₂, ⊎_elim, le_of_suc-le-suc, not-suc-le-zero, suc-ne-zero, add-one, arith, length-set, get_or-set_same, pow_pos}
use native.Mathlib.Nat.{suc_inj}
use lib.Bits.{bit_xor, xor_zero_r}
use lib.ListN.{length-map}
use Rattle.std.proofs.lemmas.List.{get_or-map}
use Rattle.std.proofs.lemmas.Bool.{eq-eqb, eqb-true, eqb-false, cases_lt}
use Rattle.algebra.specs.Operations.{Ops}
use Rattle.algebra.specs.Meaning.{Meaning, Shape, Laws, IsCode, on_bytes}
use Rattle.algebra.specs.Tuples.{plus, scale, zeros}
use Rattle.algebra.specs.Linear.{basis, shear_row}
use Rattle.algebra.specs.Affine.{affine, OneToOne}
use Rattle.algebra.specs.Blocks.{IsBlock}
use Rattle.algebra.specs.Search.{first_from}
use Rattle.algebra.proofs.Affine.{Reducing, reducing_block, led, cleared, stuck}
use Rattle.algebra.proofs.Codes.{product_of_codes}
use Rattle.algebra.proofs.Entries.{plus_at, scale_at}
use Rattle.algebra.proofs.Tuples.{length_zeros, length_scale}
use Rattle.algebra.proofs.Search.{first_bound, first_passes, first_reaches}
use Rattle.blocks.specs.Elimination.{inverse_code, NoPivot, PivotAt, lead_step, pivot_step, RowReduced}

-- one more at place k
set_one : (M : Meaning) (r : List ℕ) (n k : ℕ) → length r ≡ n → k < n → set r k (bit_xor (get_or r k 0) M.one) ≡ plus (on_bytes M) r (basis (on_bytes M) n k)
unfolding basis plus zeros on_bytes
set_one M [] n k h less = absurd (not-suc-le-zero (subst (λ m. k < m) (sym h) less))
set_one M (x ∷ r) zero k h less = absurd (not-suc-le-zero less)
set_one M (x ∷ r) (suc n) zero h less = ap (λ (t : List ℕ). bit_xor x M.one ∷ t) (rest r n (suc_inj h))
  where
    rest : (r : List ℕ) (n : ℕ) → length r ≡ n → r ≡ plus (on_bytes M) r (zeros (on_bytes M) n)
    rest [] n h = refl
    rest (x ∷ r) zero h = absurd (suc-ne-zero (length r) h)
    rest (x ∷ r) (suc n) h = ap₂ ◌∷◌ (sym (xor_zero_r x)) (rest r n (suc_inj h))
set_one M (x ∷ r) (suc n) (suc k) h less = ap₂ ◌∷◌ (sym (xor_zero_r x)) (set_one M r n k (suc_inj h) (le_of_suc-le-suc less))

-- the inverse of a code
inverse_is : (M : Meaning) → Shape M → Laws M → (a : ℕ) → IsCode M a → (a ≡ 0 → ⊥) → IsCode M (inverse_code M a) × (M.product a (inverse_code M a) ≡ M.one)
unfolding on_bytes
inverse_is M s L a code other =
    let n = 2 ^ M.width - 1 in
    let test : ℕ → Bool = λ b. eqb ((on_bytes M).mul a b) M.one in
    let r = first_from 0 n test in
    let positive : 1 ≤ 2 ^ M.width = pow_pos M.width in
    let bound : r ≤ 0 + n = first_bound test n 0 in
    let r-code : IsCode M r = omega (arith, bound, positive) in
    let i = L.inverse a code other in
    let passes : test i.0 ≡ true = eq-eqb ((on_bytes M).mul a i.0) M.one (product_of_codes M a i.0 code i.1 ∙ i.2) in
    let found : r < 0 + n → M.product a r ≡ M.one
    = λ h. sym (product_of_codes M a r code r-code) ∙ eqb-true ((on_bytes M).mul a r) M.one (first_passes test n 0 h) in
    let last : 0 + n ≤ r → M.product a r ≡ M.one
    = λ h.
    let i-high : (i.0 < 0 + n → ⊥) = λ low. omega (arith, first_reaches test n 0 i.0 (omega arith) low passes, h, low) in
    let same : r ≡ i.0 = ⊎_elim (λ (low : i.0 < 0 + n). absurd (i-high low)) (λ (high : 0 + n ≤ i.0). omega (arith, bound, high, h, i.1)) (cases_lt i.0 (0 + n)) in
    ap (M.product a) same ∙ i.2 in
    (r-code, ⊎_elim found last (cases_lt r (0 + n)))

-- adding the element at another place where there was none
shear_at : (M : Meaning) → Shape M → Laws M → (n k place : ℕ) (row : List ℕ) → length row ≡ n → k < n → IsCode M (get_or row place 0) → get_or row k 0 ≡ 0
    → get_or (shear_row (on_bytes M) M.one place (basis (on_bytes M) n k) row) k 0 ≡ get_or row place 0
unfolding shear_row basis on_bytes
shear_at M s L n k place row size less code none =
    let N = on_bytes M in
    let x = get_or row place 0 in
    let unit = set (zeros N n) k M.one in
    let unit_size : length unit ≡ n = length-set (zeros N n) k M.one ∙ length_zeros N n in
    let t-is : N.mul M.one x ≡ x = product_of_codes M M.one x s.one_code code ∙ L.one_times x code in
    let back : N.mul x M.one ≡ x = product_of_codes M x M.one code s.one_code ∙ L.commutes x M.one code s.one_code ∙ L.one_times x code in
    let multiple : get_or (scale N (N.mul M.one x) unit) k 0 ≡ x
    = scale_at N (N.mul M.one x) unit k 0 (subst (λ m. k < m) (sym unit_size) less)
    ∙ ap₂ N.mul t-is (get_or-set_same (zeros N n) k M.one 0 (subst (λ m. k < m) (sym (length_zeros N n)) less)) ∙ back in
    plus_at N (scale N (N.mul M.one x) unit) row k 0 (subst (λ m. k < m) (sym (length_scale N (N.mul M.one x) unit ∙ unit_size)) less) (subst (λ m. k < m) (sym size) less)
    ∙ ap₂ bit_xor multiple none ∙ xor_zero_r x

module _ (M : Meaning) (s : Shape M) (L : Laws M) (n k : ℕ) (rows W C : List (List ℕ)) (tall : length W ≡ n) (less : k < n) (g : Reducing M s n rows k W C) where
  N : Ops ℕ
  N = on_bytes M

  row : List ℕ
  row = get_or W k []

  row_codes : IsBlock M n row
  unfolding row
  row_codes = reducing_block M s n L rows k W C g less

  -- no pivot
  pub row_stuck : NoPivot k (get_or W k []) → (c : List ℕ) → IsBlock M n c → OneToOne M n (affine M c rows) → ⊥
  unfolding row
  row_stuck none c h = stuck M s n L rows k W C g c h less (λ j from below. none j from (subst (λ m. j < m) (sym row_codes.size) below))

  module _ (place : ℕ) (p : PivotAt k (get_or W k []) place) where
    at : Bool → List ℕ → List ℕ
    at b r = cond b r (shear_row N M.one place (basis N n k) r)

    first : List (List ℕ)
    first = map (lead_step M n place k) W

    within : place < n
    unfolding row
    within = subst (λ m. place < m) row_codes.size p.inside

    same_rows : (X : List (List ℕ)) → X ≡ map (at true) X
    unfolding at
    same_rows [] = refl
    same_rows (x ∷ X) = ap (λ (t : List (List ℕ)). x ∷ t) (same_rows X)

    after_lead : Reducing M s n rows k first (map (lead_step M n place k) C)
    unfolding first at N
    after_lead = by (eqb place k) refl
      where
        by : (b : Bool) → eqb place k ≡ b → Reducing M s n rows k (map (at b) W) (map (at b) C)
        by true e = subst (λ X. Reducing M s n rows k X (map (at true) C)) (same_rows W) (subst (λ X. Reducing M s n rows k W X) (same_rows C) g)
        by false e = led M s n L rows k W C g place (omega (arith, p.from, eqb-false place k e)) within

    pivot : List ℕ
    pivot = get_or first k []

    pivot_is : pivot ≡ at (eqb place k) row
    unfolding pivot first row at N
    pivot_is = get_or-map (lead_step M n place k) W k [] [] (subst (λ m. k < m) (sym tall) less)

    pivot_codes : IsBlock M n pivot
    unfolding pivot
    pivot_codes = reducing_block M s n L rows k first (map (lead_step M n place k) C) after_lead less

    -- the pivot is not zero
    pivot_some : get_or pivot k 0 ≡ 0 → ⊥
    unfolding at N row
    pivot_some z = by (eqb place k) refl (sym (ap (λ r. get_or r k 0) pivot_is) ∙ z)
      where
        by : (b : Bool) → eqb place k ≡ b → get_or (at b row) k 0 ≡ 0 → ⊥
        by true e q = p.some (ap (λ j. get_or row j 0) (eqb-true place k e) ∙ q)
        by false e q =
            let x-code : IsCode M (get_or row place 0) = row_codes.codes place p.inside in
            let zero-here : get_or row k 0 ≡ 0 = p.first k (omega arith) (omega (arith, p.from, eqb-false place k e)) in
            p.some (sym (shear_at M s L n k place row row_codes.size less x-code zero-here) ∙ q)

    -- a pivot: one row more is done
    pub row_done : Reducing M s n rows (suc k) (map (pivot_step M k (get_or (map (lead_step M n place k) W) k [])) (map (lead_step M n place k) W))
        (map (pivot_step M k (get_or (map (lead_step M n place k) W) k [])) (map (lead_step M n place k) C))
    unfolding pivot first
    row_done =
        let right = inverse_is M s L (get_or pivot k 0) (pivot_codes.codes k (subst (λ m. k < m) (sym pivot_codes.size) less)) pivot_some in
        let step = set_one M pivot n k pivot_codes.size less in
        subst (λ q. Reducing M s n rows (suc k) (map (shear_row (on_bytes M) (inverse_code M (get_or pivot k 0)) k q) first)
        (map (shear_row (on_bytes M) (inverse_code M (get_or pivot k 0)) k q) (map (lead_step M n place k) C))) (sym step)
        (cleared M s n L rows k first (map (lead_step M n place k) C) after_lead (inverse_code M (get_or pivot k 0)) right.0 less right.1)

  -- the same, as one row of elimination says it
  pub one_more : (W' C' : List (List ℕ)) → RowReduced M k W C W' C' → Reducing M s n rows (k + 1) W' C'
  one_more W' C' r =
      let step : ℕ → List (List ℕ) → List (List ℕ) = λ m X. map (pivot_step M k (get_or (map (lead_step M m r.place k) W) k [])) (map (lead_step M m r.place k) X) in
      subst (λ m. Reducing M s n rows m W' C') (sym (add-one k))
      (subst (λ X. Reducing M s n rows (suc k) X C') (sym (r.rows ∙ ap (λ m. step m W) tall))
      (subst (λ X. Reducing M s n rows (suc k) (step n W) X) (sym (r.account ∙ ap (λ m. step m C) tall)) (row_done r.place r.pivot)))

-- there are as many rows as before
pub as_many : (M : Meaning) (k : ℕ) (W C W' C' : List (List ℕ)) → RowReduced M k W C W' C' → length W' ≡ length W
as_many M k W C W' C' r =
    let led : List (List ℕ) = map (lead_step M (length W) r.place k) W in
    ap length r.rows ∙ length-map led (pivot_step M k (get_or led k [])) ∙ length-map W (lead_step M (length W) r.place k)
