-- Elimination on rows of codes decides whether an affine map is one to one, and finds its inverse.
-- Assumes nothing.
use Rattle.std.proofs.Common.{◌≡◌, ℕ, zero, suc, ◌<◌, ◌≤◌, List, [], ◌∷◌, map, length, get_or, sym, refl, ap, ◌∙◌, subst, ap₂, suc-le-suc, arith}
use lib.ListN
use lib.ListN.{length-map}
use Rattle.std.proofs.lemmas.List.{get_or-map}
use Rattle.algebra.specs.Operations.{Ops, Ring2}
use Rattle.algebra.specs.Meaning.{Meaning, Shape, Laws, IsCode, on_bytes}
use Rattle.algebra.specs.Tuples.{plus, scale}
use Rattle.algebra.specs.Linear.{combination, shear_row, basis, basis_from}
use Rattle.algebra.specs.Blocks.{IsBlock}
use Rattle.algebra.specs.Affine.{affine, linear, Square, OneToOne, Inverts}
use Rattle.algebra.proofs.Blocks.{down, lift, down_lift, length_lift, by_tuple}
use Rattle.algebra.proofs.CodeRing.{Code, same, code_ops, code_ring}
use Rattle.algebra.proofs.CodeVectors.{block, down_codes, same_vector, block_add, block_times, block_unit, block_total}
use Rattle.algebra.proofs.Codes.{product_of_codes}
use Rattle.algebra.proofs.Quotient.{Tuple}
use Rattle.algebra.proofs.Rings.{mul_nil}
use Rattle.algebra.proofs.Vectors.{none, add, times_by, place, total, total_from, unit_at, units_from, unit_other, add_group, add_none, add_self, total_adds, total_none, total_from_is}
use Rattle.algebra.proofs.Elimination.{shear, Reduced, growth, length_units, tall, start, sheared, pivoted, left_inverse, right_inverse, kernel, kernel_none, kernel_some}

module _ (M : Meaning) (s : Shape M) (n : ℕ) where
  abbrev Vec : Type 0
  Vec = Tuple (Code M) n

  abbrev O : Ops (Code M)
  O = code_ops M s

  abbrev N : Ops ℕ
  N = on_bytes M

  -- rows of codes, as tuples
  lift_rows : (rows : List (List ℕ)) → ((i : ℕ) → i < length rows → IsBlock M n (get_or rows i [])) → (ts : List Vec) × (rows ≡ map (block M s n) ts)
  lift_rows [] each = ([], refl)
  lift_rows (row ∷ rows) each =
      let h = each 0 (omega arith) in
      let rest = lift_rows rows (λ i less. each (suc i) (suc-le-suc less)) in
      ((lift M row h.codes, length_lift M row h.codes ∙ h.size) ∷ rest.0, ap₂ ◌∷◌ (sym (down_lift M row h.codes)) rest.1)

  -- k rows are done, of rows W and C of codes
  pub record Reducing (rows : List (List ℕ)) (k : ℕ) (W C : List (List ℕ)) : Type 0 where
    pub rows_t : List Vec
    pub w_t : List Vec
    pub c_t : List Vec
    pub rows_are : rows ≡ map (block M s n) rows_t
    pub w_are : W ≡ map (block M s n) w_t
    pub c_are : C ≡ map (block M s n) c_t
    pub tall : length rows_t ≡ n
    pub c_tall : length c_t ≡ n
    pub red : Reduced O n rows_t k w_t c_t

  units_are : (i m : ℕ) → basis_from N n i m ≡ map (block M s n) (units_from O n i m)
  unfolding basis_from units_from
  units_are i zero = refl
  units_are i (suc m) = ap₂ ◌∷◌ (block_unit M s n i) (units_are (suc i) m)

  -- the element of a row of codes at a place
  row_at : (t : Vec) (j : ℕ) → get_or (block M s n t) j 0 ≡ (place O n j t).0
  unfolding code_ops
  row_at t j = ListN.get_or-map (λ (x : Code M). x.0) t.0 j O.nil

  shear_is : (c : Code M) (j : ℕ) (q r : Vec) → shear_row N c.0 j (block M s n q) (block M s n r) ≡ block M s n (shear O n c j q r)
  unfolding shear shear_row on_bytes code_ops
  shear_is c j q r =
      let x = place O n j r in
      ap (λ z. plus N (scale N z (block M s n q)) (block M s n r)) (ap (N.mul c.0) (row_at r j) ∙ product_of_codes M c.0 x.0 c.1 x.1)
      ∙ ap (λ z. plus N z (block M s n r)) (block_times M s n (O.mul c x) q) ∙ block_add M s n (times_by O n (O.mul c x) q) r

  shears_are : (c : Code M) (j : ℕ) (q : Vec) (W : List Vec) → map (shear_row N c.0 j (block M s n q)) (map (block M s n) W) ≡ map (block M s n) (map (shear O n c j q) W)
  shears_are c j q [] = refl
  shears_are c j q (w ∷ W) = ap₂ ◌∷◌ (shear_is c j q w) (shears_are c j q W)

  -- a tuple is a block
  pub vector_block : (t : Vec) → IsBlock M n (block M s n t)
  vector_block t = record {
    size = length-map t.0 (λ (x : Code M). x.0) ∙ t.1;
    codes = down_codes M s t.0;
  }

  rows_block : (W : List Vec) (i : ℕ) → i < length W → get_or (map (block M s n) W) i [] ≡ block M s n (get_or W i (none O n))
  rows_block W i h = get_or-map (block M s n) W i (none O n) [] h

  linear_is : (ts : List Vec) (x : Vec) → linear M n (map (block M s n) ts) (block M s n x) ≡ block M s n (total O n ts x.0)
  linear_is ts x = block_total M s n ts x.0

  affine_is : (c : Vec) (ts : List Vec) (x : Vec) → affine M (block M s n c) (map (block M s n) ts) (block M s n x) ≡ block M s n (total_from O n c ts x.0)
  unfolding combination total_from
  affine_is c ts x = by ts x.0
    where
      by : (ts : List Vec) (a : List (Code M)) → combination N (block M s n c) (map (block M s n) ts) (down M a) ≡ block M s n (total_from O n c ts a)
      by [] a = refl
      by (t ∷ ts) [] = refl
      by (t ∷ ts) (x ∷ a) = ap₂ (plus N) (block_times M s n x t) (by ts a) ∙ block_add M s n (times_by O n x t) (total_from O n c ts a)

  -- the image of a block under rows of codes is a block
  pub linear_block : (C : List (List ℕ)) → Square M n C → (c : List ℕ) → IsBlock M n c → IsBlock M n (linear M n C c)
  linear_block C sq =
      let lifted = lift_rows C (λ i h. sq.each i (subst (λ k. i < k) sq.tall h)) in
      by_tuple M n (λ c. IsBlock M n (linear M n C c))
      (λ t e.
      let x : Vec = (t, e) in
      subst (IsBlock M n) (sym (ap (λ z. linear M n z (block M s n x)) lifted.1 ∙ linear_is lifted.0 x)) (vector_block (total O n lifted.0 t)))

  module _ (L : Laws M) where
    R : Ring2 O
    R = code_ring M s L

    image_is : (c : Vec) (ts : List Vec) (x : Vec) → affine M (block M s n c) (map (block M s n) ts) (block M s n x) ≡ block M s n (add O n (total O n ts x.0) c)
    image_is c ts x = affine_is c ts x ∙ ap (block M s n) (total_from_is R n c ts x.0)

    -- ---- the steps on rows of codes

    pub started : (rows : List (List ℕ)) → Square M n rows → Reducing rows 0 rows (basis_from N n 0 n)
    started rows sq =
        let lifted = lift_rows rows (λ i h. sq.each i (subst (λ k. i < k) sq.tall h)) in
        let ts = lifted.0 in
        record {
          rows_t = ts;
          w_t = ts;
          c_t = units_from O n 0 n;
          rows_are = lifted.1;
          w_are = lifted.1;
          c_are = units_are 0 n;
          tall = sym (length-map ts (block M s n)) ∙ ap length (sym lifted.1) ∙ sq.tall;
          c_tall = length_units R n 0 n;
          red = start R n ts;
        }

    module _ (rows : List (List ℕ)) (k : ℕ) (W C : List (List ℕ)) (g : Reducing rows k W C) where
      w_tall : length g.w_t ≡ n
      w_tall = tall R n g.rows_t k g.w_t g.c_t g.red g.tall

      w_row : k < n → get_or W k [] ≡ block M s n (get_or g.w_t k (none O n))
      w_row h = ap (λ z. get_or z k []) g.w_are ∙ rows_block g.w_t k (subst (λ m. k < m) (sym w_tall) h)

      pub reducing_block : k < n → IsBlock M n (get_or W k [])
      reducing_block h = subst (IsBlock M n) (sym (w_row h)) (vector_block (get_or g.w_t k (none O n)))

      -- the place j is added to the place k
      pub led : (j : ℕ) → k < j → j < n
          → Reducing rows k (map (shear_row N M.one j (basis N n k)) W) (map (shear_row N M.one j (basis N n k)) C)
      unfolding code_ops
      led j from less =
          let one : Code M = O.one in
          let q = unit_at O n k in
          let unit : O.mul (growth R n one j q less) one ≡ one
          = R.mul_one (growth R n one j q less) ∙ ap (λ z. O.add one (O.mul one z)) (unit_other O n k j (λ e. omega arith)) ∙ ap (O.add one) (mul_nil R one) ∙ R.add_nil one in
          let E : List ℕ → List ℕ = shear_row N M.one j (basis N n k) in
          let step : (ts : List Vec) → map E (map (block M s n) ts) ≡ map (block M s n) (map (shear O n one j q) ts)
          = λ ts. ap (λ z. map (shear_row N M.one j z) (map (block M s n) ts)) (block_unit M s n k) ∙ shears_are one j q ts in
          record {
            rows_t = g.rows_t;
            w_t = map (shear O n one j q) g.w_t;
            c_t = map (shear O n one j q) g.c_t;
            rows_are = g.rows_are;
            w_are = ap (map E) g.w_are ∙ step g.w_t;
            c_are = ap (map E) g.c_are ∙ step g.c_t;
            tall = g.tall;
            c_tall = length-map g.c_t (shear O n one j q) ∙ g.c_tall;
            red = sheared R n g.rows_t k g.w_t g.c_t g.red one one j q less (omega arith) unit;
          }

      -- the row k becomes a unit
      pub cleared : (inverse : ℕ) → IsCode M inverse → k < n → M.product (get_or (get_or W k []) k 0) inverse ≡ M.one
          → Reducing rows (suc k) (map (shear_row N inverse k (plus N (get_or W k []) (basis N n k))) W) (map (shear_row N inverse k (plus N (get_or W k []) (basis N n k))) C)
      unfolding code_ops
      cleared inverse code less unit =
          let w = get_or g.w_t k (none O n) in
          let c : Code M = (inverse, code) in
          let q = add O n w (unit_at O n k) in
          let Q = plus N (get_or W k []) (basis N n k) in
          let q-is : Q ≡ block M s n q = ap₂ (plus N) (w_row less) (block_unit M s n k) ∙ block_add M s n w (unit_at O n k) in
          let step : (ts : List Vec) → map (shear_row N inverse k Q) (map (block M s n) ts) ≡ map (block M s n) (map (shear O n c k q) ts)
          = λ ts. ap (λ z. map (shear_row N inverse k z) (map (block M s n) ts)) q-is ∙ shears_are c k q ts in
          record {
            rows_t = g.rows_t;
            w_t = map (shear O n c k q) g.w_t;
            c_t = map (shear O n c k q) g.c_t;
            rows_are = g.rows_are;
            w_are = ap (map (shear_row N inverse k Q)) g.w_are ∙ step g.w_t;
            c_are = ap (map (shear_row N inverse k Q)) g.c_are ∙ step g.c_t;
            tall = g.tall;
            c_tall = length-map g.c_t (shear O n c k q) ∙ g.c_tall;
            red = pivoted R n g.rows_t k g.w_t g.c_t g.red c less
                (same M _ _ (ap (λ z. M.product z inverse) (sym (ap (λ z. get_or z k 0) (w_row less) ∙ row_at w k)) ∙ unit));
          }

      -- ---- what elimination ends with

      pub inverse_square : Square M n C
      inverse_square = record {
        tall = ap length g.c_are ∙ length-map g.c_t (block M s n) ∙ g.c_tall;
        each = λ i h.
            subst (IsBlock M n) (sym (ap (λ z. get_or z i []) g.c_are ∙ rows_block g.c_t i (subst (λ m. i < m) (sym g.c_tall) h))) (vector_block (get_or g.c_t i (none O n)));
      }

      -- the map with constants c, on tuples
      s_is : (c x : Vec) → affine M (block M s n c) rows (block M s n x) ≡ block M s n (add O n (total O n g.rows_t x.0) c)
      s_is c x = ap (λ z. affine M (block M s n c) z (block M s n x)) g.rows_are ∙ image_is c g.rows_t x

      -- and what undoes it
      t_is : (c y : Vec) → affine M (linear M n C (block M s n c)) C (block M s n y) ≡ block M s n (add O n (total O n g.c_t y.0) (total O n g.c_t c.0))
      t_is c y =
          ap (λ z. affine M (linear M n z (block M s n c)) z (block M s n y)) g.c_are
          ∙ ap (λ z. affine M z (map (block M s n) g.c_t) (block M s n y)) (linear_is g.c_t c) ∙ image_is (total O n g.c_t c.0) g.c_t y

      -- all rows are done: the map has an inverse
      pub inverted : (constants : List ℕ) → IsBlock M n constants → n ≤ k → Inverts M n (affine M constants rows) (affine M (linear M n C constants) C)
      inverted constants h all =
          by_tuple M n (λ c. Inverts M n (affine M c rows) (affine M (linear M n C c) C)) (λ t e. with_tuple (t, e)) constants h
        where
          At : List Vec
          At = g.rows_t

          Ct : List Vec
          Ct = g.c_t

          plus_self : (x y : Vec) → add O n (add O n x y) y ≡ x
          plus_self x y = add_group R n x y y ∙ ap (add O n x) (add_self R n y) ∙ add_none R n x

          adds : (ts : List Vec) (x y : Vec) → total O n ts (add O n x y).0 ≡ add O n (total O n ts x.0) (total O n ts y.0)
          adds ts x y = total_adds R n ts x.0 y.0 (x.1 ∙ sym y.1)

          left : (x : Vec) → total O n Ct (total O n At x.0).0 ≡ x
          left x = left_inverse R n At k g.w_t Ct g.red all g.tall x

          right : (y : Vec) → total O n At (total O n Ct y.0).0 ≡ y
          right y = right_inverse R n At k g.w_t Ct g.red all g.tall y

          with_tuple : (c : Vec) → Inverts M n (affine M (block M s n c) rows) (affine M (linear M n C (block M s n c)) C)
          with_tuple c = record {
            leads = by_tuple M n (λ y. IsBlock M n (affine M (linear M n C (block M s n c)) C y))
                (λ t e. subst (IsBlock M n) (sym (t_is c (t, e))) (vector_block (add O n (total O n Ct t) (total O n Ct c.0))));
            after = by_tuple M n (λ x. affine M (linear M n C (block M s n c)) C (affine M (block M s n c) rows x) ≡ x)
                (λ t e.
                let x : Vec = (t, e) in
                let y = add O n (total O n At t) c in
                ap (affine M (linear M n C (block M s n c)) C) (s_is c x) ∙ t_is c y
                ∙ ap (block M s n) (ap (λ z. add O n z (total O n Ct c.0)) (adds Ct (total O n At t) c) ∙ plus_self (total O n Ct (total O n At t).0) (total O n Ct c.0) ∙ left x));
            before = by_tuple M n (λ y. affine M (block M s n c) rows (affine M (linear M n C (block M s n c)) C y) ≡ y)
                (λ t e.
                let y : Vec = (t, e) in
                let x = add O n (total O n Ct t) (total O n Ct c.0) in
                ap (affine M (block M s n c) rows) (t_is c y) ∙ s_is c x
                ∙ ap (block M s n) (ap (λ z. add O n z c) (adds At (total O n Ct t) (total O n Ct c.0) ∙ ap₂ (add O n) (right y) (right c)) ∙ plus_self y c));
          }

      -- a row has no pivot: two blocks have one image
      pub stuck : (constants : List ℕ) → IsBlock M n constants → k < n → ((j : ℕ) → k ≤ j → j < n → get_or (get_or W k []) j 0 ≡ 0)
          → OneToOne M n (affine M constants rows) → ⊥
      unfolding code_ops
      stuck constants h less no-pivot =
          by_tuple M n (λ c. OneToOne M n (affine M c rows) → ⊥) (λ t e. with_tuple (t, e)) constants h
        where
          no_place : (j : ℕ) → k ≤ j → j < n → place O n j (get_or g.w_t k (none O n)) ≡ O.nil
          no_place j from below = same M _ _ (sym (ap (λ z. get_or z j 0) (w_row less) ∙ row_at (get_or g.w_t k (none O n)) j) ∙ no-pivot j from below)

          x : Vec
          x = kernel R n g.rows_t k g.w_t g.c_t g.red less g.tall no_place

          with_tuple : (c : Vec) → OneToOne M n (affine M (block M s n c) rows) → ⊥
          with_tuple c one_to_one =
              let sent : total O n g.rows_t x.0 ≡ none O n = kernel_none R n g.rows_t k g.w_t g.c_t g.red less g.tall no_place in
              kernel_some R n g.rows_t k g.w_t g.c_t g.red less g.tall no_place (λ e. L.one_not_zero (ap (λ (z : Code M). z.0) e))
              (same_vector M s n x (none O n)
              (one_to_one (block M s n x) (block M s n (none O n)) (vector_block x) (vector_block (none O n))
              (s_is c x ∙ ap (λ z. block M s n (add O n z c)) (sent ∙ sym (total_none R n g.rows_t)) ∙ sym (s_is c (none O n)))))
