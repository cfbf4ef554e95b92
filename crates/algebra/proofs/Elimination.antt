-- Elimination by linear maps of the rows: it ends with an inverse from both sides, or with a tuple that is not zero and is sent to zero.
-- Assumes nothing.
use Rattle.std.proofs.Common.{◌≡◌, ℕ, zero, suc, ◌+◌, ◌<◌, ◌≤◌, ◌⊎◌, List, [], ◌∷◌, map, length, get_or, set, sym, refl, ap, ◌∙◌, subst, ap₂, inl, inr, ⊎_elim, le_of_suc-le-suc, not-suc-le-zero, add-zero, add-suc, suc-add, zero-add, arith}
use lib.ListN.{length-map, get_or-eq_default}
use Rattle.std.proofs.lemmas.Bool.{cases_eq, cases_lt}
use Rattle.algebra.specs.Operations.{Ops, Ring2}
use Rattle.algebra.specs.Tuples.{zeros}
use Rattle.algebra.specs.Linear.{basis}
use Rattle.algebra.proofs.Rings.{nil_add, add_twice, mul_nil, mul_exchange, mul_left_comm, add_mul}
use Rattle.algebra.proofs.Quotient.{Tuple}
use Rattle.algebra.proofs.Polynomials.{same_list}
use Rattle.algebra.proofs.Vectors.{none, add, times_by, place, total, Linear, unit_at, units_from, none_at, unit_same, unit_other, add_at, times_at, add_sym, add_none, none_add, add_self, add_again, add_swap, times_add, sum_times, times_times_by, one_by, nil_by, total_adds, total_scales, linear_none, linear_total, total_agree, total_units}

-- the tuple r plus its element at place j, times c, times q
unfoldable pub shear : {A : Type 0} (O : Ops A) (v : ℕ) → A → ℕ → Tuple A v → Tuple A v → Tuple A v
shear O v c j q r = add O v (times_by O v (O.mul c (place O v j r)) q) r

-- k rows are done: each row of W is what C makes of that row of A, C can be undone from both sides, and the first k rows of W are units
pub record Reduced {A : Type 0} (O : Ops A) (v : ℕ) (rows-of-A : List (Tuple A v)) (k : ℕ) (W C : List (Tuple A v)) : Type 0 where
  pub rows : W ≡ map (λ (x : Tuple A v). total O v C x.0) rows-of-A
  pub back : Tuple A v → Tuple A v
  pub after : (y : Tuple A v) → back (total O v C y.0) ≡ y
  pub before : (y : Tuple A v) → total O v C (back y).0 ≡ y
  pub units : (i : ℕ) → i < k → get_or W i (none O v) ≡ unit_at O v i

module _ {A : Type 0} {O : Ops A} (R : Ring2 O) (v : ℕ) where
  abbrev Vec : Type 0
  Vec = Tuple A v

  -- ---- one shear

  module _ (c : A) (j : ℕ) (q : Vec) (less : j < v) where
    shear_linear : Linear O v (shear O v c j q)
    unfolding shear
    shear_linear = record {
      adds = λ x y.
          ap (λ z. add O v (times_by O v z q) (add O v x y))
          (ap (O.mul c) (add_at O v j x y less) ∙ R.mul_add c (place O v j x) (place O v j y))
          ∙ ap (λ z. add O v z (add O v x y)) (sum_times R v (O.mul c (place O v j x)) (O.mul c (place O v j y)) q)
          ∙ add_swap R v (times_by O v (O.mul c (place O v j x)) q) (times_by O v (O.mul c (place O v j y)) q) x y;
      scales = λ s x.
          ap (λ z. add O v (times_by O v z q) (times_by O v s x)) (ap (O.mul c) (times_at O v j s x less) ∙ mul_left_comm R c s (place O v j x))
          ∙ ap (λ z. add O v z (times_by O v s x)) (times_times_by R v s (O.mul c (place O v j x)) q)
          ∙ sym (times_add R v s (times_by O v (O.mul c (place O v j x)) q) x);
    }

    -- how much the place itself grows
    abbrev pub growth : A
    growth = O.add O.one (O.mul c (place O v j q))

    grown : (r : Vec) → place O v j (shear O v c j q r) ≡ O.mul (place O v j r) growth
    unfolding shear
    grown r =
        let x = place O v j r in
        let p = place O v j q in
        add_at O v j (times_by O v (O.mul c x) q) r less
        ∙ ap (λ z. O.add z x) (times_at O v j (O.mul c x) q less ∙ ap (λ z. O.mul z p) (R.mul_comm c x) ∙ R.mul_assoc x c p)
        ∙ R.add_comm (O.mul x (O.mul c p)) x ∙ ap (λ z. O.add z (O.mul x (O.mul c p))) (sym (R.mul_one x))
        ∙ sym (R.mul_add x O.one (O.mul c p))

    shear_undo : (w : A) → O.mul growth w ≡ O.one → (r : Vec) → shear O v (O.mul c w) j q (shear O v c j q r) ≡ r
    unfolding shear
    shear_undo w unit r =
        let x = place O v j r in
        let y = shear O v c j q r in
        ap (λ z. add O v (times_by O v z q) y)
        (ap (O.mul (O.mul c w)) (grown r) ∙ mul_exchange R c w x growth ∙ ap (O.mul (O.mul c x)) (R.mul_comm w growth ∙ unit) ∙ R.mul_one (O.mul c x))
        ∙ add_again R v (times_by O v (O.mul c x) q) r

    -- a tuple with zero at the place stays
    shear_stays : (r : Vec) → place O v j r ≡ O.nil → shear O v c j q r ≡ r
    unfolding shear
    shear_stays r e = ap (λ z. add O v (times_by O v z q) r) (ap (O.mul c) e ∙ mul_nil R c) ∙ ap (λ z. add O v z r) (nil_by R v q) ∙ none_add R v r

  -- and it undoes what undoes it
  shear_redo : (c w : A) (j : ℕ) (q : Vec) (less : j < v) → O.mul (growth c j q less) w ≡ O.one
      → (r : Vec) → shear O v c j q (shear O v (O.mul c w) j q r) ≡ r
  shear_redo c w j q less unit r =
      let u = growth c j q less in
      let p = place O v j q in
      let back : O.mul (O.mul c w) u ≡ c = R.mul_assoc c w u ∙ ap (O.mul c) (R.mul_comm w u ∙ unit) ∙ R.mul_one c in
      let inverse : O.mul (growth (O.mul c w) j q less) u ≡ O.one
      = add_mul R O.one (O.mul (O.mul c w) p) u
      ∙ ap₂ O.add (R.mul_comm O.one u ∙ R.mul_one u)
      (R.mul_assoc (O.mul c w) p u ∙ ap (O.mul (O.mul c w)) (R.mul_comm p u) ∙ sym (R.mul_assoc (O.mul c w) u p) ∙ ap (λ z. O.mul z p) back)
      ∙ R.add_assoc O.one (O.mul c p) (O.mul c p) ∙ ap (O.add O.one) (R.add_self (O.mul c p)) ∙ R.add_nil O.one in
      ap (λ z. shear O v z j q (shear O v (O.mul c w) j q r)) (sym back) ∙ shear_undo (O.mul c w) j q less u inverse r

  -- ---- lists of rows

  map_at : (E : Vec → Vec) → E (none O v) ≡ none O v → (W : List Vec) (i : ℕ) → get_or (map E W) i (none O v) ≡ E (get_or W i (none O v))
  map_at E e [] i = sym e
  map_at E e (w ∷ W) zero = refl
  map_at E e (w ∷ W) (suc i) = map_at E e W i

  map_map : (f g h : Vec → Vec) → ((x : Vec) → f (g x) ≡ h x) → (W : List Vec) → map f (map g W) ≡ map h W
  map_map f g h e [] = refl
  map_map f g h e (w ∷ W) = ap₂ ◌∷◌ (e w) (map_map f g h e W)

  map_same : (f : Vec → Vec) → ((x : Vec) → f x ≡ x) → (W : List Vec) → W ≡ map f W
  map_same f e [] = refl
  map_same f e (w ∷ W) = ap₂ ◌∷◌ (sym (e w)) (map_same f e W)

  past : (W : List Vec) (i : ℕ) → length W ≤ i → get_or W i (none O v) ≡ none O v
  past W i h = get_or-eq_default W (none O v) h

  pub length_units : (i n : ℕ) → length (units_from O v i n) ≡ n
  unfolding units_from
  length_units i zero = refl
  length_units i (suc n) = ap suc (length_units (suc i) n)

  units_at : (i n j : ℕ) → j < n → get_or (units_from O v i n) j (none O v) ≡ unit_at O v (i + j)
  unfolding units_from
  units_at i zero j h = absurd (not-suc-le-zero h)
  units_at i (suc n) zero h = ap (unit_at O v) (sym (add-zero i))
  units_at i (suc n) (suc j) h = units_at (suc i) n j (le_of_suc-le-suc h) ∙ ap (unit_at O v) (suc-add i j ∙ sym (add-suc i j))

  -- the total by a unit is the row at its place
  total_unit : (W : List Vec) (k : ℕ) → k < v → total O v W (unit_at O v k).0 ≡ get_or W k (none O v)
  unfolding basis total zeros
  total_unit W k less = by W k v less
    where
      zeros_total : (W : List Vec) (n : ℕ) → total O v W (zeros O n) ≡ none O v
      zeros_total [] n = refl
      zeros_total (w ∷ W) zero = refl
      zeros_total (w ∷ W) (suc n) = ap₂ (add O v) (nil_by R v w) (zeros_total W n) ∙ add_none R v (none O v)

      by : (W : List Vec) (k n : ℕ) → k < n → total O v W (set (zeros O n) k O.one) ≡ get_or W k (none O v)
      by [] k n h = refl
      by (w ∷ W) k zero h = absurd (not-suc-le-zero h)
      by (w ∷ W) zero (suc n) h = ap₂ (add O v) (one_by R v w) (zeros_total W n) ∙ add_none R v w
      by (w ∷ W) (suc k) (suc n) h = ap₂ (add O v) (nil_by R v w) (by W k n (le_of_suc-le-suc h)) ∙ none_add R v (get_or W k (none O v))

  -- ---- the steps

  module _ (rows-of-A : List Vec) where
    pub start : Reduced O v rows-of-A 0 rows-of-A (units_from O v 0 v)
    start = record {
      rows = map_same (λ x. total O v (units_from O v 0 v) x.0) (total_units R v) rows-of-A;
      back = λ y. y;
      after = total_units R v;
      before = total_units R v;
      units = λ i h. absurd (not-suc-le-zero h);
    }

    module _ (k : ℕ) (W C : List Vec) (red : Reduced O v rows-of-A k W C) where
      pub sheared : (c w : A) (j : ℕ) (q : Vec) (less : j < v) → k ≤ j → O.mul (growth c j q less) w ≡ O.one
          → Reduced O v rows-of-A k (map (shear O v c j q) W) (map (shear O v c j q) C)
      sheared c w j q less from unit =
          let E = shear O v c j q in
          let D = shear O v (O.mul c w) j q in
          let L = shear_linear c j q less in
          record {
            rows = ap (map E) red.rows ∙ map_map E (λ x. total O v C x.0) (λ x. total O v (map E C) x.0) (λ x. linear_total R v E L C x.0) rows-of-A;
            back = λ y. red.back (D y);
            after = λ y. ap (λ z. red.back (D z)) (sym (linear_total R v E L C y.0)) ∙ ap red.back (shear_undo c j q less w unit (total O v C y.0)) ∙ red.after y;
            before = λ y. sym (linear_total R v E L C (red.back (D y)).0) ∙ ap E (red.before (D y)) ∙ shear_redo c w j q less unit y;
            units = λ i h.
                map_at E (linear_none R v E L) W i ∙ ap E (red.units i h) ∙ shear_stays c j q less (unit_at O v i) (unit_other O v i j (λ e. omega arith));
          }

      -- with the pivot's own row: that row becomes a unit
      pub pivoted : (inverse : A) → (less : k < v) → O.mul (place O v k (get_or W k (none O v))) inverse ≡ O.one
          → let q = add O v (get_or W k (none O v)) (unit_at O v k) in
          Reduced O v rows-of-A (suc k) (map (shear O v inverse k q) W) (map (shear O v inverse k q) C)
      unfolding shear
      pivoted inverse less unit =
          let w = get_or W k (none O v) in
          let p = place O v k w in
          let q = add O v w (unit_at O v k) in
          let E = shear O v inverse k q in
          let one_left : O.mul inverse p ≡ O.one = R.mul_comm inverse p ∙ unit in
          let is : growth inverse k q less ≡ inverse
          = ap (λ z. O.add O.one (O.mul inverse z)) (add_at O v k w (unit_at O v k) less ∙ ap (O.add p) (unit_same O v k less))
          ∙ ap (O.add O.one) (R.mul_add inverse p O.one ∙ ap₂ O.add one_left (R.mul_one inverse)) ∙ add_twice R O.one inverse in
          let s : Reduced O v rows-of-A k (map E W) (map E C) = sheared inverse p k q less (omega arith) (ap (λ z. O.mul z p) is ∙ one_left) in
          let here : get_or (map E W) k (none O v) ≡ unit_at O v k
          = map_at E (linear_none R v E (shear_linear inverse k q less)) W k ∙ on_row w inverse one_left in
          record {
            rows = s.rows;
            back = s.back;
            after = s.after;
            before = s.before;
            units = λ i h. ⊎_elim (λ (e : i ≡ k). ap (λ n. get_or (map E W) n (none O v)) e ∙ here ∙ ap (unit_at O v) (sym e)) (λ other. s.units i (omega (arith, other))) (cases_eq i k);
          }
        where
          on_row : (w : Vec) (inverse : A) → O.mul inverse (place O v k w) ≡ O.one → shear O v inverse k (add O v w (unit_at O v k)) w ≡ unit_at O v k
          on_row w inverse one_left =
              ap (λ z. add O v (times_by O v z (add O v w (unit_at O v k))) w) one_left ∙ ap (λ z. add O v z w) (one_by R v (add O v w (unit_at O v k)))
              ∙ add_sym R v (add O v w (unit_at O v k)) w ∙ add_again R v w (unit_at O v k)

      -- ---- what C makes of a total

      c_linear : Linear O v (λ x. total O v C x.0)
      c_linear = record {
        adds = λ x y. total_adds R v C x.0 y.0 (x.1 ∙ sym y.1);
        scales = λ t x. total_scales R v C t x.0;
      }

      through : (x : List A) → total O v C (total O v rows-of-A x).0 ≡ total O v W x
      through x = linear_total R v (λ y. total O v C y.0) c_linear rows-of-A x ∙ ap (λ z. total O v z x) (sym red.rows)

      same_image : (x y : Vec) → total O v C x.0 ≡ total O v C y.0 → x ≡ y
      same_image x y e = sym (red.after x) ∙ ap red.back e ∙ red.after y

      pub tall : length rows-of-A ≡ v → length W ≡ v
      tall h = ap length red.rows ∙ length-map rows-of-A (λ (x : Vec). total O v C x.0) ∙ h

      -- all rows are done: C undoes A from both sides
      module _ (all : v ≤ k) (h : length rows-of-A ≡ v) where
        all_units : W ≡ units_from O v 0 v
        all_units =
            same_list (none O v) W (units_from O v 0 v) (tall h ∙ sym (length_units 0 v))
            (λ i. ⊎_elim
            (λ (less : i < v). red.units i (omega arith) ∙ sym (units_at 0 v i less ∙ ap (unit_at O v) (zero-add i)))
            (λ (beyond : v ≤ i). past W i (subst (λ n. n ≤ i) (sym (tall h)) beyond) ∙ sym (past (units_from O v 0 v) i (subst (λ n. n ≤ i) (sym (length_units 0 v)) beyond)))
            (cases_lt i v))

        pub left_inverse : (x : Vec) → total O v C (total O v rows-of-A x.0).0 ≡ x
        left_inverse x = through x.0 ∙ ap (λ z. total O v z x.0) all_units ∙ total_units R v x

        pub right_inverse : (y : Vec) → total O v rows-of-A (total O v C y.0).0 ≡ y
        right_inverse y = same_image (total O v rows-of-A (total O v C y.0).0) y (left_inverse (total O v C y.0))

      -- a row has no pivot: some tuple but zero is sent to zero
      module _ (less : k < v) (h : length rows-of-A ≡ v) (no-pivot : (j : ℕ) → k ≤ j → j < v → place O v j (get_or W k (none O v)) ≡ O.nil) where
        pub kernel : Vec
        kernel = add O v (get_or W k (none O v)) (unit_at O v k)

        pub kernel_none : total O v rows-of-A kernel.0 ≡ none O v
        unfolding kernel
        kernel_none =
            let w = get_or W k (none O v) in
            let combined : total O v W w.0 ≡ w
            = total_agree R v W (units_from O v 0 v) w.0 (tall h ∙ sym (length_units 0 v)) by_place ∙ total_units R v w in
            let zero-image : total O v W kernel.0 ≡ none O v
            = total_adds R v W w.0 (unit_at O v k).0 (w.1 ∙ sym (unit_at O v k).1)
            ∙ ap₂ (add O v) combined (total_unit W k less) ∙ add_self R v w in
            same_image (total O v rows-of-A kernel.0) (none O v) (through kernel.0 ∙ zero-image ∙ sym (linear_none R v (λ x. total O v C x.0) c_linear))
          where
            by_place : (i : ℕ) → i < length (get_or W k (none O v)).0 → (get_or W i (none O v) ≡ get_or (units_from O v 0 v) i (none O v)) ⊎ (place O v i (get_or W k (none O v)) ≡ O.nil)
            by_place i inside =
                let here : i < v = subst (λ n. i < n) (get_or W k (none O v)).1 inside in
                ⊎_elim (λ (low : i < k). inl (red.units i low ∙ sym (units_at 0 v i here ∙ ap (unit_at O v) (zero-add i)))) (λ (high : k ≤ i). inr (no-pivot i high here)) (cases_lt i k)

        pub kernel_some : (O.one ≡ O.nil → ⊥) → kernel ≡ none O v → ⊥
        unfolding kernel
        kernel_some apart e =
            let w = get_or W k (none O v) in
            apart
            (sym (nil_add R O.one) ∙ ap₂ O.add (sym (no-pivot k (omega arith) less)) (sym (unit_same O v k less)) ∙ sym (add_at O v k w (unit_at O v k) less)
            ∙ ap (place O v k) e ∙ none_at O v k)
