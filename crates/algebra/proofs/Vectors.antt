-- Tuples of one length over a ring, their sums with factors, and linear maps.
-- Assumes nothing.
use Rattle.std.proofs.Common.{◌≡◌, ℕ, zero, suc, ◌+◌, ◌<◌, ◌≤◌, ◌⊎◌, List, [], ◌∷◌, map, length, get_or, sym, refl, ap, ◌∙◌, subst, ap₂, inl, inr, ⊎_elim, suc-le-suc, le_of_suc-le-suc, not-suc-le-zero, add-zero, add-suc, suc-add, zero-add, suc-ne-zero, arith, length-set, get_or-set_other, get_or-set_same}
use native.Mathlib.Nat.{suc_inj}
use lib.ListN.{get_or-eq_default}
use Rattle.std.proofs.lemmas.Bool.{cases_lt}
use Rattle.algebra.specs.Operations.{Ops, Ring2}
use Rattle.algebra.specs.Tuples.{plus, scale, zeros}
use Rattle.algebra.specs.Linear.{basis}
use Rattle.algebra.proofs.Rings.{Sums, sums_of, mul_nil, nil_add}
use Rattle.algebra.proofs.Quotient.{Tuple, same_tuple}
use Rattle.algebra.proofs.Entries.{plus_at, scale_at}
use Rattle.algebra.proofs.Tuples.{length_zeros, length_plus, length_scale, sum_comm, sum_assoc, sum_zeros, sum_self, plus_exchange, scale_plus, scale_add, scale_mul, scale_nil, scale_one, scale_zeros}
use Rattle.algebra.proofs.Polynomials.{same_list}

module _ {A : Type 0} (O : Ops A) (v : ℕ) where
  -- zero, sums and multiples
  abbrev pub none : Tuple A v
  none = (zeros O v, length_zeros O v)

  abbrev pub add : Tuple A v → Tuple A v → Tuple A v
  add x y = (plus O x.0 y.0, length_plus O x.0 y.0 (x.1 ∙ sym y.1) ∙ y.1)

  abbrev pub times_by : A → Tuple A v → Tuple A v
  times_by s x = (scale O s x.0, length_scale O s x.0 ∙ x.1)

  -- the element at a place
  abbrev pub place : ℕ → Tuple A v → A
  place i x = get_or x.0 i O.nil

  -- the tuples' sum, each times its factor
  unfoldable pub total : List (Tuple A v) → List A → Tuple A v
  total [] a = none
  total (t ∷ ts) [] = none
  total (t ∷ ts) (x ∷ a) = add (times_by x t) (total ts a)

  -- that sum and a tuple c
  unfoldable pub total_from : Tuple A v → List (Tuple A v) → List A → Tuple A v
  total_from c [] a = c
  total_from c (t ∷ ts) [] = c
  total_from c (t ∷ ts) (x ∷ a) = add (times_by x t) (total_from c ts a)

  -- a linear map
  pub record Linear (E : Tuple A v → Tuple A v) : Type 0 where
    pub adds : (x y : Tuple A v) → E (add x y) ≡ add (E x) (E y)
    pub scales : (s : A) (x : Tuple A v) → E (times_by s x) ≡ times_by s (E x)

  pub length_basis : (i : ℕ) → length (basis O v i) ≡ v
  unfolding basis
  length_basis i = length-set (zeros O v) i O.one ∙ length_zeros O v

  -- one at place i, and zeros elsewhere
  abbrev pub unit_at : ℕ → Tuple A v
  unit_at i = (basis O v i, length_basis i)

  unfoldable pub units_from : ℕ → ℕ → List (Tuple A v)
  units_from i zero = []
  units_from i (suc n) = unit_at i ∷ units_from (suc i) n

  -- ---- places

  zeros_at : (n i : ℕ) → get_or (zeros O n) i O.nil ≡ O.nil
  unfolding zeros
  zeros_at zero i = refl
  zeros_at (suc n) zero = refl
  zeros_at (suc n) (suc i) = zeros_at n i

  pub none_at : (i : ℕ) → place i none ≡ O.nil
  none_at i = zeros_at v i

  pub unit_same : (i : ℕ) → i < v → place i (unit_at i) ≡ O.one
  unfolding basis
  unit_same i h = get_or-set_same (zeros O v) i O.one O.nil (subst (λ n. i < n) (sym (length_zeros O v)) h)

  pub unit_other : (i j : ℕ) → (j ≡ i → ⊥) → place j (unit_at i) ≡ O.nil
  unfolding basis
  unit_other i j other = get_or-set_other (zeros O v) i j O.one O.nil other ∙ zeros_at v j

  pub add_at : (i : ℕ) (x y : Tuple A v) → i < v → place i (add x y) ≡ O.add (place i x) (place i y)
  add_at i x y h = plus_at O x.0 y.0 i O.nil (subst (λ n. i < n) (sym x.1) h) (subst (λ n. i < n) (sym y.1) h)

  pub times_at : (i : ℕ) (s : A) (x : Tuple A v) → i < v → place i (times_by s x) ≡ O.mul s (place i x)
  times_at i s x h = scale_at O s x.0 i O.nil (subst (λ n. i < n) (sym x.1) h)

  -- tuples that agree at every place are one
  pub same_places : (x y : Tuple A v) → ((i : ℕ) → i < v → place i x ≡ place i y) → x ≡ y
  same_places x y each =
      same_tuple _ _
      (same_list O.nil x.0 y.0 (x.1 ∙ sym y.1)
      (λ i. ⊎_elim (each i)
      (λ (beyond : v ≤ i). get_or-eq_default x.0 O.nil (subst (λ n. n ≤ i) (sym x.1) beyond) ∙ sym (get_or-eq_default y.0 O.nil (subst (λ n. n ≤ i) (sym y.1) beyond)))
      (cases_lt i v)))

-- ---- over a ring

module _ {A : Type 0} {O : Ops A} (R : Ring2 O) (v : ℕ) where
  abbrev Vec : Type 0
  Vec = Tuple A v

  S : Sums O
  S = sums_of R

  pub add_sym : (x y : Vec) → add O v x y ≡ add O v y x
  add_sym x y = same_tuple _ _ (sum_comm S x.0 y.0)

  pub add_group : (x y z : Vec) → add O v (add O v x y) z ≡ add O v x (add O v y z)
  add_group x y z = same_tuple _ _ (sum_assoc S x.0 y.0 z.0)

  pub add_none : (x : Vec) → add O v x (none O v) ≡ x
  add_none x = same_tuple _ _ (sum_zeros S x.0 v x.1)

  pub none_add : (x : Vec) → add O v (none O v) x ≡ x
  none_add x = add_sym (none O v) x ∙ add_none x

  pub add_self : (x : Vec) → add O v x x ≡ none O v
  add_self x = same_tuple _ _ (sum_self S x.0 ∙ ap (zeros O) x.1)

  -- what is added twice goes away
  pub add_again : (x y : Vec) → add O v x (add O v x y) ≡ y
  add_again x y = sym (add_group x x y) ∙ ap (λ z. add O v z y) (add_self x) ∙ none_add y

  pub add_swap : (w x y z : Vec) → add O v (add O v w x) (add O v y z) ≡ add O v (add O v w y) (add O v x z)
  add_swap w x y z = same_tuple _ _ (plus_exchange R w.0 x.0 y.0 z.0)

  pub times_add : (s : A) (x y : Vec) → times_by O v s (add O v x y) ≡ add O v (times_by O v s x) (times_by O v s y)
  times_add s x y = same_tuple _ _ (scale_plus R s x.0 y.0)

  pub sum_times : (s t : A) (x : Vec) → times_by O v (O.add s t) x ≡ add O v (times_by O v s x) (times_by O v t x)
  sum_times s t x = same_tuple _ _ (scale_add R s t x.0)

  pub times_times_by : (s t : A) (x : Vec) → times_by O v (O.mul s t) x ≡ times_by O v s (times_by O v t x)
  times_times_by s t x = same_tuple _ _ (scale_mul R s t x.0)

  pub one_by : (x : Vec) → times_by O v O.one x ≡ x
  one_by x = same_tuple _ _ (scale_one R x.0)

  pub nil_by : (x : Vec) → times_by O v O.nil x ≡ none O v
  nil_by x = same_tuple _ _ (scale_nil R x.0 ∙ ap (zeros O) x.1)

  by_none : (s : A) → times_by O v s (none O v) ≡ none O v
  by_none s = same_tuple _ _ (scale_zeros R s v)

  -- ---- totals

  pub total_adds : (C : List Vec) (x y : List A) → length x ≡ length y → total O v C (plus O x y) ≡ add O v (total O v C x) (total O v C y)
  unfolding total plus
  total_adds [] x y h = sym (add_none (none O v))
  total_adds (c ∷ C) [] [] h = sym (add_none (none O v))
  total_adds (c ∷ C) [] (y ∷ ys) h = absurd (suc-ne-zero (length ys) (sym h))
  total_adds (c ∷ C) (x ∷ xs) [] h = absurd (suc-ne-zero (length xs) h)
  total_adds (c ∷ C) (x ∷ xs) (y ∷ ys) h =
      ap₂ (add O v) (sum_times x y c) (total_adds C xs ys (suc_inj h)) ∙ add_swap (times_by O v x c) (times_by O v y c) (total O v C xs) (total O v C ys)

  pub total_scales : (C : List Vec) (s : A) (x : List A) → total O v C (scale O s x) ≡ times_by O v s (total O v C x)
  unfolding total scale
  total_scales [] s x = sym (by_none s)
  total_scales (c ∷ C) s [] = sym (by_none s)
  total_scales (c ∷ C) s (x ∷ xs) =
      ap₂ (add O v) (times_times_by s x c) (total_scales C s xs) ∙ sym (times_add s (times_by O v x c) (total O v C xs))

  pub total_none : (C : List Vec) → total O v C (zeros O v) ≡ none O v
  total_none C = ap (total O v C) (sym (scale_zeros R O.nil v)) ∙ total_scales C O.nil (zeros O v) ∙ nil_by (total O v C (zeros O v))

  pub total_from_is : (c : Vec) (ts : List Vec) (a : List A) → total_from O v c ts a ≡ add O v (total O v ts a) c
  unfolding total_from total
  total_from_is c [] a = sym (none_add c)
  total_from_is c (t ∷ ts) [] = sym (none_add c)
  total_from_is c (t ∷ ts) (x ∷ a) = ap (add O v (times_by O v x t)) (total_from_is c ts a) ∙ sym (add_group (times_by O v x t) (total O v ts a) c)

  pub linear_none : (E : Vec → Vec) → Linear O v E → E (none O v) ≡ none O v
  linear_none E L = ap E (sym (nil_by (none O v))) ∙ L.scales O.nil (none O v) ∙ nil_by (E (none O v))

  -- a linear map of a total is the total of what it makes of the tuples
  pub linear_total : (E : Vec → Vec) → Linear O v E → (C : List Vec) (y : List A) → E (total O v C y) ≡ total O v (map E C) y
  unfolding total
  linear_total E L [] y = linear_none E L
  linear_total E L (c ∷ C) [] = linear_none E L
  linear_total E L (c ∷ C) (y ∷ ys) = L.adds (times_by O v y c) (total O v C ys) ∙ ap₂ (add O v) (L.scales y c) (linear_total E L C ys)

  -- totals agree where the tuples do or the factor is zero
  pub total_agree : (C D : List Vec) (y : List A) → length C ≡ length D
      → ((i : ℕ) → i < length y → (get_or C i (none O v) ≡ get_or D i (none O v)) ⊎ (get_or y i O.nil ≡ O.nil)) → total O v C y ≡ total O v D y
  unfolding total
  total_agree [] [] y h each = refl
  total_agree [] (d ∷ D) y h each = absurd (suc-ne-zero (length D) (sym h))
  total_agree (c ∷ C) [] y h each = absurd (suc-ne-zero (length C) h)
  total_agree (c ∷ C) (d ∷ D) [] h each = refl
  total_agree (c ∷ C) (d ∷ D) (y ∷ ys) h each =
      ap₂ (add O v) (first (each 0 (omega arith))) (total_agree C D ys (suc_inj h) (λ i less. each (suc i) (suc-le-suc less)))
    where
      first : (c ≡ d) ⊎ (y ≡ O.nil) → times_by O v y c ≡ times_by O v y d
      first (inl e) = ap (times_by O v y) e
      first (inr e) = ap (λ z. times_by O v z c) e ∙ nil_by c ∙ sym (nil_by d) ∙ ap (λ z. times_by O v z d) (sym e)

  -- ---- a tuple is the total of the units by its elements

  before : (a : List A) (i j : ℕ) → j < i → j < v → place O v j (total O v (units_from O v i (length a)) a) ≡ O.nil
  unfolding total units_from
  before [] i j h less = none_at O v j
  before (x ∷ a) i j h less =
      add_at O v j (times_by O v x (unit_at O v i)) (total O v (units_from O v (suc i) (length a)) a) less
      ∙ ap₂ O.add (times_at O v j x (unit_at O v i) less ∙ ap (O.mul x) (unit_other O v i j (λ e. omega arith)) ∙ mul_nil R x) (before a (suc i) j (omega arith) less)
      ∙ R.add_nil O.nil

  at : (a : List A) (i m : ℕ) → m < length a → i + length a ≤ v → place O v (i + m) (total O v (units_from O v i (length a)) a) ≡ get_or a m O.nil
  unfolding total units_from
  at [] i m h fits = absurd (not-suc-le-zero h)
  at (x ∷ a) i zero h fits =
      let here : i + 0 ≡ i = add-zero i in
      let less : i < v = omega (arith, fits) in
      ap (λ k. place O v k (total O v (units_from O v i (length (x ∷ a))) (x ∷ a))) here
      ∙ add_at O v i (times_by O v x (unit_at O v i)) (total O v (units_from O v (suc i) (length a)) a) less
      ∙ ap₂ O.add (times_at O v i x (unit_at O v i) less ∙ ap (O.mul x) (unit_same O v i less) ∙ R.mul_one x) (before a (suc i) i (omega arith) less)
      ∙ R.add_nil x
  at (x ∷ a) i (suc m) h fits =
      let next : i + suc m ≡ suc i + m = add-suc i m ∙ sym (suc-add i m) in
      let inside : suc i + length a ≤ v = omega (arith, fits) in
      let less : suc i + m < v = omega (arith, inside, h) in
      ap (λ k. place O v k (total O v (units_from O v i (length (x ∷ a))) (x ∷ a))) next
      ∙ add_at O v (suc i + m) (times_by O v x (unit_at O v i)) (total O v (units_from O v (suc i) (length a)) a) less
      ∙ ap₂ O.add (times_at O v (suc i + m) x (unit_at O v i) less ∙ ap (O.mul x) (unit_other O v i (suc i + m) (λ e. omega arith)) ∙ mul_nil R x)
      (at a (suc i) m (le_of_suc-le-suc h) inside)
      ∙ nil_add R (get_or a m O.nil)

  pub total_units : (x : Vec) → total O v (units_from O v 0 v) x.0 ≡ x
  total_units x =
      same_places O v (total O v (units_from O v 0 v) x.0) x
      (λ i less.
      ap (λ n. place O v i (total O v (units_from O v 0 n) x.0)) (sym x.1)
      ∙ ap (λ k. place O v k (total O v (units_from O v 0 (length x.0)) x.0)) (sym (zero-add i))
      ∙ at x.0 0 i (subst (λ n. i < n) (sym x.1) less) (omega (arith, x.1)))
