-- What a power table keeps, against its meaning.
-- Assumes nothing.
use Rattle.std.proofs.Common.{◌≡◌, ℕ, ◌+◌, ◌-◌, ◌%◌, ◌^◌, ◌<◌, ◌≤◌, Bool, true, false, cond, not, ◌&&◌, eqb, ltb, ◌⊎◌, List, Some, None, Option, get_or, sym, refl, ap, ◌∙◌, ap₂, ⊎_elim, mod-lt, mod-eq_of_lt, add-one, arith, length, take, drop, length-drop, pow_pos, pow_mono, slice_range}
use Rattle.std.specs.List.{list_all}
use Rattle.std.specs.Option.{is_some, IfSome}
use Rattle.std.proofs.lemmas.Bool.{and_left, and_right, and_from, cond-true, cond-false, ne_eqb, cases_Bool}
use Rattle.std.proofs.lemmas.Grind.{get_or_after_one}
use Rattle.std.proofs.lemmas.Option.{cond_some}
use lib.Bits.{bit_and}
use Rattle.algebra.specs.Operations.{power}
use Rattle.algebra.specs.Search.{some_below, first_from}
use Rattle.algebra.specs.Meaning.{as_code, low_bits, operations, dead}
use Rattle.algebra.specs.Shift.{in_range, degree, shift}
use Rattle.algebra.specs.PowerTable.{places, entry, logarithm, stands, table_product, full, table_by, power_table}
use Rattle.algebra.proofs.Degree.{inside}
use Rattle.algebra.proofs.Search.{first_same, some_below_same}
use Rattle.algebra.proofs.PowerTable.{entry_lt, found_at}
use Rattle.field.specs.Tables.{kept_log, lowest}
use Rattle.field.specs.declared.polynomial.Polynomial.{Polynomial}
use Rattle.field.specs.declared.residues.Residues.{Residues}
use Rattle.field.proofs.Searches.{all_of_first}
use Rattle.field.proofs.Widths.{range}
use Rattle.field.proofs.Kept.{low_is, width_is as shift-width-is, one_is as shift-one-is}

pub entry_first : (p g : ℕ) → 1 ≡ entry p g 0
unfolding entry power operations
entry_first p g = shift-one-is p

pub one_is : (p g : ℕ) → 1 ≡ (power_table p g).one
unfolding power_table table_by dead
one_is p g = elim (in_range p) as (λ b. 1 ≡ (table_by b p g).one) [ true ↦ refl | false ↦ refl ]

-- a power table on a polynomial is no dead field
pub table_live : (p : Polynomial) (g : ℕ) → power_table p.coefficients g ≡ table_by true p.coefficients g
unfolding power_table
table_live p g = ap (λ b. table_by b p.coefficients g) (inside p.coefficients p.low p.high)

pub width_is : (p : Polynomial) (g : ℕ) → p.width ≡ (power_table p.coefficients g).width
unfolding table_by
width_is p g = p.measured ∙ sym (ap (λ M. M.width) (table_live p g))

module _ (s : Residues) (g : ℕ) where
  abbrev p : ℕ
  p = s.modulus.coefficients

  -- one power more
  pub entry_more : (k x r : ℕ) → x ≡ entry p g k → r ≡ (shift p).product (as_code (shift p) (bit_and g s.mask)) (as_code (shift p) x) → r ≡ entry p g (k + 1)
  unfolding entry power operations as_code low_bits
  entry_more k x r so_far is =
      let w-is : (shift p).width ≡ degree p = sym (shift-width-is s.modulus) ∙ s.modulus.measured in
      let low : bit_and g s.mask % 2 ^ (shift p).width ≡ g % 2 ^ degree p
      = ap₂ (λ z w. z % 2 ^ w) (low_is s g) w-is ∙ mod-eq_of_lt (mod-lt g (pow_pos (degree p))) in
      let own : x % 2 ^ (shift p).width ≡ entry p g k
      = ap₂ (λ z w. z % 2 ^ w) so_far w-is ∙ mod-eq_of_lt (entry_lt p g s.modulus.low s.modulus.high k) in
      is ∙ ap₂ (shift p).product low own ∙ ap (power (operations (shift p)) (g % 2 ^ degree p)) (sym (add-one k))

  pub mask_byte : s.mask < 256
  mask_byte =
      let small : 2 ^ s.modulus.width ≤ 2 ^ 8 = pow_mono (range s.modulus).at_most in
      omega (arith, s.masked)

  places_is : s.mask ≡ places p
  unfolding places
  places_is = s.masked ∙ ap (λ w. 2 ^ w - 1) s.modulus.measured

  -- what is kept is a place
  pub place : (a : ℕ) → IfSome (kept_log p g a) (λ i. i < s.mask)
  unfolding kept_log
  place a = by (kept_log p g a) refl
    where
      by : (o : Option ℕ) → kept_log p g a ≡ o → IfSome o (λ i. i < s.mask)
      by None e = tt
      by (Some i) e =
          let f = cond_some (stands p g a) (logarithm p g a) i e in
          omega (arith, f.1, (found_at p g s.modulus.low s.modulus.high a f.0).0, places_is)

  -- nothing is kept only of what stands nowhere
  missing : (a : ℕ) → kept_log p g a ≡ None → stands p g a ≡ false
  unfolding kept_log
  missing a e = ⊎_elim (λ (t : stands p g a ≡ true). absurd (cc)) (λ f. f) (cases_Bool (stands p g a))

  pub code_is : (a : ℕ) → bit_and a s.mask ≡ as_code (power_table p g) a
  unfolding as_code table_by
  code_is a = low_is s a ∙ sym (ap (λ M. a % 2 ^ M.width) (table_live s.modulus g))

  product_is : (a b : ℕ) → table_product p g a b ≡ (power_table p g).product a b
  unfolding table_by
  product_is a b = sym (ap (λ M. M.product a b) (table_live s.modulus g))

  pub zero_product : (a b : ℕ) → (kept_log p g a ≡ None) ⊎ (kept_log p g b ≡ None) → 0 ≡ (power_table p g).product a b
  unfolding table_product
  zero_product a b either =
      let neither : (stands p g a && stands p g b) ≡ false
      = ⊎_elim (λ e. and_left (stands p g a) (stands p g b) (missing a e)) (λ e. and_right (stands p g a) (stands p g b) (missing b e)) either in
      sym (cond-false (stands p g a && stands p g b) (entry p g ((logarithm p g a + logarithm p g b) % places p)) 0 neither) ∙ product_is a b

  pub entry_product : (a b i j : ℕ) → Some i ≡ kept_log p g a → Some j ≡ kept_log p g b → entry p g ((i + j) % s.mask) ≡ (power_table p g).product a b
  unfolding table_product kept_log
  entry_product a b i j ea eb =
      let fa = cond_some (stands p g a) (logarithm p g a) i (sym ea) in
      let fb = cond_some (stands p g b) (logarithm p g b) j (sym eb) in
      sym (ap₂ (λ n m. entry p g (n % m)) (ap₂ ◌+◌ fa.1 fb.1) (sym places_is))
      ∙ sym (cond-true (stands p g a && stands p g b) (entry p g ((logarithm p g a + logarithm p g b) % places p)) 0 (and_from (stands p g a) (stands p g b) fa.0 fb.0))
      ∙ product_is a b

  -- ---- the table that the code fills

  -- the lowest place among the entries is the logarithm
  module _ (entries : List ℕ) (right : (i : ℕ) → i < s.mask → get_or entries i 0 ≡ entry p g i) where
    same_place : (a : ℕ) → first_from 0 s.mask (λ i. eqb (get_or entries i 0) a) ≡ logarithm p g a
    unfolding logarithm
    same_place a =
        first_same (λ i. eqb (get_or entries i 0) a) (λ i. eqb (entry p g i) a) s.mask 0 (λ i lo hi. ap (λ z. eqb z a) (right i (omega arith)))
        ∙ ap (λ n. first_from 0 n (λ i. eqb (entry p g i) a)) places_is

    pub kept_lowest : (a : ℕ) → 0 < a → lowest entries s.mask a ≡ kept_log p g a
    unfolding lowest kept_log stands
    kept_lowest a pos =
        ap₂ (λ z n. cond (ltb z n) (Some z) None) (same_place a) places_is
        ∙ ap (λ b. cond b (Some (logarithm p g a)) None) (sym (ap (λ t. not t && ltb (logarithm p g a) (places p)) (ne_eqb a 0 (λ e. omega arith))))

  pub kept_zero : None ≡ kept_log p g 0
  unfolding kept_log stands
  kept_zero = refl

  -- the verdict on what is kept is the verdict on the table
  pub verdict : (logs : List (Option ℕ)) → length logs ≡ 256 → ((a : ℕ) → a ≤ s.mask → get_or logs a None ≡ kept_log p g a)
      → list_all is_some (slice_range logs 1 (s.mask + 1)) ≡ full p g
  unfolding full kept_log
  verdict logs size right =
      let rest : List (Option ℕ) = drop 1 logs in
      let long : length rest ≡ 255 = length-drop 1 logs ∙ ap (λ n. n - 1) size in
      let n-is : s.mask + 1 - 1 ≡ s.mask = omega arith in
      ap (λ n. list_all is_some (take n rest)) n-is ∙ all_of_first is_some None rest s.mask (omega (arith, long, mask_byte))
      ∙ ap not
      (some_below_same (λ k. not (is_some (get_or rest k None))) (λ k. not (stands p g (k + 1))) s.mask
      (λ k h. ap not (ap is_some (get_or_after_one logs k None ∙ ap (λ z. get_or logs z None) (omega arith) ∙ right (k + 1) (omega arith)) ∙ is_kept (stands p g (k + 1)) (logarithm p g (k + 1))))
      ∙ ap (λ n. some_below n (λ k. not (stands p g (k + 1)))) places_is)
    where
      is_kept : (b : Bool) (n : ℕ) → is_some (cond b (Some n) None) ≡ b
      is_kept true n = refl
      is_kept false n = refl
