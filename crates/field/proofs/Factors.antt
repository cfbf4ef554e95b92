-- The tests of trial division, as the code makes them.
-- Assumes nothing.
use Rattle.std.proofs.Common.{◌≡◌, ℕ, suc, ◌+◌, ◌^◌, ◌<◌, ◌≤◌, false, ◌&&◌, eqb, ltb, sym, ap, ◌∙◌, ap₂, ⊎_elim, arith, pow_mono}
use Rattle.std.proofs.lemmas.Bool.{and_left, lt-ltb, le-ltb, cases_lt}
use Rattle.std.specs.List.{list_any, range_with_len}
use Rattle.algebra.specs.Bits.{two, bits, number}
use Rattle.algebra.specs.Tuples.{times}
use Rattle.algebra.specs.Shift.{in_range, degree, splits}
use Rattle.algebra.proofs.Binary.{horner_times}
use Rattle.algebra.proofs.Degree.{degree_is, degree_positive, inside}
use Rattle.algebra.proofs.Search.{some_below_same}
use Rattle.algebra.proofs.Shift.{trial_decides}
use Rattle.algebra.proofs.Trial.{remainder as tried_remainder, divides as tried, trial}
use Rattle.field.specs.declared.polynomial.Polynomial.{Polynomial}
use Rattle.field.specs.Division.{remainder, divides}
use Rattle.field.proofs.Searches.{some_in_range}
use Rattle.field.proofs.Widths.{positive}

pub one_code : (d : Polynomial) → 1 < 2 ^ d.width
one_code d = let one : 2 ^ 1 ≤ 2 ^ d.width = pow_mono (positive d) in omega arith

-- a lower degree and no remainder
pub divides_low : (d p : Polynomial) (r : ℕ) → d.width < p.width → r ≡ number (times two (bits d.width d.coefficients) (bits 9 p.coefficients) (bits d.width 1))
    → eqb r 0 ≡ divides d.coefficients p.coefficients
unfolding divides remainder
divides_low d p r h is =
    ap (λ r. eqb r 0) (is ∙ ap (λ w. number (times two (bits w d.coefficients) (bits 9 p.coefficients) (bits w 1))) d.measured)
    ∙ sym (ap (λ b. b && eqb (remainder d.coefficients p.coefficients) 0) (lt-ltb (degree d.coefficients) (degree p.coefficients) (omega (arith, d.measured, p.measured))))

-- a degree as high or higher
pub divides_high : (d p : Polynomial) → p.width ≤ d.width → false ≡ divides d.coefficients p.coefficients
unfolding divides
divides_high d p h =
    sym (and_left (ltb (degree d.coefficients) (degree p.coefficients)) (eqb (remainder d.coefficients p.coefficients) 0)
    (le-ltb (degree d.coefficients) (degree p.coefficients) (omega (arith, d.measured, p.measured))))

-- ---- the same as the tests of which it is known that they decide

module _ (d p : ℕ) (d-low : 2 ≤ d) (d-high : d ≤ 511) (p-low : 2 ≤ p) (p-high : p ≤ 511) where
  lower : ltb (degree d) (degree p) ≡ ltb d (2 ^ degree p)
  lower =
      ⊎_elim
      (λ (less : degree d < degree p).
      let up : 2 ^ suc (degree d) ≤ 2 ^ degree p = pow_mono less in
      lt-ltb (degree d) (degree p) less ∙ sym (lt-ltb d (2 ^ degree p) (omega (arith, (degree_is d d-low d-high).stays_below))))
      (λ (high : degree p ≤ degree d).
      let up : 2 ^ degree p ≤ 2 ^ degree d = pow_mono high in
      le-ltb (degree d) (degree p) high ∙ sym (le-ltb d (2 ^ degree p) (omega (arith, (degree_is d d-low d-high).reaches))))
      (cases_lt (degree d) (degree p))

  same_remainder : remainder d p ≡ tried_remainder d p
  unfolding remainder tried_remainder
  same_remainder =
      let is = degree_is d d-low d-high in
      let one : 2 ^ 1 ≤ 2 ^ degree d = pow_mono (degree_positive d d-low d-high) in
      horner_times (degree d) d is.reaches is.stays_below 1 (omega arith) 9 p

  same : divides d p ≡ tried d p
  unfolding divides tried
  same = ap₂ ◌&&◌ lower (ap (λ r. eqb r 0) same_remainder)

-- one of the numbers from 2 to 31 is enough to try
pub trial_is : (p : ℕ) → 2 ≤ p → p ≤ 511 → list_any (λ d. in_range d && divides d p) (range_with_len 2 30) ≡ splits p
unfolding trial
trial_is p lo hi =
    some_in_range (λ d. in_range d && divides d p) 2 30
    ∙ some_below_same (λ k. in_range (k + 2) && divides (k + 2) p) (λ k. tried (k + 2) p) 30
    (λ k h. ap (λ b. b && divides (k + 2) p) (inside (k + 2) (omega arith) (omega arith)) ∙ same (k + 2) p (omega arith) (omega arith) lo hi)
    ∙ sym (trial_decides p lo hi)
