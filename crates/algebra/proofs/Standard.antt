-- Each polynomial of the table has its width and does not split: one test over the whole table, which antt computes.
-- Assumes nothing.
use Rattle.std.proofs.Common.{◌≡◌, ℕ, ◌+◌, ◌-◌, ◌≤◌, Bool, true, not, ◌&&◌, eqb, leb, get_or, refl, ap, ◌∙◌, arith}
use Rattle.std.proofs.lemmas.Bool.{and_parts, eqb-true, leb-true}
use Rattle.algebra.specs.Search.{some_below}
use Rattle.algebra.specs.Shift.{highest_bit, degree, shift_by, shift}
use Rattle.algebra.specs.Standard.{polynomials, polynomial_of}
use Rattle.algebra.proofs.Binary.{step, horner}
use Rattle.algebra.proofs.Search.{all_below, all_below_at}
use Rattle.algebra.proofs.Degree.{shift_live}
use Rattle.algebra.proofs.Shift.{trial_decides}
use Rattle.algebra.proofs.Trial.{remainder, divides, trial}

-- the polynomial at place i has degree i + 1 and no factor
right : ℕ → Bool
right i = let p = get_or polynomials i 0 in (leb 2 p && leb p 511) && (eqb (degree p) (i + 1) && not (trial p))

all_right : all_below 8 right ≡ true
unfolding all_below right polynomials degree highest_bit trial some_below divides remainder horner step
all_right = refl

pub standard_sound : (w : ℕ) → 1 ≤ w → w ≤ 8 → ((shift (polynomial_of w)).width ≡ w) × ((shift (polynomial_of w)).sound ≡ true)
unfolding right polynomial_of shift_by
standard_sound w lo hi =
    let i = w - 1 in
    let p = get_or polynomials i 0 in
    let at : right i ≡ true = all_below_at right 8 all_right i (omega arith) in
    let parts = and_parts (leb 2 p && leb p 511) (eqb (degree p) (i + 1) && not (trial p)) at in
    let within = and_parts (leb 2 p) (leb p 511) parts.0 in
    let judged = and_parts (eqb (degree p) (i + 1)) (not (trial p)) parts.1 in
    let low : 2 ≤ p = leb-true 2 p within.0 in
    let high : p ≤ 511 = leb-true p 511 within.1 in
    let back : i + 1 ≡ w = omega arith in (
      ap (λ M. M.width) (shift_live p low high) ∙ eqb-true (degree p) (i + 1) judged.0 ∙ back,
      ap (λ M. M.sound) (shift_live p low high) ∙ ap not (trial_decides p low high) ∙ judged.1,
    )
