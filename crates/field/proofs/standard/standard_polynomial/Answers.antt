use Rattle.std.proofs.Common.{◌≡◌, ℕ, ◌≤◌, true, cond, ◌&&◌, leb, Some, None, Option, sym, ap, arith}
use Rattle.std.proofs.lemmas.Bool.{and_from, le-leb}
use Rattle.algebra.specs.Standard.{polynomials, polynomial_of}
use Rattle.algebra.proofs.Standard.{standard_sound}
use Rattle.field.proofs.standard.standard_polynomial.Goals as goal

pub returns : goal.returns
unfolding polynomials polynomial_of
returns c =
    let w = c.args.width in
    let lo : 1 ≤ w = omega arith in
    let hi : w ≤ 8 = omega arith in
    let e : (leb 1 w && leb w 8) ≡ true = and_from (leb 1 w) (leb w 8) (le-leb 1 w lo) (le-leb w 8 hi) in
    let some : Option ℕ = Some (polynomial_of w) in
    record { value = sym (ap (λ b. cond b some None) e); sound = standard_sound w lo hi }
