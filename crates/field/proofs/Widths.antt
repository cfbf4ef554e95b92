-- What a polynomial of degree 1 to 8 is known by.
-- Assumes nothing.
use Rattle.std.proofs.Common.{◌≤◌, sym, subst}
use Rattle.algebra.proofs.Degree.{Highest, degree_is, degree_positive}
use Rattle.field.specs.declared.polynomial.Polynomial.{Polynomial}

pub range : (p : Polynomial) → Highest 8 p.coefficients p.width
range p = subst (Highest 8 p.coefficients) (sym p.measured) (degree_is p.coefficients p.low p.high)

pub positive : (p : Polynomial) → 1 ≤ p.width
positive p = subst (λ n. 1 ≤ n) (sym p.measured) (degree_positive p.coefficients p.low p.high)
