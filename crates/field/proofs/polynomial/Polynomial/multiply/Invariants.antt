use Rattle.std.proofs.Common.{◌≡◌, ◌-◌, ◌/◌, ◌^◌, ◌<◌}
use Rattle.algebra.proofs.Binary.{horner}
use Rattle.field.proofs.polynomial.Polynomial.multiply.Given as goal

-- the bits from i up have been gone through
abbrev pub invariant-loop-i : goal.invariant-loop-i
invariant-loop-i l = (l.r ≡ horner l.self.width l.self.coefficients l.b (l.digits - l.i) (l.a / 2 ^ l.i)) × (l.r < 2 ^ l.self.width)
