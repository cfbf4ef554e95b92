use Rattle.std.proofs.Common.{Some, None, cond, sym, ap, inl, inr, ⊎_elim}
use Rattle.algebra.proofs.Degree.{degree_only, inside, outside}
use Rattle.field.proofs.polynomial.Polynomial.of.Goals as goal

pub returns-then-number-lt-SMALLEST : goal.returns-then-number-lt-SMALLEST
returns-then-number-lt-SMALLEST c =
    let p = c.args.number in
    sym (ap (λ b. cond b (Some p) None) (outside p (⊎_elim inl (λ both. inr both.1) c.then-number-lt-SMALLEST.either)))

pub invariant_of-result : goal.invariant_of-result
invariant_of-result c =
    record {
      low = c.if-number-lt-SMALLEST.false;
      high = c.if-number-gt-LARGEST.false;
      measured = degree_only c.args.number c.ilog2-width.result c.if-number-lt-SMALLEST.false c.if-number-gt-LARGEST.false c.ilog2-width.ensures.power_le c.ilog2-width.ensures.next_power_gt;
    }

pub returns : goal.returns
returns c =
    let p = c.args.number in
    sym (ap (λ b. cond b (Some p) None) (inside p c.if-number-lt-SMALLEST.false c.if-number-gt-LARGEST.false))
