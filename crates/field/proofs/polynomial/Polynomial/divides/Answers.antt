use Rattle.std.proofs.Common.{◌∙◌, arith}
use Rattle.std.proofs.lemmas.Bool.{le-ltb}
use Rattle.field.proofs.Factors.{one_code, divides_low, divides_high}
use Rattle.field.proofs.polynomial.Polynomial.divides.Goals as goal

pub multiply-requires : goal.multiply-requires
multiply-requires c = record { few = omega arith; code = one_code c.args.self.now }

pub returns-then-self-p : goal.returns-then-self-p
returns-then-self-p c = divides_low c.args.self.now c.args.p.now c.multiply.result c.if-self-p.true c.multiply.ensures

pub returns-else-self-p : goal.returns-else-self-p
returns-else-self-p c =
    let d = c.args.self.now in
    let p = c.args.p.now in
    le-ltb d.width p.width c.if-self-p.false ∙ divides_high d p c.if-self-p.false
