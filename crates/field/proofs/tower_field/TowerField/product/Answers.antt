use Rattle.std.proofs.Common.{rules, arith}
use Rattle.algebra.specs.Meaning.{as_code, dead}
use Rattle.field.proofs.Halves.{tower_answer}
use Rattle.field.proofs.tower_field.TowerField.product.Goals as goal

pub returns : goal.returns
unfolding dead as_code
returns g c =
    let t = c.args.self.now in
    tower_answer (λ M. M.product (as_code M c.args.a) (as_code M c.args.b)) g.F.Field.meaning t.base t.c c.pairs.result (λ p. p.base.now) (λ p. p.c) c.map_or.result
    (λ p. omega (arith, p.measured, p.narrow)) c.pairs.ensures (search rules)
