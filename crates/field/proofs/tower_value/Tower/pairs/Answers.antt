use Rattle.std.proofs.Common.{refl, ap, ◌∙◌, arith}
use Rattle.algebra.specs.Meaning.{low_bits}
use Rattle.algebra.proofs.Masks.{low_is}
use Rattle.field.proofs.tower_value.Tower.pairs.Goals as goal

pub returns : goal.returns
unfolding low_bits
returns g c =
    let w = c.width-width.result in
    (refl, low_is c.args.self.now.c w (omega (arith, c.if-width-gt-WIDEST.false)) ∙ ap (λ w. low_bits w c.args.self.now.c) c.width-width.ensures)
