use Rattle.std.proofs.Common.{get_or, ap, ◌∙◌}
use Rattle.algebra.specs.Linear.{shear_row}
use Rattle.algebra.specs.Meaning.{on_bytes}
use Rattle.algebra.specs.Tuples.{plus, scale}
use Rattle.blocks.proofs.shear.Shear.row.Goals as goal

pub returns-clause-value : goal.returns-clause-value
unfolding shear_row on_bytes
returns-clause-value g c =
    let O = on_bytes (g.F.Field.meaning c.args.field.now) in
    c.plus_multiple.ensures.value ∙ ap (λ z. plus O (scale O z c.args.self.now.step) c.args.row)
    (c.product-multiple.ensures ∙ ap (λ r. O.mul c.args.self.now.factor (get_or r c.args.self.now.place 0)) c.as_slice.ensures.value)
