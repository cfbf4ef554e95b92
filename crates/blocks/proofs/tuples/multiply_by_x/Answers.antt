use Rattle.std.proofs.Common.{◌≡◌, ◌-◌, length, get_or, set, ap, ◌∙◌}
use Rattle.algebra.specs.Meaning.{on_bytes}
use Rattle.algebra.specs.Tuples.{plus, scale, times_x}
use Rattle.algebra.proofs.Plain.{same_times_x}
use Rattle.blocks.proofs.Moving.{times_x_turned}
use Rattle.blocks.proofs.tuples.multiply_by_x.Goals as goal

pub returns : goal.returns
returns g c =
    let x = c.args.field.now in
    let M = g.F.Field.meaning x in
    let O = on_bytes M in
    let f = c.args.modulus.now in
    let b = c.args.block.now in
    let bytes : c.add_multiple.new.sum ≡ times_x O f b
    = c.add_multiple.ensures.bytes ∙ ap (λ t. plus O (scale O (get_or b (length b - 1) 0) f) (set t 0 0)) c.rotate_right.ensures.after ∙ times_x_turned M f b c.requires.some in
    record { bytes = bytes; codes = λ hb hf. bytes ∙ same_times_x M (g.met.F.Field.shape x) f b hf hb }
