use Rattle.std.proofs.Common.{ap, ◌∙◌}
use lib.Bits.{bit_and, and_mask}
use Rattle.algebra.specs.Meaning.{low_bits}
use Rattle.lines.specs.Scaled.{scaled}
use Rattle.lines.proofs.scaled_field.ScaledField.one.Goals as goal

pub returns : goal.returns
unfolding scaled low_bits
returns g c =
    let t = c.args.self.now in
    ap (bit_and t.one) c.largest_code.ensures ∙ and_mask t.one _
