use Rattle.std.proofs.Common.{arith}
use Rattle.field.proofs.Words.{chosen}
use Rattle.field.proofs.polynomial.select.Goals as goal

pub returns : goal.returns
returns c =
    chosen c.args.bit c.args.value c.wrapping_neg.result c.requires (omega arith) (omega arith) c.wrapping_neg.ensures
