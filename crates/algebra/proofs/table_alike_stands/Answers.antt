use Rattle.algebra.proofs.PowerTable.{table_alike}
use Rattle.algebra.proofs.table_alike_stands.Goals as goal

pub returns : goal.returns
returns c = table_alike
