use Rattle.field.proofs.LookUps.{one_is}
use Rattle.field.proofs.power_table_field.PowerTableField.one.Goals as goal

pub returns : goal.returns
returns c = one_is c.args.self.now.number c.args.self.now.generator
