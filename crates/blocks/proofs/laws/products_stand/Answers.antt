use Rattle.algebra.proofs.Blocks.{modular_byte_products}
use Rattle.algebra.proofs.Plain.{modular_products}
use Rattle.algebra.proofs.Remainders.{block_remainders}
use Rattle.blocks.proofs.laws.products_stand.Goals as goal

pub returns : goal.returns
returns g c =
    let x = c.args.field.now in
    let M = g.F.Field.meaning x in
    let s = g.met.F.Field.shape x in
    record {
      products = λ sound. modular_products M s (g.met.F.Field.laws x sound);
      bytes = λ sound. modular_byte_products M s (g.met.F.Field.laws x sound);
      remainders = λ sound. block_remainders M s (g.met.F.Field.laws x sound);
    }
