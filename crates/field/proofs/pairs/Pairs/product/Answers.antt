use Rattle.field.proofs.Halves.{pairs_product}
use Rattle.field.proofs.pairs.Pairs.product.Goals as goal

pub returns : goal.returns
returns g c =
    let s = c.args.self.now in
    pairs_product (g.F.Field.meaning s.base.now) (g.met.F.Field.shape s.base.now) s.width s.c c.args.x c.args.y
    c.product-be.result c.product.result c.product-2.result c.product-3.result c.product-4.result s.measured s.narrow s.element
    c.product-be.ensures c.product.ensures c.product-2.ensures c.product-3.ensures c.product-4.ensures
