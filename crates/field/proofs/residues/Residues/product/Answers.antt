use Rattle.std.proofs.Common.{◌^◌, ◌<◌, ◌≤◌, sym, ◌∙◌, subst, le_trans, arith, pow_mono}
use Rattle.field.proofs.Kept.{operand_lt, product_is, product_lt}
use Rattle.field.proofs.Widths.{range}
use Rattle.field.proofs.residues.Residues.product.Goals as goal

pub multiply-requires : goal.multiply-requires
multiply-requires c =
    let s = c.args.self.now in
    record { few = omega (arith, (range s.modulus).at_most); code = operand_lt s c.args.b }

pub overflow_cast-result : goal.overflow_cast-result
overflow_cast-result c =
    let w = c.args.self.now.modulus.width in
    let small : 2 ^ w ≤ 2 ^ 8 = pow_mono (range c.args.self.now.modulus).at_most in
    record { fits = subst (λ z. z < 2 ^ 8) (sym c.multiply.ensures) (le_trans (product_lt w c.args.self.now.modulus.coefficients w _ _) small) }

pub returns : goal.returns
returns c = c.multiply.ensures ∙ product_is c.args.self.now c.args.a c.args.b
