use Rattle.std.proofs.Common.{◌≡◌, ℕ, ap, ◌∙◌}
use Rattle.algebra.specs.Meaning.{Meaning, Shape, as_code, low_bits}
use Rattle.algebra.proofs.Codes.{is_code, own_code}
use Rattle.lines.specs.Scaled.{scaled}
use Rattle.lines.proofs.scaled_field.ScaledField.product.Goals as goal

-- two products of the field below, one after the other
twice : (M : Meaning) → Shape M → (f a b ab r : ℕ) → ab ≡ M.product (as_code M a) (as_code M b) → r ≡ M.product (as_code M ab) (as_code M f)
    → r ≡ M.product (M.product (as_code M a) (as_code M b)) (as_code M f)
twice M s f a b ab r first second =
    let code = s.product_code (as_code M a) (as_code M b) (is_code M a) (is_code M b) in
    second ∙ ap (λ x. M.product x (as_code M f)) (ap (as_code M) first ∙ own_code M (M.product (as_code M a) (as_code M b)) code)

pub returns : goal.returns
unfolding scaled as_code low_bits
returns g c =
    let t = c.args.self.now in
    twice (g.F.Field.meaning t.base) (g.met.F.Field.shape t.base) t.factor c.args.a c.args.b
    c.product.result c.product-2.result c.product.ensures c.product-2.ensures
