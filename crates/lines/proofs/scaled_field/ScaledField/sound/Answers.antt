use Rattle.std.proofs.Common.{◌≡◌, ℕ, true, false, ◌&&◌, eqb, sym, ap, ◌∙◌, ap₂}
use Rattle.std.proofs.lemmas.Bool.{and_left}
use Rattle.algebra.specs.Meaning.{Meaning, as_code, low_bits}
use Rattle.lines.specs.Scaled.{scaled}
use Rattle.lines.proofs.scaled_field.ScaledField.sound.Goals as goal

-- on a sound field the product of the factor and the one decides
by_product : (M : Meaning) (f e fe one : ℕ) → M.sound ≡ true → fe ≡ M.product (as_code M f) (as_code M e) → one ≡ M.one → eqb fe one ≡ (scaled M f e).sound
unfolding scaled as_code low_bits
by_product M f e fe one sound product_is one_is =
    ap₂ eqb product_is one_is ∙ ap (λ b. b && eqb (M.product (as_code M f) (as_code M e)) M.one) (sym sound)

unsound : (M : Meaning) (f e : ℕ) → M.sound ≡ false → (scaled M f e).sound ≡ false
unfolding scaled
unsound M f e below = and_left M.sound (eqb (M.product (low_bits M.width f) (low_bits M.width e)) M.one) below

pub returns-then-sound : goal.returns-then-sound
returns-then-sound g c =
    let t = c.args.self.now in
    by_product (g.F.Field.meaning t.base) t.factor t.one c.product.result c.one.result
    (sym c.sound.ensures ∙ c.if-sound.true) c.product.ensures c.one.ensures

pub returns-else-sound : goal.returns-else-sound
returns-else-sound g c =
    let t = c.args.self.now in
    c.if-sound.false ∙ sym (unsound (g.F.Field.meaning t.base) t.factor t.one (sym c.if-sound.ensures))
