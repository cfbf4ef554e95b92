use Rattle.std.proofs.Common.{◌≡◌, ℕ, List, take, rules, ◌∙◌, sym, refl, ap, subst, ap₂}
use Rattle.algebra.specs.Arithmetic.{Lawful}
use Rattle.algebra.specs.Modular.{modular, modulo, q_rows}
use Rattle.algebra.proofs.Modular.{modulo_lawful}
use Rattle.blocks.specs.Rooms.{rows_in}
use Rattle.blocks.proofs.modulus_value.Modulus.new.Goals as goal

pub returns-clause-lawful : goal.returns-clause-lawful
unfolding modulo
returns-clause-lawful g c sound codes =
    let x = c.args.field.now in
    let M = g.F.Field.meaning x in
    let f = c.from_bytes-low in
    let size = c.size-size.ensures.value in
    let low : take c.size-size.result c.room-low.result ≡ c.args.low.now = search rules in
    let rows : rows_in c.size-size.result c.q_rows-rows.result ≡ q_rows M c.args.low.now
    = ap (λ k. rows_in k c.q_rows-rows.result) size ∙ c.q_rows-rows.ensures ∙ ap (q_rows M) f.ensures in
    subst Lawful (sym (ap₂ (λ (l : List ℕ) (r : List (List ℕ)). modular M l r) low rows))
    (modulo_lawful M (g.met.F.Field.shape x) (g.met.F.Field.laws x sound) c.args.low.now (record { size = refl; codes = codes }))
