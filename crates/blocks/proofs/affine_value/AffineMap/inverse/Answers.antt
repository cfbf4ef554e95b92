use Rattle.std.proofs.Common.{◌≡◌, ℕ, Bool, true, false, List, [], MatchOption, length, take, sym, refl, ap, ◌∙◌, subst, ap₂, arith, length-take}
use Rattle.std.proofs.lemmas.List.{length-map, length-replicate}
use Rattle.algebra.specs.Affine.{Square, OneToOne, DecidesInverse}
use Rattle.algebra.specs.Linear.{combination}
use Rattle.algebra.specs.Meaning.{Meaning, on_bytes}
use Rattle.algebra.specs.Tuples.{zeros}
use Rattle.blocks.specs.declared.affine_value.AffineMap.{AffineMap}
use Rattle.blocks.specs.Maps.{size_of, constants_of, rows_of, image, MapCodes, UndoneBy}
use Rattle.blocks.specs.Rooms.{rows_in}
use Rattle.blocks.proofs.Coefficients.{zeros_are}
use Rattle.blocks.proofs.Maps.{found}
use Rattle.blocks.proofs.Rooms.{start}
use Rattle.blocks.proofs.affine_value.AffineMap.inverse.Goals as goal

tall : (p : AffineMap) → length (rows_of p) ≡ p.size
tall p = length-map (take p.size p.rows) (take p.size) ∙ omega (arith, length-take p.size p.rows, p.few, p.tall)

-- of a square of the map's rows, what is asked of it and what it says
asked : (M : Meaning) (p : AffineMap) (S : List (List ℕ)) → S ≡ rows_of p → MapCodes M p → Square M (length S) S
asked M p S is codes = subst (λ r. Square M (length r) r) (sym is) (subst (λ m. Square M m (rows_of p)) (sym (tall p)) codes.rows)

says : (M : Meaning) (p : AffineMap) (S C : List (List ℕ)) (b : Bool) → S ≡ rows_of p → DecidesInverse M (length S) S b C → DecidesInverse M p.size (rows_of p) b C
says M p S C b is h = subst (λ m. DecidesInverse M m (rows_of p) b C) (tall p) (subst (λ r. DecidesInverse M (length r) r b C) is h)

pub returns-clause-verdict : goal.returns-clause-verdict
returns-clause-verdict g c sound codes =
    let x = c.args.field.now in
    let M = g.F.Field.meaning x in
    let O = on_bytes M in
    let p = c.args.self.now in
    let n = p.size in
    let is = c.from_rooms-square.ensures in
    let C = c.in_ok-inverse_rows.field-0 in
    let rooms = c.to_rooms-rows.result in
    let many : length C ≡ n = c.in_ok-inverse_rows.ensures.size ∙ ap length is ∙ tall p in
    let rows : rows_in n rooms ≡ C = ap (λ k. rows_in k rooms) (sym many) ∙ c.to_rooms-rows.ensures in
    let zero = ap length c.zeros-zeros.ensures ∙ length-replicate n 0 in
    let moved : c.combined.result ≡ combination O (zeros O n) C (constants_of p)
    = c.combined.ensures.value
    ∙ ap₂ (λ (z k : List ℕ). combination O z (rows_in (length z) rooms) k) (c.zeros-zeros.ensures) c.constants.ensures.value
    ∙ ap₂ (λ (z : List ℕ) m. combination O z (rows_in m rooms) (constants_of p)) (zeros_are M n) (length-replicate n 0)
    ∙ ap (λ r. combination O (zeros O n) r (constants_of p)) rows in
    found M (g.met.F.Field.shape x) p _ C codes refl rows
    (ap (take n) c.room-constants.ensures ∙ start c.combined.result n (c.combined.ensures.size ∙ zero) ∙ moved)
    (says M p c.from_rooms-square.result C true is (c.in_ok-inverse_rows.ensures.verdict (g.met.F.Field.laws x sound) (asked M p c.from_rooms-square.result is codes)))

pub returns-in_err-inverse_rows-clause-verdict : goal.returns-in_err-inverse_rows-clause-verdict
returns-in_err-inverse_rows-clause-verdict g c sound codes =
    let x = c.args.field.now in
    let M = g.F.Field.meaning x in
    let p = c.args.self.now in
    let is = c.from_rooms-square.ensures in
    let fails = says M p c.from_rooms-square.result [] false is (c.in_err-inverse_rows.ensures.verdict (g.met.F.Field.laws x sound) (asked M p c.from_rooms-square.result is codes)) in
    subst (λ r. MatchOption r (OneToOne M (size_of p) (image M p) → ⊥) (UndoneBy M p)) (sym c.from_residual.ensures) (fails.fails refl (constants_of p) codes.constants)
