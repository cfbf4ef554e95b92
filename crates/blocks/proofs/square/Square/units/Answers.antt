use Rattle.std.proofs.Common.{◌≡◌, ℕ, ◌+◌, ◌<◌, List, [], ◌∷◌, ◌++◌, length, get_or, drop, set, replicate, sym, refl, ap, ◌∙◌, ap₂, zero-add, arith, length-set, below_more, get_or-set_other, get_or-set_same, not-suc-le-zero}
use Rattle.std.proofs.lemmas.List.{take_more_set, take_all, take_at, length-replicate}
use Rattle.algebra.specs.Linear.{basis, basis_from}
use Rattle.algebra.specs.Meaning.{on_bytes}
use Rattle.algebra.proofs.Basis.{basis_more}
use Rattle.blocks.proofs.Coefficients.{zeros_are}
use Rattle.blocks.proofs.Rooms.{part, all_written}
use Rattle.blocks.proofs.square.Square.units.Goals as goal

pub loop-i-init : goal.loop-i-init
unfolding basis_from
loop-i-init g c = (refl, λ k h. absurd (not-suc-le-zero h))

pub loop-i-preserved : goal.loop-i-preserved
unfolding basis on_bytes
loop-i-preserved g c =
    let M = g.F.Field.meaning c.args.field.now in
    let O = on_bytes M in
    let n = c.args.size in
    let i = c.loop-i.i in
    let rows = c.loop-i.rows in
    let row = c.with.result in
    let inv = c.loop-i.invariant in
    let inside : i < length rows = omega (arith, c.loop-i.auto.rows, part c.zeros-rooms.result n c.requires, c.loop-i-test.true) in
    let unit : row ≡ basis O n (0 + i)
    = c.with.ensures ∙ ap₂ (λ (l : List ℕ) (x : ℕ). set l i x) (c.zeros.ensures ∙ zeros_are M n) c.one.ensures ∙ ap (basis O n) (sym (zero-add i)) in
    let size = ap length c.with.ensures ∙ length-set c.zeros.result i c.one.result ∙ ap length c.zeros.ensures ∙ length-replicate n 0 in (
      take_more_set rows i row inside ∙ ap₂ (λ (l : List (List ℕ)) (x : List ℕ). l ++ (x ∷ [])) inv.0 unit ∙ sym (basis_more O n 0 i),
      below_more (λ k. length (get_or (set rows i row) k []) ≡ n) i (λ k less. ap length (get_or-set_other rows i k row [] (λ e. omega arith)) ∙ inv.1 k less)
          (ap length (get_or-set_same rows i row [] inside) ∙ size),
    )

pub invariant_of-result : goal.invariant_of-result
invariant_of-result g c =
    let n = c.args.size in
    let rows = c.loop-i.rows in
    let tall : length rows ≡ n = c.loop-i.auto.rows ∙ part c.zeros-rooms.result n c.requires in
    let done : c.loop-i.i ≡ n = omega (arith, c.loop-i-test.false, c.loop-i.auto.i-end) in
    all_written rows n c.loop-i.i c.zeros-rooms.result c.zeros-rooms.ensures tall done c.requires c.loop-i.invariant.1

pub returns : goal.returns
returns g c =
    let n = c.args.size in
    let rows = c.loop-i.rows in
    let O = on_bytes (g.F.Field.meaning c.args.field.now) in
    let tall : length rows ≡ n = c.loop-i.auto.rows ∙ part c.zeros-rooms.result n c.requires in
    let done : c.loop-i.i ≡ n = omega (arith, c.loop-i-test.false, c.loop-i.auto.i-end) in
    take_at rows (drop n (replicate 32 c.zeros-rooms.result)) n tall ∙ sym (take_all c.loop-i.i rows (omega (arith, tall, done))) ∙ c.loop-i.invariant.0 ∙ ap (basis_from O n 0) done
