use Rattle.std.proofs.Common.{◌≡◌, ℕ, ◌+◌, ◌≤◌, List, map, length, take, drop, set, replicate, sym, ap, ◌∙◌, subst, ap₂, arith}
use Rattle.std.proofs.lemmas.List.{take_all, take_at, length-map, map-set}
use Rattle.algebra.specs.Meaning.{on_bytes}
use Rattle.algebra.specs.Modular.{multiples, q_rows}
use Rattle.algebra.specs.Tuples.{times}
use Rattle.blocks.proofs.Rooms.{part, start}
use Rattle.blocks.proofs.Written.{RowsTo, no_rows, row_written}
use Rattle.blocks.proofs.quotient.Quotient.q_rows.Goals as goal

pub loop-row-init : goal.loop-row-init
loop-row-init g c =
    let v = length c.args.self.now.low in
    no_rows (times (on_bytes (g.F.Field.meaning c.args.self.now.field.now)) c.args.self.now.low) v c.x_to_q-factor.result c.one-power.result
    (map (take v) (take c.size.result (replicate 32 (replicate 32 0)))) c.one-power.ensures.size

pub product-power-requires : goal.product-power-requires
product-power-requires g c = c.loop-row.invariant.size

pub loop-row-preserved : goal.loop-row-preserved
loop-row-preserved g c =
    let f = c.args.self.now.low in
    let v = length f in
    let P = times (on_bytes (g.F.Field.meaning c.args.self.now.field.now)) f in
    let i = c.loop-row.row-index in
    let rows = c.loop-row.rows in
    let power = c.loop-row.power in
    let room = c.room.result in
    let inv = c.loop-row.invariant in
    let kept : take v room ≡ power = ap (take v) c.room.ensures ∙ start power v inv.size in
    let written : set (map (take v) rows) i power ≡ map (take v) (set rows i room) = ap (set (map (take v) rows) i) (sym kept) ∙ sym (map-set (take v) rows i room) in
    subst (RowsTo P v c.x_to_q-factor.result c.one-power.result (i + 1) c.product-power.result) written
    (row_written P v c.x_to_q-factor.result c.one-power.result i power c.product-power.result (map (take v) rows) inv
    (omega (arith, length-map rows (take v), c.loop-row-test.true)) c.product-power.ensures.value c.product-power.ensures.size)

pub returns : goal.returns
unfolding q_rows
returns g c =
    let f = c.args.self.now.low in
    let v = length f in
    let P = times (on_bytes (g.F.Field.meaning c.args.self.now.field.now)) f in
    let inv = c.loop-row.invariant in
    let rows = c.loop-row.rows in
    let size = c.size.ensures.value in
    let tall : length rows ≡ v = c.loop-row.auto.rows ∙ part (replicate 32 0) c.size.result c.size.ensures.few ∙ size in
    let all : length rows ≤ c.loop-row.row-index = omega (arith, c.loop-row-test.false, c.loop-row.auto.rows) in
    let end : c.loop-row.row-index ≡ v = omega (arith, c.loop-row.auto.row-index-end, c.loop-row.auto.rows, tall, all) in
    ap (map (take v)) (take_at rows (drop c.size.result (replicate 32 (replicate 32 0))) v tall)
    ∙ sym (take_all c.loop-row.row-index (map (take v) rows) (omega (arith, length-map rows (take v), all))) ∙ inv.done ∙ ap (multiples P c.x_to_q-factor.result c.one-power.result) end
    ∙ ap₂ (λ (w x : List ℕ). multiples P w x v) c.x_to_q-factor.ensures.value c.one-power.ensures.value
