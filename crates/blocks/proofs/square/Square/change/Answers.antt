use Rattle.std.proofs.Common.{◌<◌, [], length, get_or, set, sym, refl, ap, ◌∙◌, arith}
use Rattle.std.proofs.lemmas.List.{get_or_default}
use Rattle.std.proofs.lemmas.List.Edits.{map_over_more}
use Rattle.blocks.proofs.Rooms.{long_set}
use Rattle.blocks.proofs.square.Square.change.Goals as goal

pub loop-row-init : goal.loop-row-init
loop-row-init g c = (λ f acts. refl, λ k h. c.self.invariant.even k h ∙ ap length c.self.view_is)

pub loop-row-preserved : goal.loop-row-preserved
loop-row-preserved g c =
    let rows = c.loop-row.rows in
    let i = c.loop-row.row-index in
    let x = c.row-item.result in
    let r = c.change.result in
    let inside : i < length rows = omega (arith, c.loop-row.auto.rows, c.loop-row-test.true) in
    let size = ap length (sym (get_or_default rows i [] x inside)) ∙ c.loop-row.invariant.1 i inside in (
      λ f acts. ap (set rows i) (acts (get_or rows i x) r c.change.ensures ∙ ap f (sym c.row-item.is)) ∙ map_over_more f _ rows i x c.loop-row-test.true (c.loop-row.invariant.0 f acts) c.row-item.is,
      long_set rows i (length c.args.self.now) r c.loop-row.invariant.1 (c.requires.stays (get_or rows i x) r size c.change.ensures),
    )
