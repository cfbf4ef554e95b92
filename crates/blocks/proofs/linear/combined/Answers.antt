use Rattle.std.proofs.Common.{◌≡◌, List, ◌∷◌, ℕ, rules, map, length, take, drop, sym, ap, ◌∙◌, ⊎_elim, arith, length-take}
use Rattle.std.proofs.lemmas.List.{take_at, length-map}
use Rattle.std.specs.Iterator.Adapters.{zip_first, zip_second}
use Rattle.std.specs.Slice.Iter.{iter_rest}
use Rattle.algebra.specs.Linear.{combination}
use Rattle.algebra.specs.Meaning.{on_bytes}
use Rattle.blocks.specs.Rooms.{rows_in}
use Rattle.blocks.proofs.Combinations.{one_row, no_rows, no_factors}
use Rattle.blocks.proofs.linear.combined.Goals as goal

pub loop-row-init : goal.loop-row-init
loop-row-init g c =
    let O = on_bytes (g.F.Field.meaning c.args.field.now) in
    let n = length c.args.constants in
    let size : c.constants.inside.size ≡ n = sym c.constants.invariant.whole ∙ ap length c.constants.view_is in
    let rows : iter_rest (zip_first c.into_iter-row-iterator.result) ≡ take c.constants.inside.size c.args.rows.now = search rules in
    let factors : iter_rest (zip_second c.into_iter-row-iterator.result) ≡ c.args.factors = search rules in (
      ap (λ (s : List ℕ). combination O s (map (take n) (iter_rest (zip_first c.into_iter-row-iterator.result))) (iter_rest (zip_second c.into_iter-row-iterator.result))) c.constants.view_is
          ∙ ap (λ (r : List (List ℕ)). combination O c.args.constants (map (take n) r) (iter_rest (zip_second c.into_iter-row-iterator.result))) (rows ∙ ap (λ k. take k c.args.rows.now) size)
          ∙ ap (combination O c.args.constants (rows_in n c.args.rows.now)) factors,
      ap length c.constants.view_is,
    )

pub add_multiple-requires : goal.add_multiple-requires
add_multiple-requires g c =
    omega (arith, length-take c.constants.inside.size c.in-Some.row.now, c.loop-row.invariant.1, c.constants.invariant.whole, ap length c.constants.view_is)

pub loop-row-preserved : goal.loop-row-preserved
loop-row-preserved g c =
    let M = g.F.Field.meaning c.args.field.now in
    let n = length c.args.constants in
    let size : c.constants.inside.size ≡ n = sym c.constants.invariant.whole ∙ ap length c.constants.view_is in
    let steps = c.in-Some.ensures.steps in
    let inv = c.loop-row.invariant in (
      one_row M c.loop-row.sum c.add_multiple.new.sum (take c.constants.inside.size c.in-Some.row.now) c.in-Some.factor.now _ _ _ _
          (ap (map (take n)) steps.0 ∙ ap (λ k. take k c.in-Some.row.now ∷ map (take n) (iter_rest (zip_first c.next.new.self))) (sym size)) steps.1 (search rules) ∙ inv.0,
      c.add_multiple.auto.sum ∙ inv.1,
    )

pub returns : goal.returns
returns g c =
    let M = g.F.Field.meaning c.args.field.now in
    let n = length c.args.constants in
    let sum = c.loop-row.sum in
    let inv = c.loop-row.invariant in
    let own = c.constants in
    let front = take_at sum (drop own.inside.size own.inside.room) own.inside.size (inv.1 ∙ sym (ap length own.view_is) ∙ own.invariant.whole) in
    let rows = iter_rest (zip_first c.loop-row.row-iterator) in
    let value = sym (⊎_elim (λ e. no_rows M sum (map (take n) rows) _ (length-map rows (take n) ∙ e.1.0)) (λ e. no_factors M sum _ _ e.1.0) c.in-None.ensures.steps) ∙ inv.0 in
    record { value = front ∙ value; size = ap length front ∙ inv.1 }
