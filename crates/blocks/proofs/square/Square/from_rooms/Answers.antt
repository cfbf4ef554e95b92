use Rattle.std.proofs.Common.{◌≡◌, ℕ, ◌<◌, List, [], ◌∷◌, ◌++◌, map, length, get_or, take, drop, set, replicate, sym, refl, ap, ◌∙◌, ap₂, arith, below_more, get_or-set_other, get_or-set_same, not-suc-le-zero}
use Rattle.std.proofs.lemmas.List.{take_more_set, take_all, take_at, map_more}
use Rattle.blocks.proofs.Rooms.{part, all_written}
use Rattle.blocks.proofs.square.Square.from_rooms.Goals as goal

pub loop-i-init : goal.loop-i-init
loop-i-init c = (refl, λ k h. absurd (not-suc-le-zero h))

pub loop-i-preserved : goal.loop-i-preserved
loop-i-preserved c =
    let n = c.args.size in
    let i = c.loop-i.i in
    let rows = c.loop-i.rows in
    let row = c.at_start.result in
    let rooms = c.args.rooms.now in
    let inv = c.loop-i.invariant in
    let inside : i < length rows = omega (arith, c.loop-i.auto.rows, part c.zeros-blocks.result n c.requires, c.loop-i-test.true) in
    let less : i < length rooms = omega (arith, c.told-rooms, c.loop-i-test.true, c.requires) in (
      take_more_set rows i row inside ∙ ap₂ (λ (l : List (List ℕ)) (x : List ℕ). l ++ (x ∷ [])) inv.0 c.at_start.ensures.value ∙ sym (map_more (take n) rooms i [] less),
      below_more (λ k. length (get_or (set rows i row) k []) ≡ n) i (λ k less. ap length (get_or-set_other rows i k row [] (λ e. omega arith)) ∙ inv.1 k less)
          (ap length (get_or-set_same rows i row [] inside) ∙ c.at_start.ensures.size),
    )

pub invariant_of-result : goal.invariant_of-result
invariant_of-result c =
    let n = c.args.size in
    let rows = c.loop-i.rows in
    let tall : length rows ≡ n = c.loop-i.auto.rows ∙ part c.zeros-blocks.result n c.requires in
    let done : c.loop-i.i ≡ n = omega (arith, c.loop-i-test.false, c.loop-i.auto.i-end) in
    all_written rows n c.loop-i.i c.zeros-blocks.result c.zeros-blocks.ensures tall done c.requires c.loop-i.invariant.1

pub returns : goal.returns
returns c =
    let n = c.args.size in
    let rows = c.loop-i.rows in
    let tall : length rows ≡ n = c.loop-i.auto.rows ∙ part c.zeros-blocks.result n c.requires in
    let done : c.loop-i.i ≡ n = omega (arith, c.loop-i-test.false, c.loop-i.auto.i-end) in
    take_at rows (drop n (replicate 32 c.zeros-blocks.result)) n tall ∙ sym (take_all c.loop-i.i rows (omega (arith, tall, done))) ∙ c.loop-i.invariant.0
    ∙ ap (λ k. map (take n) (take k c.args.rooms.now)) done
