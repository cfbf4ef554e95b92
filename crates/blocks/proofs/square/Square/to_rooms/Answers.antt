use Rattle.std.proofs.Common.{◌≡◌, ℕ, ◌<◌, List, [], ◌∷◌, ◌++◌, map, length, get_or, take, sym, refl, ap, ◌∙◌, subst, ap₂, arith, length-set}
use Rattle.std.proofs.lemmas.List.{take_more, take_more_set, take_all, map-append, get_or_default}
use Rattle.blocks.proofs.Rooms.{start}
use Rattle.blocks.proofs.square.Square.to_rooms.Goals as goal

pub loop-i-init : goal.loop-i-init
loop-i-init c = (refl, refl)

pub loop-i-preserved : goal.loop-i-preserved
loop-i-preserved c =
    let rows = c.args.self.now in
    let n = length rows in
    let i = c.loop-i.i in
    let rooms = c.loop-i.rooms in
    let own = c.as_slice-rows.ensures in
    let row = c.index-rows-i.result in
    let less : i < n = subst (λ r. i < length r) own.value c.loop-i-test.true in
    let inside : i < length rooms = omega (arith, own.few, less, c.loop-i.invariant.1) in
    let is : row ≡ get_or rows i [] = c.index-rows-i.is ∙ ap (λ r. get_or r i row) own.value ∙ sym (get_or_default rows i [] row less) in
    let kept : take n c.room.result ≡ get_or rows i [] = ap (take n) c.room.ensures ∙ start row n (ap length is ∙ own.even i less) ∙ is in (
      ap (map (take n)) (take_more_set rooms i c.room.result inside) ∙ map-append (take n) (take i rooms) (c.room.result ∷ [])
          ∙ ap₂ (λ (l : List (List ℕ)) (x : List ℕ). l ++ (x ∷ [])) c.loop-i.invariant.0 kept ∙ sym (take_more rows i [] less),
      length-set rooms i c.room.result ∙ c.loop-i.invariant.1,
    )

pub returns : goal.returns
returns c =
    let rows = c.args.self.now in
    let n = length rows in
    let all = ap length c.as_slice-rows.ensures.value in
    let done : n ≡ c.loop-i.i = omega (arith, all, c.loop-i-test.false, c.loop-i.auto.i-end) in
    ap (λ k. map (take n) (take k c.loop-i.rooms)) done ∙ c.loop-i.invariant.0 ∙ take_all c.loop-i.i rows (omega (arith, done))
