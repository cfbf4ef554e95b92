use Rattle.std.proofs.Common.{◌≡◌, ◌+◌, ◌<◌, map, length, take, drop, set, replicate, sym, ap, ◌∙◌, subst}
use Rattle.std.proofs.lemmas.List.{take_at, length-map, map-set}
use Rattle.std.specs.Iterator.Adapters.{enumerate_source, enumerate_count}
use Rattle.std.specs.Slice.Iter.{chunks_exact_rest, chunks_exact_size}
use Rattle.blocks.specs.Rooms.{in_room}
use Rattle.blocks.proofs.Parts.{Parted, none_parted, chunk_parted, all_parted}
use Rattle.blocks.proofs.Rooms.{part, start}
use Rattle.blocks.proofs.rows.read_rows.Goals as goal

pub loop-i-init : goal.loop-i-init
loop-i-init c =
    let n = c.args.size in
    let bytes = c.args.bytes.now in
    let rows = map (take n) (take n (replicate 32 (replicate 32 0))) in
    let begins = c.into_iter-i-iterator.ensures.into_iter_gives in
    let source = ap enumerate_source begins ∙ c.enumerate-i-items.ensures.source in (
      subst (λ k. Parted n bytes k rows (chunks_exact_rest (enumerate_source c.into_iter-i-iterator.result)))
          (sym (ap enumerate_count begins ∙ c.enumerate-i-items.ensures.count))
          (subst (Parted n bytes 0 rows) (sym (ap chunks_exact_rest source ∙ c.chunks_exact.ensures.rest)) (none_parted n bytes rows c.requires.bytes)),
      ap chunks_exact_size source ∙ c.chunks_exact.ensures.size ∙ c.max.ensures,
    )

pub loop-i-preserved : goal.loop-i-preserved
loop-i-preserved c =
    let n = c.args.size in
    let bytes = c.args.bytes.now in
    let rows = c.loop-i.rows in
    let row = c.in-Some.row.now in
    let left = chunks_exact_rest (enumerate_source c.next.new.self) in
    let inv = c.loop-i.invariant in
    let steps = c.in-Some.ensures.steps in
    let count = enumerate_count c.loop-i.i-iterator in
    let tall = length-map rows (take n) ∙ c.loop-i.auto.rows ∙ part (replicate 32 0) n c.requires.few in
    let next = chunk_parted n bytes count (map (take n) rows) (chunks_exact_rest (enumerate_source c.loop-i.i-iterator)) row left inv.0 steps.0.1.0 (steps.0.1.1 ∙ inv.1) tall in
    let kept : take n c.room.result ≡ row = ap (take n) (c.room.ensures ∙ ap in_room c.from_bytes.ensures) ∙ start row n next.0 in
    let written : map (take n) (set rows c.in-Some.i c.room.result) ≡ set (map (take n) rows) count row
    = map-set (take n) rows c.in-Some.i c.room.result ∙ ap (set (map (take n) rows) c.in-Some.i) kept ∙ ap (λ k. set (map (take n) rows) k row) steps.1 in (
      subst (λ k. Parted n bytes k (map (take n) (set rows c.in-Some.i c.room.result)) left) (sym steps.2) (subst (λ r. Parted n bytes (count + 1) r left) (sym written) next.1),
      steps.0.0 ∙ inv.1,
    )

pub returns : goal.returns
returns c =
    let n = c.args.size in
    let rows = c.loop-i.rows in
    let inv = c.loop-i.invariant in
    let few = c.in-None.ensures.steps.0.1.0 in
    let tall : length rows ≡ n = c.loop-i.auto.rows ∙ part (replicate 32 0) n c.requires.few in
    ap (map (take n)) (take_at rows (drop n (replicate 32 (replicate 32 0))) n tall)
    ∙ all_parted n c.args.bytes.now _ (map (take n) rows) _ inv.0 (subst (λ m. length (chunks_exact_rest (enumerate_source c.loop-i.i-iterator)) < m) inv.1 few) (length-map rows (take n) ∙ tall)
