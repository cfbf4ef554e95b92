use Rattle.std.proofs.Common.{◌≡◌, map, take, max}
use Rattle.std.specs.Iterator.Adapters.{enumerate_source, enumerate_count}
use Rattle.std.specs.Slice.Iter.{chunks_exact_rest, chunks_exact_size}
use Rattle.blocks.proofs.Parts.{Parted}
use Rattle.blocks.proofs.rows.read_rows.Given as goal

-- the rows before the next chunk are read
abbrev pub invariant-loop-i : goal.invariant-loop-i
invariant-loop-i l =
    let chunks = enumerate_source l.i-iterator in
    Parted l.size l.fn.bytes (enumerate_count l.i-iterator) (map (take l.size) l.rows) (chunks_exact_rest chunks) × (chunks_exact_size chunks ≡ max l.size 1)
