use Rattle.std.proofs.Common.{◌≤◌, map, length}
use Rattle.lines.specs.BlockText.{ReadsEach}
use Rattle.lines.proofs.block_text.read_bytes.Given as goal

abbrev pub invariant-loop-part : goal.invariant-loop-part
invariant-loop-part g l = (length l.bytes.items ≤ g.row.N) × ReadsEach (map (λ x. x.now) l.yielded) l.bytes.items
