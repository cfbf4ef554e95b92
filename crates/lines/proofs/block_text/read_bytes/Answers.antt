use Rattle.std.proofs.Common.{[], rules, subst, sym}
use Rattle.lines.proofs.BlockText.{none_read, part_read}
use Rattle.lines.specs.BlockText.{ReadsEach}
use Rattle.lines.proofs.block_text.read_bytes.Goals as goal

pub loop-part-init : goal.loop-part-init
loop-part-init g c = (search rules, subst (ReadsEach []) (sym c.new-bytes.ensures) none_read)

pub loop-part-preserved : goal.loop-part-preserved
loop-part-preserved g c = (search rules, part_read c.loop-part.yielded c.in-Some.part c.loop-part.bytes.items _ _ c.loop-part.invariant.1 c.in_ok-read_byte.ensures (search rules))
