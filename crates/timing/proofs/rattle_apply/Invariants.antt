use Rattle.std.proofs.Common.{◌≡◌, length}
use Rattle.timing.proofs.rattle_apply.Given as goal

abbrev pub invariant-loop : goal.invariant-loop
invariant-loop l = length l.block ≡ 32
