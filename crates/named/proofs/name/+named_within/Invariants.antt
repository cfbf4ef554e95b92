use Rattle.named.proofs.name.+named_within.Given as goal

abbrev pub decreases-named_within : goal.decreases-named_within
decreases-named_within l = l.room
