-- What a field that is chosen while the program runs means: what the field in it means.
use Rattle.algebra.specs.Meaning.{Meaning}
use Rattle.algebra.specs.Shift.{shift}
use Rattle.algebra.specs.PowerTable.{power_table}
use Rattle.algebra.specs.Tower.{tower}
use Rattle.named.specs.declared.ground.Ground.{Ground}
use Rattle.named.specs.declared.ground.Ground.TheVariants.{OfShift, OfTable}
use Rattle.named.specs.declared.storey.Storey.{Storey}
use Rattle.named.specs.declared.storey.Storey.TheVariants.{Zero, One, Two, Three}

-- a field that stands on no other
abbrev pub ground : Ground → Meaning
ground (OfShift s) = shift s.number
ground (OfTable t) = power_table t.number t.generator

-- a field with up to three towers on it
abbrev pub storey : Storey → Meaning
storey (Zero f) = ground f
storey (One t) = tower (ground t.base) t.c
storey (Two t) = tower (tower (ground t.base.base) t.base.c) t.c
storey (Three t) = tower (tower (tower (ground t.base.base.base) t.base.base.c) t.base.c) t.c
