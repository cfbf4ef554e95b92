use Rattle.std.proofs.Common.{◌≡◌, ℕ, ◌<◌, get_or}
use Rattle.algebra.specs.PowerTable.{entry}
use Rattle.field.proofs.tables.powers_of.Given as goal

-- the places gone through are filled, and x is what comes next
abbrev pub invariant-loop-power : goal.invariant-loop-power
invariant-loop-power l = record {
  next : l.x ≡ entry l.base.modulus.coefficients l.generator l.power-index;
  filled : (i : ℕ) → i < l.power-index → get_or l.places i 0 ≡ entry l.base.modulus.coefficients l.generator i;
}
