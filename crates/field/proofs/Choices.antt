-- The fields that a power table answers from: its tables, or the dead field.
-- Assumes nothing.
use Rattle.std.proofs.Common.{◌≡◌, ℕ, Some, None, Option, ap, Bor, ◌∙◌}
use Rattle.std.specs.Option.{MatchOption, option_copied}
use Rattle.algebra.specs.Meaning.{Meaning, dead}
use Rattle.algebra.specs.Shift.{in_range}
use Rattle.algebra.specs.PowerTable.{table_by, power_table}
use Rattle.field.specs.declared.logarithms.Logarithms.{Logarithms}
use Rattle.field.specs.declared.power_table_value.PowerTable.{PowerTable}
use Rattle.field.proofs.Answers.{answered, settled}

abbrev pub numbers : Logarithms → ℕ × ℕ
numbers l = (l.base.modulus.coefficients, l.generator)

-- what is asked of a power table is asked of the tables that are kept, or of the dead field
pub table_answer : {R : Type 0} (get : Meaning → R) (t : PowerTable) (o : Option (Bor Logarithms)) (r : R) → option_copied o ≡ t.logarithms
    → MatchOption o (r ≡ get dead) (λ l. r ≡ get (power_table l.now.base.modulus.coefficients l.now.generator)) → r ≡ get (power_table t.number t.generator)
unfolding power_table table_by
table_answer get t o r kept is =
    let p = t.number in
    let g = t.generator in
    answered t.logarithms numbers (in_range p) (p, g) (λ n. get (power_table n.0 n.1)) (get dead) r t.made (behind o t.logarithms kept is)
    ∙ settled (in_range p) (get (power_table p g)) (get dead) (λ e. ap (λ b. get (table_by b p g)) e)
  where
    behind : (o : Option (Bor Logarithms)) (q : Option Logarithms) → option_copied o ≡ q
        → MatchOption o (r ≡ get dead) (λ l. r ≡ get (power_table l.now.base.modulus.coefficients l.now.generator))
        → MatchOption q (r ≡ get dead) (λ l. r ≡ get (power_table l.base.modulus.coefficients l.generator))
    behind None q e is = rw (← e) is
    behind (Some l) q e is = rw (← e) is
