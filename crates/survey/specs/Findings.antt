-- What the survey has to say of a field.
use Rattle.std.specs.Prelude.{Bool, true, false, Some, None, Option}
use Rattle.algebra.specs.Meaning.{Meaning}
use Rattle.survey.specs.Codes.{invertible, longest_period}
use Rattle.survey.specs.declared.findings.Checked.{Checked}
use Rattle.survey.specs.declared.findings.Findings.{Findings}

-- only a sound field is gone through
abbrev pub checked_if : Bool → Meaning → Option Checked
checked_if true M = Some (record { invertible = invertible M; longest = longest_period M })
checked_if false M = None

-- its width, its one, and what came of going through it
abbrev pub findings : Meaning → Findings
findings M = record { width = M.width; one = M.one; checked = checked_if M.sound M }
