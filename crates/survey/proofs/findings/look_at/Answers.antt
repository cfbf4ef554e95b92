use Rattle.std.proofs.Common.{◌≡◌, Bool, true, false, Some, None, Option, IfSome, refl, ◌∙◌, rules}
use Rattle.std.specs.Option.{is_some}
use Rattle.std.proofs.lemmas.Option.{IfSome_then}
use Rattle.algebra.specs.Meaning.{Meaning}
use Rattle.survey.specs.declared.findings.Checked.{Checked}
use Rattle.survey.specs.Codes.{invertible, longest_period}
use Rattle.survey.specs.Findings.{checked_if}
use Rattle.survey.proofs.Inverses.{all_invertible}
use Rattle.survey.proofs.findings.look_at.Goals as goal

-- what is there if the test holds
there_if : (M : Meaning) (b : Bool) (r : Option Checked) → is_some r ≡ b → IfSome r (λ k. (k.invertible ≡ invertible M) × (k.longest ≡ longest_period M)) → r ≡ checked_if b M
there_if M true (Some k) e is = λ i. Some (record { invertible = is.0 i; longest = is.1 i })
there_if M true None e is = cc
there_if M false (Some k) e is = cc
there_if M false None e is = refl

pub returns : goal.returns
returns g c =
    let x = c.args.field.now in
    let M = g.F.Field.meaning x in
    let checked = there_if M M.sound c.then.result (c.then.ensures.variant ∙ c.sound.ensures) (IfSome_then c.then.result c.then.ensures.some (λ k is. search rules)) in
    record {
      value = cc checked;
      inverses = λ sound. all_invertible M (g.met.F.Field.shape x) (g.met.F.Field.laws x sound);
    }
