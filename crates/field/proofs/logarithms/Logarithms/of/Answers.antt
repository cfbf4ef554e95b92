use Rattle.std.proofs.Common.{rules, ◌≡◌, ℕ, ◌≤◌, None, get_or, sym, ap, ◌∙◌, ⊎_elim, arith}
use Rattle.std.proofs.lemmas.Bool.{cases_eq}
use Rattle.algebra.specs.PowerTable.{table_by}
use Rattle.field.specs.Tables.{kept_log}
use Rattle.field.proofs.LookUps.{kept_lowest, kept_zero, verdict, mask_byte, table_live}
use Rattle.field.proofs.logarithms.Logarithms.of.Goals as goal

pub invariant_of-result : goal.invariant_of-result
unfolding table_by
invariant_of-result c =
    let s = c.args.base in
    let p = s.modulus.coefficients in
    let g = c.args.generator in
    let powers = c.powers_of-powers.ensures in
    let logs = c.lowest_places-logs.ensures in
    let list = c.lowest_places-logs.result in
    let right : (a : ℕ) → a ≤ s.mask → get_or list a None ≡ kept_log p g a
    = λ a h. ⊎_elim (λ (z : a ≡ 0). ap (λ z. get_or list z None) z ∙ logs.zero ∙ kept_zero s g ∙ ap (kept_log p g) (sym z))
    (λ some. logs.lowest a (omega (arith, some)) (omega (arith, mask_byte s g)) ∙ kept_lowest s g c.powers_of-powers.result powers a (omega (arith, some)))
    (cases_eq a 0) in
    record {
      judged = c.all_stand.ensures ∙ verdict s g list (search rules) right ∙ sym (ap (λ M. M.sound) (table_live s.modulus g));
      entries = powers;
      logarithms = right;
    }
