use Rattle.std.proofs.Common.{◌≡◌, ℕ, ◌<◌, ◌≢◌, eqb, Option, Some, None, MatchOption, sym, ap, ◌∙◌, zero-add, arith}
use Rattle.std.proofs.lemmas.Bool.{eq-eqb, ne_eqb}
use Rattle.std.specs.Option.{unwrap_or}
use Rattle.algebra.specs.Meaning.{on_bytes}
use Rattle.algebra.specs.Search.{first_from}
use Rattle.algebra.proofs.Search.{first_found, first_none}
use Rattle.blocks.proofs.elimination.inverse_code.Goals as goal

-- what was found, or the last
found : (f : ℕ → ℕ) (one last : ℕ) (r : Option ℕ)
    → MatchOption r ((b : ℕ) → b < last → f b ≢ one) (λ b. (b < last) × (f b ≡ one) × ((k : ℕ) → k < b → f k ≢ one)) → unwrap_or r last ≡ first_from 0 last (λ b. eqb (f b) one)
found f one last None none = sym (first_none (λ b. eqb (f b) one) last 0 (λ k lo hi. ne_eqb (f k) one (none k (omega arith))) ∙ zero-add last)
found f one last (Some b) is =
    sym (first_found (λ b. eqb (f b) one) last 0 b (omega arith) (omega (arith, is.0)) (λ k lo hi. ne_eqb (f k) one (is.2 k hi)) (eq-eqb (f b) one is.1))

pub returns : goal.returns
returns g c =
    let M = g.F.Field.meaning c.args.field.now in
    c.unwrap_or.ensures ∙ found ((on_bytes M).mul c.args.a) M.one c.largest_code-last.result c.inverse_below.result c.inverse_below.ensures
    ∙ ap (λ last. first_from 0 last (λ b. eqb ((on_bytes M).mul c.args.a b) M.one)) c.largest_code-last.ensures
