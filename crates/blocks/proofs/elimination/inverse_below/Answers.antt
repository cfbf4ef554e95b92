use Rattle.std.proofs.Common.{◌≡◌, ℕ, ◌<◌, ◌≤◌, ◌≢◌, Option, Some, None, MatchOption, rules, arith}
use Rattle.std.proofs.lemmas.Iterator.{first_from_Range}
use borrow.Author.Tests.{tests}
use Rattle.algebra.specs.Meaning.{on_bytes}
use Rattle.blocks.proofs.elimination.inverse_below.Goals as goal

-- from 0 on is everywhere
anywhere : (r : Option ℕ) (last : ℕ) (Yes No : ℕ → Type 0) → MatchOption r ((k : ℕ) → 0 ≤ k → k < last → No k) (λ i. (0 ≤ i) × (i < last) × Yes i × ((k : ℕ) → 0 ≤ k → k < i → No k))
    → MatchOption r ((k : ℕ) → k < last → No k) (λ i. (i < last) × Yes i × ((k : ℕ) → k < i → No k))
anywhere None last Yes No h = λ k less. h k (omega arith) less
anywhere (Some i) last Yes No h = (h.1, h.2, λ k less. h.3 k (omega arith) less)

pub returns : goal.returns
unfolding on_bytes
returns g c =
    let M = g.F.Field.meaning c.args.field.now in
    let f = (on_bytes M).mul c.args.a in
    anywhere c.find.result c.args.last (λ b. f b ≡ M.one) (λ b. f b ≢ M.one)
    (first_from_Range _ _ _ c.find.result (λ b. f b ≡ M.one) (λ b. f b ≢ M.one) c.find.ensures.ran (λ x q k. search (rules, tests)) (λ x q k. search (rules, tests)))
