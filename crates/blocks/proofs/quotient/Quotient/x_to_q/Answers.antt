use Rattle.std.proofs.Common.{ℕ, List, ◌∙◌, ap₂, rules}
use Rattle.algebra.specs.Iteration.{iterate}
use Rattle.algebra.specs.Meaning.{on_bytes}
use Rattle.algebra.specs.Modular.{x_to_q}
use Rattle.algebra.specs.Tuples.{times}
use Rattle.blocks.proofs.quotient.Quotient.x_to_q.Goals as goal

pub returns-clause-value : goal.returns-clause-value
unfolding x_to_q
returns-clause-value g c =
    let O = on_bytes (g.F.Field.meaning c.args.self.now.field.now) in
    let f : List ℕ → List ℕ = λ x. times O c.args.self.now.low x x in
    c.repeated.ensures.value f (λ x r did. search rules) ∙ ap₂ (iterate f) (c.from-width.ensures ∙ c.width.ensures) c.x.ensures.value
