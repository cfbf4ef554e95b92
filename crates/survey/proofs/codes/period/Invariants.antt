use Rattle.std.proofs.Common.{◌≡◌, ℕ, ◌-◌, ◌^◌, ◌<◌, eqb}
use Rattle.algebra.specs.Operations.{power}
use Rattle.algebra.specs.Meaning.{as_code, operations}
use Rattle.algebra.proofs.Search.{Fails}
use Rattle.survey.proofs.codes.period.Given as goal

-- x is the product of e - 1 copies, and no smaller number of copies gives one
abbrev pub invariant-loop-e : goal.invariant-loop-e
invariant-loop-e g l =
    let M = g.F.Field.meaning l.field in
    let copies : ℕ → ℕ = power (operations M) (as_code M l.a) in
    record { product : l.x ≡ copies (l.e - 1); code : l.x < 2 ^ M.width; none : Fails (λ k. eqb (copies k) M.one) 1 l.e }
