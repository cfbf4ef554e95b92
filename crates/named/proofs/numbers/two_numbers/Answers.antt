use Rattle.named.proofs.Numerals.{no_second}
use Rattle.named.proofs.numbers.two_numbers.Goals as goal

pub returns-in_err-first : goal.returns-in_err-first
returns-in_err-first c = rw c.from_residual.ensures (λ p g two. c.in_err-first.ensures p two.0 two.1)

pub returns-in_err-number : goal.returns-in_err-number
returns-in_err-number c =
    rw c.from_residual-in_err-number.ensures (no_second c.args.text.now c.in_ok-first.rest.now c.in_ok-first.first c.in_ok-first.ensures c.in_err-number.ensures)
