use Rattle.std.proofs.Common.{lit<}
use Rattle.lines.proofs.words.Words.word.Goals as goal

pub returns-in_err-first : goal.returns-in_err-first
returns-in_err-first c = rw c.from_residual.ensures (c.in_err-first.ensures.byte (lit< tt) (λ w o h. h))

pub returns : goal.returns
returns c =
    let parts = c.in_ok-first.ensures.byte (lit< tt) (λ w o h. h) in
    record { some = parts.2; before = parts.0; behind = parts.1 }
