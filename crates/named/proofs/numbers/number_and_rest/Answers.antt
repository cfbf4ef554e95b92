use Rattle.std.proofs.Common.{Some, None, sym, subst, lit<}
use Rattle.std.proofs.lemmas.Str.Pattern.{split_after, split_parts}
use Rattle.named.specs.Numbers.{Reads}
use Rattle.named.proofs.Numerals.{reads_no_space}
use Rattle.named.proofs.numbers.number_and_rest.Goals as goal

pub returns-in_err-first : goal.returns-in_err-first
returns-in_err-first c =
    rw c.from_residual.ensures (λ n rest b. split_after 32 c.args.text.now b.0 rest None c.in_err-first.ensures.cases (lit< tt) b.1 (reads_no_space b.0 n b.2))

pub returns-in_err-number : goal.returns-in_err-number
returns-in_err-number c =
    rw c.from_residual-in_err-number.ensures
    (λ n rest b. let same = split_after 32 c.args.text.now b.0 rest (Some (c.in_ok-first.first, c.in_ok-first.rest)) c.in_ok-first.ensures.cases (lit< tt) b.1 (reads_no_space b.0 n b.2) in
    c.in_err-number.ensures n (subst (λ z. Reads z n) (sym same.0) b.2))

pub returns : goal.returns
returns c =
    let parts = split_parts 32 c.args.text.now (Some (c.in_ok-first.first, c.in_ok-first.rest)) c.in_ok-first.ensures.cases (lit< tt) in
    (c.in_ok-first.first.now, parts.0, c.in_ok-number.ensures)
