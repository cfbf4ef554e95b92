use Rattle.std.proofs.Common.{rules}
use Rattle.lines.proofs.Answers.{some_true}
use Rattle.lines.proofs.map_cases.map_solves.Goals as goal

pub returns-then-back-clause-value : goal.returns-then-back-clause-value
returns-then-back-clause-value g c = λ e. record {
  again = c.in_ok-again.ensures.value.0 (some_true c.in_ok-again.again e);
  inverse = c.in-Some.inverse;
  back = c.in_ok-back.ensures.value.0 (search rules);
  undone = c.in-Some.ensures.verdict;
}
