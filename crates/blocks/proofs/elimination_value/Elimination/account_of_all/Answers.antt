use Rattle.std.proofs.Common.{◌<◌, true, false, [], MatchOption, length, sym, refl, ◌∙◌, subst, arith}
use Rattle.std.proofs.lemmas.Bool.{true≢false, false≢true}
use Rattle.algebra.specs.Affine.{DecidesInverse}
use Rattle.algebra.proofs.Affine.{Reducing, started, inverse_square, inverted}
use Rattle.blocks.proofs.Reduction.{row_stuck, one_more, as_many}
use Rattle.blocks.proofs.elimination_value.Elimination.account_of_all.Goals as goal

pub loop-k-init : goal.loop-k-init
loop-k-init g c =
    let x = c.args.field.now in
    let M = g.F.Field.meaning x in
    let s = g.met.F.Field.shape x in
    let rows = c.args.self.work in
    let n = length rows in
    (refl, λ laws square units. subst (Reducing M s n rows 0 rows) (sym units) (started M s n laws rows square))

pub loop-k-preserved : goal.loop-k-preserved
loop-k-preserved g c =
    let x = c.args.field.now in
    let M = g.F.Field.meaning x in
    let rows = c.args.self.work in
    let inv = c.loop-k.invariant in
    let less : c.loop-k.k < length rows = omega (arith, c.loop-k-test.true, c.size-k-end.ensures.value) in
    let W = c.loop-k.state.work in
    let C = c.loop-k.state.account in
    let next = c.reduce.new.self in (
      as_many M c.loop-k.k W C next.work next.account c.in_ok-reduce.ensures.pivot ∙ inv.0,
      λ laws square units.
          one_more M (g.met.F.Field.shape x) laws (length rows) c.loop-k.k rows W C inv.0 less (inv.1 laws square units) next.work next.account c.in_ok-reduce.ensures.pivot,
    )

pub returns-in_err-reduce-clause-verdict : goal.returns-in_err-reduce-clause-verdict
returns-in_err-reduce-clause-verdict g c laws square units =
    let x = c.args.field.now in
    let M = g.F.Field.meaning x in
    let rows = c.args.self.work in
    let inv = c.loop-k.invariant in
    let less : c.loop-k.k < length rows = omega (arith, c.loop-k-test.true, c.size-k-end.ensures.value) in
    subst (λ r. MatchOption r (DecidesInverse M (length rows) rows false []) (DecidesInverse M (length rows) rows true)) (sym c.from_residual.ensures)
    (record {
      square = λ e. absurd (false≢true e);
      inverts = λ e. absurd (false≢true e);
      fails = λ e. row_stuck M (g.met.F.Field.shape x) laws (length rows) c.loop-k.k rows c.loop-k.state.work c.loop-k.state.account inv.0 less (inv.1 laws square units) c.in_err-reduce.ensures.pivot;
    })

pub returns-clause-verdict : goal.returns-clause-verdict
returns-clause-verdict g c laws square units =
    let x = c.args.field.now in
    let M = g.F.Field.meaning x in
    let s = g.met.F.Field.shape x in
    let rows = c.args.self.work in
    let n = length rows in
    let k = c.loop-k.k in
    let red = c.loop-k.invariant.1 laws square units in
    record {
      square = λ e. inverse_square M s n laws rows k c.loop-k.state.work c.loop-k.state.account red;
      inverts = λ e constants h. inverted M s n laws rows k c.loop-k.state.work c.loop-k.state.account red constants h (omega (arith, c.loop-k-test.false, c.size-k-end.ensures.value));
      fails = λ e. absurd (true≢false e);
    }
