use Rattle.std.proofs.Common.{◌≡◌, ℕ, List, [], ◌∷◌, ◌++◌, sym, ap, ◌∙◌, append-nil, append_assoc, length}
use Rattle.std.specs.Iterator.Adapters.{rev_source}
use Rattle.std.specs.Slice.Iter.{iter_rest}
use Rattle.algebra.specs.Meaning.{on_bytes}
use Rattle.algebra.specs.Tuples.{plus, scale, times_x, times, zeros}
use Rattle.algebra.proofs.Plain.{same_times}
use Rattle.blocks.proofs.Coefficients.{zeros_are, all_taken}
use Rattle.blocks.proofs.product.multiply.Goals as goal

pub loop-factor-init : goal.loop-factor-init
unfolding times
loop-factor-init g c =
    let all : iter_rest (rev_source c.into_iter-factor-iterator.result) ≡ c.args.a.now
    = ap (λ x. iter_rest (rev_source x)) c.into_iter-factor-iterator.ensures.into_iter_gives ∙ ap iter_rest c.rev-factor-items.ensures.source ∙ c.iter.ensures.rest in
    let O = on_bytes (g.F.Field.meaning c.args.field.now) in
    let blank : c.fill.new.self ≡ zeros O (length c.args.b.now)
    = c.fill.ensures.after (λ y e. e) ∙ zeros_are (g.F.Field.meaning c.args.field.now) (length c.args.product.now) ∙ ap (zeros O) (c.requires.room ∙ sym c.requires.operand) in
    ([], sym (append-nil _ ∙ all), blank)

pub loop-factor-preserved : goal.loop-factor-preserved
unfolding times
loop-factor-preserved g c =
    let O = on_bytes (g.F.Field.meaning c.args.field.now) in
    let inv = c.loop-factor.invariant in
    let x = c.in-Some.factor.now in (
      x ∷ inv.0,
      inv.1 ∙ ap (λ (rest : List ℕ). rest ++ inv.0) c.in-Some.ensures.steps ∙ append_assoc (iter_rest (rev_source c.next.new.self)) (x ∷ []) inv.0,
      c.add_multiple.ensures.bytes ∙ ap (plus O (scale O x c.args.b.now)) (c.multiply_by_x.ensures.bytes ∙ ap (times_x O c.args.modulus.now) inv.2),
    )

pub returns : goal.returns
returns g c =
    let M = g.F.Field.meaning c.args.field.now in
    let f = c.args.modulus.now in
    let a = c.args.a.now in
    let b = c.args.b.now in
    let inv = c.loop-factor.invariant in
    let bytes : c.loop-factor.product ≡ times (on_bytes M) f a b = inv.2 ∙ ap (λ x. times (on_bytes M) f x b) (all_taken _ inv.0 a inv.1 c.in-None.ensures.steps.0) in
    record { bytes = bytes; codes = λ hf ha hb. bytes ∙ same_times M (g.met.F.Field.shape c.args.field.now) f a b hf ha hb }
