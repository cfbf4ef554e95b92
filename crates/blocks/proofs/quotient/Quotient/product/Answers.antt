use Rattle.std.proofs.Common.{length, drop, replicate, ap, ◌∙◌, ap₂}
use Rattle.std.proofs.lemmas.List.{take_at}
use Rattle.algebra.specs.Meaning.{on_bytes}
use Rattle.algebra.specs.Tuples.{times}
use Rattle.algebra.proofs.Tuples.{length_times}
use Rattle.blocks.proofs.Rooms.{part, written}
use Rattle.blocks.proofs.quotient.Quotient.product.Goals as goal

pub invariant_of-result : goal.invariant_of-result
invariant_of-result g c =
    let n = c.size-size.result in
    let few = c.size-size.ensures.few in
    written c.multiply.new.product n (c.multiply.auto.product ∙ part 0 n few) few

pub returns : goal.returns
returns g c =
    let O = on_bytes (g.F.Field.meaning c.args.self.now.field.now) in
    let f = c.args.self.now.low in
    let a = c.args.a in
    let b = c.args.b in
    let n = c.size-size.result in
    let front = take_at c.multiply.new.product (drop n (replicate 32 0)) n (c.multiply.auto.product ∙ part 0 n c.size-size.ensures.few) in
    let value = front ∙ c.multiply.ensures.bytes
    ∙ ap₂ (λ (x y : _). times O x y c.as_slice-3.result.now) c.as_slice.ensures.value c.as_slice-2.ensures.value ∙ ap (times O f a) c.as_slice-3.ensures.value in
    record { value = value; size = ap length value ∙ length_times O f a b c.requires }
