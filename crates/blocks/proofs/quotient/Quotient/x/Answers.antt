use Rattle.std.proofs.Common.{◌≡◌, ◌≤◌, length, sym, ap, ◌∙◌, subst, ap₂}
use Rattle.algebra.specs.Meaning.{on_bytes}
use Rattle.algebra.specs.Modular.{variable}
use Rattle.algebra.specs.Tuples.{times_x}
use Rattle.algebra.proofs.Tuples.{length_times_x}
use Rattle.blocks.proofs.quotient.Quotient.x.Goals as goal

pub multiply_by_x-requires : goal.multiply_by_x-requires
multiply_by_x-requires g c =
    let size = ap length (c.copy_from_slice.ensures.after ∙ c.as_slice.ensures.value) ∙ c.one-one.ensures.size in
    record { same = size ∙ sym (ap length c.as_slice-2.ensures.value); some = subst (λ n. 1 ≤ n) (sym size) c.args.self.now.some }

pub returns : goal.returns
unfolding variable
returns g c =
    let f = c.args.self.now.low in
    let O = on_bytes (g.F.Field.meaning c.args.self.now.field.now) in
    let one = c.copy_from_slice.ensures.after ∙ c.as_slice.ensures.value in
    let value : c.from_bytes.result ≡ times_x O f c.one-one.result
    = c.from_bytes.ensures ∙ c.multiply_by_x.ensures.bytes ∙ ap₂ (times_x O) c.as_slice-2.ensures.value one in
    record { value = value ∙ ap (times_x O f) c.one-one.ensures.value; size = ap length value ∙ length_times_x O f c.one-one.result c.one-one.ensures.size }
