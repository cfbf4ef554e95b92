use Rattle.std.proofs.Common.{◌≡◌, ◌<◌, ◌≤◌, length, get_or, sym, refl, ap, ◌∙◌, subst, arith}
use lib.Bits.{bit_xor, xor_comm}
use Rattle.algebra.specs.Meaning.{on_bytes}
use Rattle.algebra.specs.Tuples.{plus, scale}
use Rattle.algebra.proofs.Entries.{plus_at, scale_at}
use Rattle.algebra.proofs.Plain.{same_multiple}
use Rattle.algebra.proofs.Tuples.{length_cut, length_scale}
use Rattle.blocks.proofs.Writing.{higher, below_all}
use Rattle.blocks.proofs.tuples.add_multiple.Goals as goal

pub loop-i-init : goal.loop-i-init
loop-i-init g c = record { size = refl; done = λ k h. absurd (omega arith); kept = λ k h. refl }

pub loop-i-preserved : goal.loop-i-preserved
unfolding on_bytes
loop-i-preserved g c =
    let O = on_bytes (g.F.Field.meaning c.args.field.now) in
    let block = c.args.block.now in
    let old = c.args.sum.now in
    let s = c.args.factor in
    let i = c.loop-i.i in
    let hs : i < length old = c.loop-i-test.true in
    let hb : i < length block = omega (arith, hs, c.requires) in
    let value : bit_xor (get_or c.loop-i.sum i 0) c.product.result ≡ get_or (plus O (scale O s block) old) i 0
    = ap (λ z. bit_xor z c.product.result) (c.loop-i.invariant.kept i (omega arith))
    ∙ ap (bit_xor (get_or old i 0)) (c.product.ensures ∙ sym (scale_at O s block i 0 hb))
    ∙ xor_comm (get_or old i 0) (get_or (scale O s block) i 0)
    ∙ sym (plus_at O (scale O s block) old i 0 (subst (λ n. i < n) (sym (length_scale O s block)) hb) hs) in
    higher c.loop-i.sum old (plus O (scale O s block) old) i (bit_xor (get_or c.loop-i.sum i 0) c.product.result) c.loop-i.invariant hs value

pub returns : goal.returns
returns g c =
    let O = on_bytes (g.F.Field.meaning c.args.field.now) in
    let block = c.args.block.now in
    let old = c.args.sum.now in
    let new = plus O (scale O c.args.factor block) old in
    let bytes : c.loop-i.sum ≡ new
    = below_all c.loop-i.sum old new c.loop-i.i c.loop-i.invariant c.loop-i-test.false
    (length_cut O (scale O c.args.factor block) old (subst (λ n. length old ≤ n) (sym (length_scale O c.args.factor block)) c.requires)) in
    record { bytes = bytes; codes = λ hs hb. bytes ∙ same_multiple (g.F.Field.meaning c.args.field.now) c.args.factor block old hs hb }
