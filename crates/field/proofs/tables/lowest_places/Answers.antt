use Rattle.std.proofs.Common.{◌≡◌, ◌+◌, ◌-◌, None, sym, refl, ap, ◌∙◌, arith, length-set, get_or-set_other, get_or-set_same}
use lib.ListN.{get_or-replicate}
use Rattle.field.proofs.Places.{lowest_from, lowest_end, lowest_all, written}
use Rattle.field.proofs.tables.lowest_places.Goals as goal

pub loop-k-init : goal.loop-k-init
loop-k-init c = (refl, λ a h. get_or-replicate 256 a None None h ∙ sym (lowest_end c.args.powers.now c.args.places a))

pub loop-k-preserved : goal.loop-k-preserved
loop-k-preserved c =
    let powers = c.args.powers.now in
    let logs = c.loop-k.logs in
    let k = c.loop-k.k in
    let inv = c.loop-k.invariant in
    let up : k - 1 + 1 ≡ k = omega (arith, c.loop-k-test.true) in (
      length-set logs _ _ ∙ inv.0,
      λ a h. written powers logs c.args.places (k - 1) a inv.0 (omega (arith, c.loop-k-test.true, c.loop-k.auto.k)) h
          (inv.1 a h ∙ ap (λ i. lowest_from powers c.args.places i a) (sym up)),
    )

pub returns : goal.returns
returns c =
    let powers = c.args.powers.now in
    let logs = c.loop-k.logs in
    let inv = c.loop-k.invariant in
    let done : c.loop-k.k ≡ 0 = omega (arith, c.loop-k-test.false) in
    record {
      zero = get_or-set_same logs 0 None None (omega (arith, inv.0));
      lowest = λ a pos h.
          get_or-set_other logs 0 a None None (λ e. omega arith) ∙ inv.1 a h
          ∙ ap (λ i. lowest_from powers c.args.places i a) done ∙ lowest_all powers c.args.places a;
    }
