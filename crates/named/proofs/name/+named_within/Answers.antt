use Rattle.std.proofs.Common.{◌≡◌, suc, ◌-◌, subst, arith}
use Rattle.std.proofs.lemmas.Result.{err_from_is_err_and}
use Rattle.named.specs.Layers.{Says}
use Rattle.named.specs.Names.{Misnames, in_below, one_more}
use Rattle.named.proofs.name.+named_within.Goals as goal

pub returns-then-room-eq0 : goal.returns-then-room-eq0
returns-then-room-eq0 t c =
    rw c.if-room-eq0.true (one_more c.args.text.now c.in-Tower.below.now c.in-Tower.c (subst (Says c.args.text.now) c.in-Tower.is c.in_ok-p.ensures))

pub returns-in_err-named_within-in-Tower : goal.returns-in_err-named_within-in-Tower
returns-in_err-named_within-in-Tower t c =
    let text = c.args.text.now in
    let why = c.in_err-named_within-in-Tower.field-0.0 in
    let p = err_from_is_err_and c.from_residual-in_err-named_within-in-Tower.result c.from_residual-in_err-named_within-in-Tower.ensures.1 in
    let room : suc (c.args.room - 1) ≡ c.args.room = omega (arith, c.if-room-eq0.false) in
    rw (p.1, p.2)
    (subst (λ n. Misnames n text why) room
    (in_below (c.args.room - 1) text c.in-Tower.below.now c.in-Tower.c why (subst (Says text) c.in-Tower.is c.in_ok-p.ensures) c.in_err-named_within-in-Tower.ensures))
