use Rattle.std.proofs.Common.{◌≡◌, ◌++◌, Some, None, Err, Option, MatchOption, codes, rules}
use Rattle.std.specs.Option.{ok_or}
use Rattle.std.proofs.lemmas.Result.{err_from_is_err_and}
use Rattle.named.specs.declared.misnamed.Misnamed.{Misnamed}
use Rattle.named.specs.declared.misnamed.Misnamed.TheVariants.{TableNumbers, TowerNumber}
use Rattle.named.proofs.layer.read_layer.Goals as goal

-- what is missing is named, and known to be missing
missing : {A : Type 0} (o : Option A) (P : Type 0) (Q : A → Type 0) (named why : Misnamed) → Err why ≡ ok_or o named → MatchOption o P Q → (why ≡ named) × P
missing None P Q named why e m = (cc, m)
missing (Some x) P Q named why e m = cc

pub returns-in_err-p-2 : goal.returns-in_err-p-2
returns-in_err-p-2 c =
    let p = err_from_is_err_and c.from_residual-in_err-p-2.result c.from_residual-in_err-p-2.ensures.1 in
    let none = missing c.two_numbers.result _ _ TableNumbers c.in_err-p-2.field-0.0 c.in_err-p-2.ensures.value c.two_numbers.ensures in
    let whole : c.args.text.now ≡ codes "table " ++ c.in-Some-strip_prefix.rest.now = search rules in
    rw (p.1, p.2, none.0) (c.in-Some-strip_prefix.rest.now, whole, none.1)

pub returns-in_err-c : goal.returns-in_err-c
returns-in_err-c c =
    let p = err_from_is_err_and c.from_residual-in_err-c.result c.from_residual-in_err-c.ensures.1 in
    let none = missing c.number_and_rest.result _ _ TowerNumber c.in_err-c.field-0.0 c.in_err-c.ensures.value c.number_and_rest.ensures in
    let whole : c.args.text.now ≡ codes "tower " ++ c.in-Some-strip_prefix-2.rest.now = search rules in
    rw (p.1, p.2, none.0) (c.in-Some-strip_prefix-2.rest.now, whole, none.1)
