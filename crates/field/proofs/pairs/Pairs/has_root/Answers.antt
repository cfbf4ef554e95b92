use Rattle.std.proofs.Common.{◌≡◌, ℕ, ◌+◌, ◌*◌, ◌%◌, ◌^◌, ◌≤◌, Bool, eqb, refl, ap, ◌∙◌, mod-eq_of_lt, one-mul, add-zero, rules, arith, pow_mono}
use native.Mathlib.Nat.{sub-zero}
use borrow.Author.Tests.{tests}
use lib.Bits.{bit_xor}
use Rattle.std.specs.List.{list_any, range_with_len}
use Rattle.std.proofs.lemmas.Iterator.{YieldsList-from_range}
use Rattle.std.proofs.lemmas.Iterator.Search.{any_from_yields_List}
use Rattle.algebra.specs.Meaning.{Meaning, as_code}
use Rattle.algebra.specs.Tower.{has_root}
use Rattle.algebra.proofs.Codes.{product_of_codes}
use Rattle.algebra.proofs.Search.{some_below_same}
use Rattle.field.proofs.Searches.{some_in_range}
use Rattle.field.proofs.pairs.Pairs.has_root.Goals as goal

-- how many codes there are, as the code works it out
count : (M : Meaning) (m : ℕ) → m ≤ 4 → m ≡ M.width → 1 * 2 ^ m % 2 ^ 8 ≡ 2 ^ M.width
count M m narrow is =
    let small : 2 ^ m ≤ 2 ^ 4 = pow_mono narrow in
    ap (λ z. z % 2 ^ 8) (one-mul (2 ^ m)) ∙ mod-eq_of_lt (omega arith) ∙ ap (λ w. 2 ^ w) is

root_of : Meaning → ℕ → ℕ → Bool
root_of M c r = eqb (bit_xor (M.product (as_code M r) (as_code M r)) r) c

tried : (M : Meaning) (c : ℕ) → list_any (root_of M c) (range_with_len 0 (2 ^ M.width)) ≡ has_root M c
unfolding has_root root_of
tried M c =
    some_in_range (root_of M c) 0 (2 ^ M.width)
    ∙ some_below_same (λ k. root_of M c (k + 0)) (λ k. eqb (bit_xor (M.product k k) k) c) (2 ^ M.width)
    (λ k h. ap (root_of M c) (add-zero k) ∙ ap (λ z. eqb (bit_xor z k) c) (product_of_codes M k k h h))

pub returns : goal.returns
unfolding root_of
returns g c =
    let s = c.args.self.now in
    let M = g.F.Field.meaning s.base.now in
    any_from_yields_List (root_of M s.c) _ _ _ c.any.ensures.ran (YieldsList-from_range 0 (1 * 2 ^ s.width % 2 ^ 8) (1 * 2 ^ s.width % 2 ^ 8) refl (sub-zero _)) (λ x b q k. search (rules, tests))
    ∙ ap (λ n. list_any (root_of M s.c) (range_with_len 0 n)) (count M s.width s.narrow s.measured)
    ∙ tried M s.c
