-- Pairs of codes in one byte, and what a tower is on a narrow and on a wide field.
-- Assumes nothing.
use Rattle.std.proofs.Common.{◌≡◌, ℕ, ◌+◌, ◌*◌, ◌/◌, ◌%◌, ◌^◌, ◌<◌, ◌≤◌, not, ◌&&◌, Some, None, Option, sym, ap, ◌∙◌, ap₂, subst, mod-lt, mod-eq_of_lt, arith, pow_pos, pow_mono, shl_lt}
use Rattle.std.proofs.Math.Pow.{mod-mod-pow}
use Rattle.std.proofs.lemmas.Nat.{field_of}
use Rattle.std.proofs.lemmas.Bool.{le-leb, lt-leb}
use lib.Bits.{bit_or, bit_xor, or_shifted_r, xor_lt}
use Rattle.std.specs.Option.{MatchOption}
use Rattle.algebra.specs.Meaning.{Meaning, Shape, IsCode, as_code, low_bits, dead}
use Rattle.algebra.specs.Tower.{pair, tower_product, has_root, tower_by, tower}

-- two codes of m bits side by side
joined : (m low high : ℕ) → m ≤ 4 → low < 2 ^ m → high < 2 ^ m → bit_or low (high * 2 ^ m % 2 ^ 8) ≡ pair m low high
unfolding pair
joined m low high h hl hh =
    let eight : m + m ≤ 8 = omega arith in
    let wide : 2 ^ (m + m) ≤ 2 ^ 8 = pow_mono eight in
    let small : high * 2 ^ m < 2 ^ (m + m) = shl_lt m m hh in
    ap (bit_or low) (mod-eq_of_lt (omega arith)) ∙ or_shifted_r high m low hl ∙ omega arith

-- the field of pairs on a field, with a code of it
abbrev on_pairs : Meaning → ℕ → Meaning
on_pairs M e = record { width = 2 * M.width; one = M.one; product = tower_product M e; sound = M.sound && not (has_root M e) }

-- what is asked of a tower is asked of the pairs that stand for it, or of the dead field
pub tower_answer : {X B R : Type 0} (get : Meaning → R) (meaning : B → Meaning) (t : B) (c : ℕ) (o : Option X) (base : X → B) (code : X → ℕ) (r : R)
    → ((x : X) → (meaning (base x)).width ≤ 4)
    → MatchOption o (4 < (meaning t).width) (λ x. (base x ≡ t) × (code x ≡ low_bits (meaning (base x)).width c))
    → MatchOption o (r ≡ get dead) (λ x. r ≡ get (on_pairs (meaning (base x)) (code x))) → r ≡ get (tower (meaning t) c)
unfolding tower tower_by
tower_answer get meaning t c None base code r narrow stand is = is ∙ sym (ap (λ b. get (tower_by b (meaning t) c)) (lt-leb (meaning t).width 4 stand))
tower_answer get meaning t c (Some x) base code r narrow stand is =
    is ∙ ap (λ e. get (on_pairs (meaning (base x)) e)) stand.1
    ∙ sym (ap (λ b. get (tower (meaning b) c)) (sym stand.0) ∙ ap (λ b. get (tower_by b (meaning (base x)) c)) (le-leb (meaning (base x)).width 4 (narrow x)))

-- the product of two pairs as the code works it out: by halves, each product of codes of the field below
pub pairs_product : (M : Meaning) → Shape M → (m c x y be ad bec ae bd : ℕ) → m ≡ M.width → m ≤ 4 → IsCode M c
    → be ≡ M.product (as_code M (x / 2 ^ m)) (as_code M (y / 2 ^ m)) → ad ≡ M.product (as_code M x) (as_code M y) → bec ≡ M.product (as_code M be) (as_code M c)
    → ae ≡ M.product (as_code M x) (as_code M (y / 2 ^ m)) → bd ≡ M.product (as_code M (x / 2 ^ m)) (as_code M y)
    → bit_or (bit_xor ad bec) (bit_xor (bit_xor ae bd) be * 2 ^ m % 2 ^ 8) ≡ tower_product M c (x % 2 ^ (2 * M.width)) (y % 2 ^ (2 * M.width))
unfolding tower_product as_code
pairs_product M s m c x y be ad bec ae bd w-is narrow hc be-is ad-is bec-is ae-is bd-is =
    let w = M.width in
    let P = M.product in
    let twice : w + w ≡ 2 * w = omega arith in
    let low : (z : ℕ) → z % 2 ^ w ≡ z % 2 ^ (2 * w) % 2 ^ w = λ z. sym (ap (λ n. z % 2 ^ n % 2 ^ w) (sym twice) ∙ mod-mod-pow z w w) in
    let high : (z : ℕ) → z / 2 ^ m % 2 ^ w ≡ z % 2 ^ (2 * w) / 2 ^ w
    = λ z. ap (λ k. z / 2 ^ k % 2 ^ w) w-is ∙ sym (ap (λ n. z % 2 ^ n / 2 ^ w) (sym twice) ∙ field_of z w w) in
    let a = x % 2 ^ (2 * w) % 2 ^ w in
    let b = x % 2 ^ (2 * w) / 2 ^ w in
    let d = y % 2 ^ (2 * w) % 2 ^ w in
    let e = y % 2 ^ (2 * w) / 2 ^ w in
    let a-lt : a < 2 ^ w = mod-lt (x % 2 ^ (2 * w)) (pow_pos w) in
    let d-lt : d < 2 ^ w = mod-lt (y % 2 ^ (2 * w)) (pow_pos w) in
    let b-lt : b < 2 ^ w = subst (λ n. n < 2 ^ w) (high x) (mod-lt (x / 2 ^ m) (pow_pos w)) in
    let e-lt : e < 2 ^ w = subst (λ n. n < 2 ^ w) (high y) (mod-lt (y / 2 ^ m) (pow_pos w)) in
    let be-e : be ≡ P b e = be-is ∙ ap₂ P (high x) (high y) in
    let be-lt : P b e < 2 ^ w = s.product_code b e b-lt e-lt in
    let L = bit_xor (P a d) (P (P b e) c) in
    let H = bit_xor (bit_xor (P a e) (P b d)) (P b e) in
    let L-is : bit_xor ad bec ≡ L
    = ap₂ bit_xor (ad-is ∙ ap₂ P (low x) (low y)) (bec-is ∙ ap₂ P (ap (λ z. z % 2 ^ w) be-e ∙ mod-eq_of_lt be-lt) (mod-eq_of_lt hc)) in
    let H-is : bit_xor (bit_xor ae bd) be ≡ H
    = ap₂ bit_xor (ap₂ bit_xor (ae-is ∙ ap₂ P (low x) (high y)) (bd-is ∙ ap₂ P (high x) (low y))) be-e in
    let L-lt : L < 2 ^ w = xor_lt w (P a d) (P (P b e) c) (s.product_code a d a-lt d-lt) (s.product_code (P b e) c be-lt hc) in
    let H-lt : H < 2 ^ w
    = xor_lt w (bit_xor (P a e) (P b d)) (P b e) (xor_lt w (P a e) (P b d) (s.product_code a e a-lt e-lt) (s.product_code b d b-lt d-lt)) be-lt in
    ap₂ (λ l h. bit_or l (h * 2 ^ m % 2 ^ 8)) L-is H-is ∙ ap (λ k. bit_or L (H * 2 ^ k % 2 ^ 8)) w-is ∙ joined w L H (omega (arith, w-is)) L-lt H-lt
