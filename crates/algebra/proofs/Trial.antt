-- Which polynomials of degree 1 to 8 over two elements split: trial division by those of degree 1 to 4, and the facts that antt computes.
-- Assumes nothing.
use Rattle.std.proofs.Common.{◌≡◌, ℕ, zero, suc, ◌+◌, ◌-◌, ◌*◌, ◌/◌, ◌^◌, ◌<◌, ◌≤◌, Bool, true, false, not, ◌&&◌, ◌||◌, eqb, ltb, refl, subst, arith}
use Rattle.std.proofs.lemmas.Bool.{and_parts, true≢false, false≢true}
use Rattle.algebra.specs.Search.{some_below}
use Rattle.algebra.specs.Shift.{degree, highest_bit}
use Rattle.algebra.proofs.Search.{all_below, all_below_at}
use Rattle.algebra.proofs.Binary.{step, horner, carryless}

-- the remainder of p on division by d
unfoldable pub remainder : ℕ → ℕ → ℕ
remainder d p = horner (degree d) d 1 9 p

-- d has a lower degree than p and divides it
unfoldable pub divides : ℕ → ℕ → Bool
divides d p = ltb d (2 ^ degree p) && eqb (remainder d p) 0

-- some polynomial of degree 1 to 4 does
unfoldable pub trial : ℕ → Bool
trial p = some_below 30 (λ k. divides (k + 2) p)

-- the quotient that goes with the remainder
quotient_by : ℕ → ℕ → ℕ → ℕ
quotient_by d zero a = 0
quotient_by d (suc n) a = 2 * quotient_by d n (a / 2) + 2 * horner (degree d) d 1 n (a / 2) / 2 ^ degree d

unfoldable pub cofactor : ℕ → ℕ → ℕ
unfolding quotient_by
cofactor d p = quotient_by d 9 p

-- what divides p is a factor
unfoldable pub factors : ℕ → ℕ → Bool
factors d p = let c = cofactor d p in ltb c (2 ^ degree p) && eqb (carryless 8 c d) p

-- X squared n times, modulo p
unfoldable pub squared : ℕ → ℕ → ℕ → ℕ
squared p zero a = a
squared p (suc n) a = let m = degree p in let s = squared p n a in horner m p s m s

-- X squared as often as p has degrees is X again
unfoldable pub x_returns : ℕ → Bool
x_returns p = let m = degree p in eqb (squared p m (step m p 1)) (step m p 1)

-- nothing but zero and one is its own square
unfoldable pub few_own_squares : ℕ → Bool
few_own_squares p = let m = degree p in all_below (2 ^ m) (λ e. not (eqb (horner m p e m e) e) || ltb e 2)

test_factors : ℕ → Bool
test_factors p = all_below 30 (λ k. elim (divides (k + 2) p) [ true ↦ factors (k + 2) p | false ↦ true ])

test_field : ℕ → Bool
test_field p = elim (trial p) [ true ↦ true | false ↦ x_returns p && few_own_squares p ]

all_factors : all_below 510 (λ k. test_factors (k + 2)) ≡ true
unfolding all_below test_factors divides factors cofactor remainder degree highest_bit horner step carryless
all_factors = refl

all_fields : all_below 510 (λ k. test_field (k + 2)) ≡ true
unfolding all_below test_field trial some_below divides remainder x_returns squared few_own_squares degree highest_bit horner step
all_fields = refl

-- the same at each p
at_each : (test : ℕ → Bool) → all_below 510 (λ k. test (k + 2)) ≡ true → (p : ℕ) → 2 ≤ p → p ≤ 511 → test p ≡ true
at_each test e p lo hi =
    let is : p - 2 + 2 ≡ p = omega arith in
    let h : p - 2 < 510 = omega arith in
    subst (λ z. test z ≡ true) is (all_below_at (λ k. test (k + 2)) 510 e (p - 2) h)

when_true : (t b : Bool) → t ≡ true → elim t as (λ _. Bool) [ true ↦ b | false ↦ true ] ≡ true → b ≡ true
when_true true b e h = h
when_true false b e h = absurd (false≢true e)

when_false : (t b : Bool) → t ≡ false → elim t as (λ _. Bool) [ true ↦ true | false ↦ b ] ≡ true → b ≡ true
when_false true b e h = absurd (true≢false e)
when_false false b e h = h

pub factor_found : (p k : ℕ) → 2 ≤ p → p ≤ 511 → k < 30 → divides (k + 2) p ≡ true → factors (k + 2) p ≡ true
unfolding test_factors
factor_found p k lo hi hk e =
    when_true (divides (k + 2) p) (factors (k + 2) p) e
    (all_below_at (λ k. elim (divides (k + 2) p) [ true ↦ factors (k + 2) p | false ↦ true ]) 30 (at_each test_factors all_factors p lo hi) k hk)

pub none_found : (p : ℕ) → 2 ≤ p → p ≤ 511 → trial p ≡ false → (x_returns p ≡ true) × (few_own_squares p ≡ true)
unfolding test_field
none_found p lo hi e =
    let both : (x_returns p && few_own_squares p) ≡ true = when_false (trial p) (x_returns p && few_own_squares p) e (at_each test_field all_fields p lo hi) in
    and_parts (x_returns p) (few_own_squares p) both
