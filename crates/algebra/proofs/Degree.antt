-- The degree of a polynomial over two elements, and which numbers make a shift field.
-- Assumes nothing.
use Rattle.std.proofs.Common.{◌≡◌, ℕ, zero, suc, ◌*◌, ◌^◌, ◌<◌, ◌≤◌, true, false, leb, ◌⊎◌, ap, inl, inr, pow-suc, arith, pow_mono}
use Rattle.std.proofs.lemmas.Bool.{and_parts, and_from, and_left, and_right, leb-true, leb-false, le-leb, lt-leb, cond_both, cases_order}
use Rattle.algebra.specs.Shift.{highest_bit, degree, in_range, shift_by, shift}

-- 2^m ≤ p < 2^(m+1), and m is at most n
pub record Highest (n p m : ℕ) : Type 0 where
  pub reaches : 2 ^ m ≤ p
  pub stays_below : p < 2 ^ suc m
  pub at_most : m ≤ n

pub highest : (n p : ℕ) → 1 ≤ p → p < 2 ^ suc n → Highest n p (highest_bit n p)
unfolding highest_bit
highest zero p lo hi = record { reaches = lo; stays_below = hi; at_most = omega arith }
highest (suc n) p lo hi =
    cond_both (leb (2 ^ suc n) p) (suc n) (highest_bit n p) (Highest (suc n) p)
    (λ e. record { reaches = leb-true (2 ^ suc n) p e; stays_below = hi; at_most = omega arith })
    (λ e. let h = highest n p lo (leb-false (2 ^ suc n) p e) in record { reaches = h.reaches; stays_below = h.stays_below; at_most = omega (arith, h.at_most) })

pub degree_is : (p : ℕ) → 2 ≤ p → p ≤ 511 → Highest 8 p (degree p)
unfolding degree
degree_is p lo hi = highest 8 p (omega arith) (omega arith)

pub degree_positive : (p : ℕ) → 2 ≤ p → p ≤ 511 → 1 ≤ degree p
degree_positive p lo hi = positive (degree p) (degree_is p lo hi).stays_below
  where
    positive : (m : ℕ) → p < 2 ^ suc m → 1 ≤ m
    positive zero h = absurd (omega arith)
    positive (suc m) h = omega arith

-- no other number lies so
pub highest_only : (n p h m : ℕ) → Highest n p h → 2 ^ m ≤ p → p < 2 * 2 ^ m → m ≡ h
highest_only n p h m is reaches below = by (cases_order m h)
  where
    by : (m ≡ h) ⊎ ((m < h) ⊎ (h < m)) → m ≡ h
    by (inl same) = same
    by (inr (inl less)) = let up : 2 ^ suc m ≤ 2 ^ h = pow_mono less in absurd (omega (arith, pow-suc 2 m, is.reaches))
    by (inr (inr more)) = let up : 2 ^ suc h ≤ 2 ^ m = pow_mono more in absurd (omega (arith, is.stays_below))

pub degree_only : (p m : ℕ) → 2 ≤ p → p ≤ 511 → 2 ^ m ≤ p → p < 2 * 2 ^ m → m ≡ degree p
degree_only p m lo hi = highest_only 8 p (degree p) m (degree_is p lo hi)

-- ---- the numbers that a shift field can be made from

pub range : (p : ℕ) → in_range p ≡ true → (2 ≤ p) × (p ≤ 511)
unfolding in_range
range p e = let (l, h) = and_parts (leb 2 p) (leb p 511) e in (leb-true 2 p l, leb-true p 511 h)

pub inside : (p : ℕ) → 2 ≤ p → p ≤ 511 → in_range p ≡ true
unfolding in_range
inside p lo hi = and_from (leb 2 p) (leb p 511) (le-leb 2 p lo) (le-leb p 511 hi)

pub outside : (p : ℕ) → (p < 2) ⊎ (511 < p) → in_range p ≡ false
unfolding in_range
outside p (inl low) = and_left (leb 2 p) (leb p 511) (lt-leb 2 p low)
outside p (inr high) = and_right (leb 2 p) (leb p 511) (lt-leb p 511 high)

pub shift_live : (p : ℕ) → 2 ≤ p → p ≤ 511 → shift p ≡ shift_by true p
unfolding shift
shift_live p lo hi = ap (λ b. shift_by b p) (inside p lo hi)
