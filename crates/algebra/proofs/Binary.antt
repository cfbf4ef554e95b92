-- Products of polynomials over two elements, worked out on numbers: plain, and modulo a polynomial.
-- Assumes nothing.
use Rattle.std.proofs.Common.{◌≡◌, ℕ, zero, suc, ◌+◌, ◌-◌, ◌*◌, ◌/◌, ◌%◌, ◌^◌, ◌<◌, ◌≤◌, Bool, true, false, cond, eqb, List, [], ◌∷◌, length, sym, refl, ap, ◌∙◌, subst, ap₂, mod-lt, one-mul, pow-suc, mul-zero, zero-add, zero-mul, add-one, arith, lit<, shr-shr}
use mathlib.Core.Bool.{xor}
use lib.Bits.{bit_xor, xor_zero_r, xor_comm, xor_block}
use lib.Arith.{lt-one}
use lib.Pow.{high, low}
use Rattle.algebra.specs.Tuples.{scale, up, last, times_x, times}
use Rattle.algebra.specs.Polynomials.{coefficient, Same, poly_sum, poly_product, monic}
use Rattle.algebra.specs.Bits.{two, bits, number}
use Rattle.algebra.specs.Shift.{binary_product}
use Rattle.algebra.proofs.Tuples.{length_scale, length_up, length_times_x, length_times}
use Rattle.algebra.proofs.Bits.{length_bits, number_bits, number_of_code, bits_number, number_lt, number_plus, number_zeros, number_scale, number_up}

-- ---- X times a code modulo p, and the product from the highest bit down

-- twice r, less p where that reaches 2^w
unfoldable pub step : ℕ → ℕ → ℕ → ℕ
step w p r = let d = 2 * r in bit_xor d (d / 2 ^ w * p)

-- the n lowest bits of a, from the highest down: X times what stands so far, and b where the bit is set
unfoldable pub horner : ℕ → ℕ → ℕ → ℕ → ℕ → ℕ
horner w p b zero a = 0
horner w p b (suc n) a = bit_xor (step w p (horner w p b n (a / 2))) (a % 2 * b)

-- the top bit goes, and what it stands for comes in
step_by : (w u g : ℕ) (x : Bool) (d : ℕ) → u < 2 ^ w → g < 2 ^ w → d ≡ u + cond x 1 0 * 2 ^ w
    → bit_xor d (d / 2 ^ w * (2 ^ w + g)) ≡ bit_xor u (cond x g 0)
step_by w u g true d hu hg e =
    let s : d ≡ 1 * 2 ^ w + u = omega arith in
    let t : d / 2 ^ w ≡ 1 = ap (λ z. z / 2 ^ w) s ∙ high 1 w hu in
    let q : 1 * (2 ^ w + g) ≡ 1 * 2 ^ w + g = omega arith in
    ap₂ bit_xor s (ap (λ z. z * (2 ^ w + g)) t ∙ q) ∙ xor_block w 1 1 u g hu hg ∙ ap (λ z. z + bit_xor u g) (zero-mul (2 ^ w)) ∙ zero-add (bit_xor u g)
step_by w u g false d hu hg e =
    let s : d ≡ 0 * 2 ^ w + u = omega arith in
    let t : d / 2 ^ w ≡ 0 = ap (λ z. z / 2 ^ w) s ∙ high 0 w hu in
    let d-is : d ≡ u = omega arith in
    ap₂ bit_xor d-is (ap (λ z. z * (2 ^ w + g)) t ∙ zero-mul (2 ^ w + g))

pub number_times_x : (w p : ℕ) → 2 ^ w ≤ p → p < 2 ^ suc w → (t : List Bool) → length t ≡ w
    → number (times_x two (bits w p) t) ≡ step w p (number t)
unfolding times_x step two
number_times_x w p lo hi t h =
    let f = bits w p in
    let x = last two false t in
    let u = up two false t in
    let g = p - 2 ^ w in
    let p-is : p ≡ 2 ^ w + g = omega arith in
    let hg : g < 2 ^ w = omega (arith, pow-suc 2 w) in
    let hu : number u < 2 ^ w = subst (λ n. number u < 2 ^ n) (length_up two false t ∙ h) (number_lt u) in
    let low-p : number f ≡ g = number_bits w p ∙ ap (λ z. z % 2 ^ w) (p-is ∙ ap (λ z. z + g) (sym (one-mul (2 ^ w)))) ∙ low 1 w hg in
    let twice : 2 * number t ≡ number u + cond x 1 0 * 2 ^ w
    = sym (zero-add (2 * number t)) ∙ number_up false t ∙ ap (λ n. number u + cond x 1 0 * 2 ^ n) h in
    number_plus u (scale two x f) (length_up two false t ∙ h ∙ sym (length_scale two x f ∙ length_bits w p))
    ∙ ap (bit_xor (number u)) (number_scale x f ∙ ap (λ z. cond x z 0) low-p)
    ∙ sym (step_by w (number u) g x (2 * number t) hu hg twice)
    ∙ ap (λ z. bit_xor (2 * number t) (2 * number t / 2 ^ w * z)) (sym p-is)

-- bit times number
chosen : (k b : ℕ) → k < 2 → cond (eqb k 1) b 0 ≡ k * b
chosen zero b h = sym (zero-mul b)
chosen (suc zero) b h = sym (one-mul b)
chosen (suc (suc k)) b h = absurd (omega arith)

pub horner_times : (w p : ℕ) → 2 ^ w ≤ p → p < 2 ^ suc w → (b : ℕ) → b < 2 ^ w → (n a : ℕ)
    → number (times two (bits w p) (bits n a) (bits w b)) ≡ horner w p b n a
unfolding horner times bits
horner_times w p lo hi b hb zero a = number_zeros (length (bits w b))
horner_times w p lo hi b hb (suc n) a =
    let f = bits w p in
    let c = bits w b in
    let t = times two f (bits n (a / 2)) c in
    let hc : length c ≡ length f = length_bits w b ∙ sym (length_bits w p) in
    let ht : length t ≡ length f = length_times two f (bits n (a / 2)) c hc in
    let x = eqb (a % 2) 1 in
    number_plus (scale two x c) (times_x two f t) (length_scale two x c ∙ hc ∙ sym (length_times_x two f t ht))
    ∙ ap₂ bit_xor
    (number_scale x c ∙ ap (λ z. cond x z 0) (number_of_code w b hb) ∙ chosen (a % 2) b (mod-lt a (lit< tt)))
    (number_times_x w p lo hi t (ht ∙ length_bits w p) ∙ ap (step w p) (horner_times w p lo hi b hb n (a / 2)))
    ∙ xor_comm (a % 2 * b) (step w p (horner w p b n (a / 2)))

-- ---- the plain product

-- the n lowest bits of a: b where the lowest is set, and twice the product with the others
unfoldable pub carryless : ℕ → ℕ → ℕ → ℕ
carryless zero a b = 0
carryless (suc n) a b = bit_xor (a % 2 * b) (2 * carryless n (a / 2) b)

bit_sum : (x y : Bool) (j k : ℕ) → cond (xor x y) 1 0 + 2 * bit_xor j k ≡ bit_xor (cond x 1 0 + 2 * j) (cond y 1 0 + 2 * k)
unfolding xor
bit_sum x y j k =
    let shape : (z : Bool) (n : ℕ) → cond z 1 0 + 2 * n ≡ n * 2 ^ 1 + cond z 1 0 = λ z n. omega arith in
    shape (xor x y) (bit_xor j k) ∙ ap (λ z. bit_xor j k * 2 ^ 1 + z) (digits x y)
    ∙ sym (xor_block 1 j k (cond x 1 0) (cond y 1 0) (small x) (small y)) ∙ ap₂ bit_xor (sym (shape x j)) (sym (shape y k))
  where
    digits : (x y : Bool) → cond (xor x y) 1 0 ≡ bit_xor (cond x 1 0) (cond y 1 0)
    digits true true = refl
    digits true false = refl
    digits false true = refl
    digits false false = refl

    small : (x : Bool) → cond x 1 0 < 2 ^ 1
    small true = lit< tt
    small false = lit< tt

pub number_sum : (p q : List Bool) → number (poly_sum two p q) ≡ bit_xor (number p) (number q)
unfolding number poly_sum two
number_sum [] q = refl
number_sum (x ∷ p) [] = sym (xor_zero_r (cond x 1 0 + 2 * number p))
number_sum (x ∷ p) (y ∷ q) = ap (λ z. cond (xor x y) 1 0 + 2 * z) (number_sum p q) ∙ bit_sum x y (number p) (number q)

number_carryless : (n a : ℕ) (q : List Bool) → number (poly_product two (bits n a) q) ≡ carryless n a (number q)
unfolding poly_product bits carryless number two
number_carryless zero a q = refl
number_carryless (suc n) a q =
    let r = poly_product two (bits n (a / 2)) q in
    number_sum (scale two (eqb (a % 2) 1) q) (false ∷ r)
    ∙ ap₂ bit_xor (number_scale (eqb (a % 2) 1) q ∙ chosen (a % 2) (number q) (mod-lt a (lit< tt)))
    (zero-add (2 * number r) ∙ ap (λ z. 2 * z) (number_carryless n (a / 2) q))

carryless_none : (n b : ℕ) → carryless n 0 b ≡ 0
unfolding carryless
carryless_none zero b = refl
carryless_none (suc n) b = ap₂ bit_xor (zero-mul b) (ap (λ z. 2 * z) (carryless_none n b))

pub carryless_nil : (n a : ℕ) → carryless n a 0 ≡ 0
unfolding carryless
carryless_nil zero a = refl
carryless_nil (suc n) a = ap₂ bit_xor (mul-zero (a % 2)) (ap (λ z. 2 * z) (carryless_nil n (a / 2)))

half_below : (n a : ℕ) → a < 2 ^ suc n → a / 2 < 2 ^ n
half_below n a h = let e : 2 ^ suc n ≡ 2 ^ n * 2 = pow-suc 2 n in omega arith

-- bits past the highest change nothing
carryless_enough : (n k a b : ℕ) → a < 2 ^ n → a < 2 ^ k → carryless n a b ≡ carryless k a b
unfolding carryless
carryless_enough zero k a b hn hk = sym (ap (λ z. carryless k z b) (lt-one hn) ∙ carryless_none k b)
carryless_enough (suc n) zero a b hn hk = ap (λ z. carryless (suc n) z b) (lt-one hk) ∙ carryless_none (suc n) b
carryless_enough (suc n) (suc k) a b hn hk =
    ap (λ z. bit_xor (a % 2 * b) (2 * z)) (carryless_enough n k (a / 2) b (half_below n a hn) (half_below k a hk))

pub below_power : (n : ℕ) → n < 2 ^ n
below_power zero = lit< tt
below_power (suc n) = let h : n < 2 ^ n = below_power n in omega (arith, pow-suc 2 n)

pub binary_carryless : (n a b : ℕ) → a < 2 ^ n → binary_product a b ≡ carryless n a b
unfolding binary_product
binary_carryless n a b h =
    number_carryless a a (bits b b) ∙ ap (carryless a a) (number_of_code b b (below_power b)) ∙ carryless_enough a n a b (below_power a) h

pub number_product : (p q : List Bool) → number (poly_product two p q) ≡ binary_product (number p) (number q)
number_product p q =
    ap (λ z. number (poly_product two z q)) (sym (bits_number p (length p) refl))
    ∙ number_carryless (length p) (number p) q ∙ sym (binary_carryless (length p) (number p) (number q) (number_lt p))

-- ---- a polynomial and its number

even_odd : (x y : Bool) (j k : ℕ) → cond x 1 0 + 2 * j ≡ cond y 1 0 + 2 * k → (x ≡ y) × (j ≡ k)
even_odd true true j k e = (refl, omega arith)
even_odd true false j k e = absurd (omega arith)
even_odd false true j k e = absurd (omega arith)
even_odd false false j k e = (refl, omega arith)

-- equal numbers are one polynomial, and the other way round
pub same_of_number : (p q : List Bool) → number p ≡ number q → Same two p q
unfolding Same coefficient number two
same_of_number [] [] e i = refl
same_of_number [] (y ∷ q) e zero = (even_odd false y 0 (number q) e).0
same_of_number [] (y ∷ q) e (suc i) = same_of_number [] q (even_odd false y 0 (number q) e).1 i
same_of_number (x ∷ p) [] e zero = (even_odd x false (number p) 0 e).0
same_of_number (x ∷ p) [] e (suc i) = same_of_number p [] (even_odd x false (number p) 0 e).1 i
same_of_number (x ∷ p) (y ∷ q) e zero = (even_odd x y (number p) (number q) e).0
same_of_number (x ∷ p) (y ∷ q) e (suc i) = same_of_number p q (even_odd x y (number p) (number q) e).1 i

pub number_of_same : (p q : List Bool) → Same two p q → number p ≡ number q
unfolding Same coefficient number two
number_of_same [] [] e = refl
number_of_same [] (y ∷ q) e = ap₂ (λ x k. cond x 1 0 + 2 * k) (e zero) (number_of_same [] q (λ i. e (suc i)))
number_of_same (x ∷ p) [] e = ap₂ (λ x k. cond x 1 0 + 2 * k) (e zero) (number_of_same p [] (λ i. e (suc i)))
number_of_same (x ∷ p) (y ∷ q) e = ap₂ (λ x k. cond x 1 0 + 2 * k) (e zero) (number_of_same p q (λ i. e (suc i)))

pub number_monic : (f : List Bool) → number (monic two f) ≡ number f + 2 ^ length f
unfolding number monic two
number_monic [] = refl
number_monic (x ∷ f) = ap (λ k. cond x 1 0 + 2 * k) (number_monic f) ∙ lifted (cond x 1 0) (number f) (2 ^ length f) (2 ^ suc (length f)) (pow-suc 2 (length f))
  where
    lifted : (c k w w' : ℕ) → w' ≡ w * 2 → c + 2 * (k + w) ≡ (c + 2 * k) + w'
    lifted c k w w' e = omega arith

-- ---- a turn of the loop that works a product out

pub horner_lt : (w p : ℕ) → 2 ^ w ≤ p → p < 2 ^ suc w → (b : ℕ) → b < 2 ^ w → (n a : ℕ) → horner w p b n a < 2 ^ w
horner_lt w p lo hi b hb n a =
    let t = times two (bits w p) (bits n a) (bits w b) in
    let h : length t ≡ w = length_times two (bits w p) (bits n a) (bits w b) (length_bits w b ∙ sym (length_bits w p)) ∙ length_bits w p in
    subst (λ z. z < 2 ^ w) (horner_times w p lo hi b hb n a) (subst (λ k. number t < 2 ^ k) h (number_lt t))

-- from the bits above i to those from i up
pub horner_next : (w p b n i a : ℕ) → horner w p b (suc n) (a / 2 ^ i) ≡ bit_xor (step w p (horner w p b n (a / 2 ^ suc i))) (a / 2 ^ i % 2 * b)
unfolding horner
horner_next w p b n i a = ap (λ k. bit_xor (step w p (horner w p b n k)) (a / 2 ^ i % 2 * b)) (shr-shr a i 1 ∙ ap (λ k. a / 2 ^ k) (add-one i))
