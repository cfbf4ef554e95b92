-- Bits and numbers: the two-element field is a ring, and a number is its tuple of bits.
-- Assumes nothing.
use Rattle.std.proofs.Common.{◌≡◌, ℕ, zero, suc, ◌+◌, ◌*◌, ◌/◌, ◌%◌, ◌^◌, ◌<◌, Bool, true, false, cond, ◌&&◌, eqb, List, [], ◌∷◌, length, sym, refl, ap, ◌∙◌, subst, ap₂, mod-lt, mod-eq_of_lt, pow-suc, suc-ne-zero, add-one, arith, lit<}
use mathlib.Core.Bool.{xor}
use native.Mathlib.Nat.{suc_inj, mod-one}
use lib.Bits.{bit_xor, xor_shr, xor_mod, xor_lt}
use lib.Pow.{mod-pow-add}
use Rattle.algebra.specs.Operations.{Ring2}
use Rattle.algebra.specs.Tuples.{plus, scale, zeros, unit, up, last}
use Rattle.algebra.specs.Bits.{two, bits, number}

pub two_ring : Ring2 two
unfolding two xor
two_ring = record {
  add_assoc = xor_assoc;
  add_comm = xor_comm;
  add_nil = xor_false;
  add_self = xor_self;
  mul_assoc = and_assoc;
  mul_comm = and_comm;
  mul_add = and_xor;
  mul_one = and_true;
}
  where
    xor_assoc : (a b c : Bool) → xor (xor a b) c ≡ xor a (xor b c)
    xor_assoc true true true = refl
    xor_assoc true true false = refl
    xor_assoc true false true = refl
    xor_assoc true false false = refl
    xor_assoc false true true = refl
    xor_assoc false true false = refl
    xor_assoc false false true = refl
    xor_assoc false false false = refl

    xor_comm : (a b : Bool) → xor a b ≡ xor b a
    xor_comm true true = refl
    xor_comm true false = refl
    xor_comm false true = refl
    xor_comm false false = refl

    xor_false : (a : Bool) → xor a false ≡ a
    xor_false true = refl
    xor_false false = refl

    xor_self : (a : Bool) → xor a a ≡ false
    xor_self true = refl
    xor_self false = refl

    and_assoc : (a b c : Bool) → ((a && b) && c) ≡ (a && (b && c))
    and_assoc true b c = refl
    and_assoc false b c = refl

    and_comm : (a b : Bool) → (a && b) ≡ (b && a)
    and_comm true true = refl
    and_comm true false = refl
    and_comm false true = refl
    and_comm false false = refl

    and_xor : (a b c : Bool) → (a && xor b c) ≡ xor (a && b) (a && c)
    and_xor true b c = refl
    and_xor false b c = refl

    and_true : (a : Bool) → (a && true) ≡ a
    and_true true = refl
    and_true false = refl

-- ---- a number and its bits

bit_of : (k : ℕ) → k < 2 → cond (eqb k 1) 1 0 ≡ k
bit_of zero h = refl
bit_of (suc zero) h = refl
bit_of (suc (suc k)) h = absurd (omega arith)

eqb-bit_xor : (j k : ℕ) → j < 2 → k < 2 → eqb (bit_xor j k) 1 ≡ xor (eqb j 1) (eqb k 1)
unfolding xor
eqb-bit_xor zero zero hj hk = refl
eqb-bit_xor zero (suc zero) hj hk = refl
eqb-bit_xor (suc zero) zero hj hk = refl
eqb-bit_xor (suc zero) (suc zero) hj hk = refl
eqb-bit_xor zero (suc (suc k)) hj hk = absurd (omega arith)
eqb-bit_xor (suc zero) (suc (suc k)) hj hk = absurd (omega arith)
eqb-bit_xor (suc (suc j)) k hj hk = absurd (omega arith)

pub length_bits : (v n : ℕ) → length (bits v n) ≡ v
unfolding bits
length_bits zero n = refl
length_bits (suc v) n = ap suc (length_bits v (n / 2))

pub number_bits : (v n : ℕ) → number (bits v n) ≡ n % 2 ^ v
unfolding bits number
number_bits zero n = sym (mod-one n)
number_bits (suc v) n =
    ap₂ (λ x y. x + 2 * y) (bit_of (n % 2) (mod-lt n (lit< tt))) (number_bits v (n / 2))
    ∙ sym (ap (λ k. n % 2 ^ k) (sym (add-one v)) ∙ mod-pow-add n v 1 ∙ omega arith)

pub number_of_code : (v n : ℕ) → n < 2 ^ v → number (bits v n) ≡ n
number_of_code v n h = number_bits v n ∙ mod-eq_of_lt h

pub number_lt : (l : List Bool) → number l < 2 ^ length l
unfolding number
number_lt [] = lit< tt
number_lt (true ∷ l) = let h : number l < 2 ^ length l = number_lt l in omega (arith, pow-suc 2 (length l))
number_lt (false ∷ l) = let h : number l < 2 ^ length l = number_lt l in omega (arith, pow-suc 2 (length l))

low : (x : Bool) (k : ℕ) → eqb ((cond x 1 0 + 2 * k) % 2) 1 ≡ x
low true k = let h : (1 + 2 * k) % 2 ≡ 1 = omega arith in ap (λ z. eqb z 1) h
low false k = let h : (0 + 2 * k) % 2 ≡ 0 = omega arith in ap (λ z. eqb z 1) h

rest : (x : Bool) (k : ℕ) → (cond x 1 0 + 2 * k) / 2 ≡ k
rest true k = omega arith
rest false k = omega arith

pub bits_number : (l : List Bool) (v : ℕ) → length l ≡ v → bits v (number l) ≡ l
unfolding bits number
bits_number [] zero h = refl
bits_number [] (suc v) h = absurd (suc-ne-zero v (sym h))
bits_number (x ∷ l) zero h = absurd (suc-ne-zero (length l) h)
bits_number (x ∷ l) (suc v) h =
    ap₂ ◌∷◌ (low x (number l)) (ap (bits v) (rest x (number l)) ∙ bits_number l v (suc_inj h))

-- ---- sums, zero and one

pub bits_plus : (v a b : ℕ) → bits v (bit_xor a b) ≡ plus two (bits v a) (bits v b)
unfolding bits plus two
bits_plus zero a b = refl
bits_plus (suc v) a b =
    ap₂ ◌∷◌ (ap (λ z. eqb z 1) (xor_mod a b 1) ∙ eqb-bit_xor (a % 2) (b % 2) (mod-lt a (lit< tt)) (mod-lt b (lit< tt)))
    (ap (bits v) (xor_shr a b 1) ∙ bits_plus v (a / 2) (b / 2))

pub number_plus : (a b : List Bool) → length a ≡ length b → number (plus two a b) ≡ bit_xor (number a) (number b)
number_plus a b h =
    let v = length b in
    let ha : number a < 2 ^ v = subst (λ n. number a < 2 ^ n) h (number_lt a) in
    sym (ap number (bits_plus v (number a) (number b) ∙ ap₂ (plus two) (bits_number a v h) (bits_number b v refl)))
    ∙ number_of_code v (bit_xor (number a) (number b)) (xor_lt v (number a) (number b) ha (number_lt b))

pub number_zeros : (v : ℕ) → number (zeros two v) ≡ 0
unfolding number zeros two
number_zeros zero = refl
number_zeros (suc v) = ap (λ k. 0 + 2 * k) (number_zeros v)

pub bits_zero : (v : ℕ) → bits v 0 ≡ zeros two v
unfolding bits zeros two
bits_zero zero = refl
bits_zero (suc v) = ap (λ t. false ∷ t) (bits_zero v)

pub bits_one : (v : ℕ) → bits v 1 ≡ unit two v
unfolding bits unit two
bits_one zero = refl
bits_one (suc v) = ap (λ t. true ∷ t) (bits_zero v)

-- ---- multiples, and one place up

pub number_scale : (x : Bool) (l : List Bool) → number (scale two x l) ≡ cond x (number l) 0
unfolding number scale two
number_scale true [] = refl
number_scale false [] = refl
number_scale true (y ∷ l) = ap (λ k. cond y 1 0 + 2 * k) (number_scale true l)
number_scale false (y ∷ l) = ap (λ k. 0 + 2 * k) (number_scale false l)

-- a tuple with c below it is the tuple moved up, and its last bit at the top
pub number_up : (c : Bool) (t : List Bool) → cond c 1 0 + 2 * number t ≡ number (up two c t) + cond (last two c t) 1 0 * 2 ^ length t
unfolding number up last
number_up c [] = omega arith
number_up c (x ∷ t) =
    let l = cond (last two x t) 1 0 in
    ap (λ k. cond c 1 0 + 2 * k) (number_up x t) ∙ lift_up (cond c 1 0) (number (up two x t)) l (2 ^ length t) (2 ^ suc (length t)) (pow-suc 2 (length t))
  where
    lift_up : (c u l w w' : ℕ) → w' ≡ w * 2 → c + 2 * (u + l * w) ≡ (c + 2 * u) + l * w'
    lift_up c u l w w' e = rw e (omega arith)
