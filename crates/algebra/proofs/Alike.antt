-- Fields that multiply alike: they have one one, and the laws pass from one to the other.
-- Assumes nothing.
use Rattle.std.proofs.Common.{◌≡◌, ℕ, zero, suc, ◌^◌, ◌<◌, Bool, sym, refl, ap, ◌∙◌, subst}
use lib.Bits.{bit_xor, xor_lt}
use Rattle.algebra.specs.Operations.{power}
use Rattle.algebra.specs.Meaning.{Meaning, Shape, Laws, IsCode, operations}
use Rattle.algebra.specs.Alike.{SameOne}

pub same_one : SameOne
same_one M N s t L J alike =
    let there : IsCode M N.one = subst (λ w. N.one < 2 ^ w) (sym alike.widths) t.one_code in
    let here : IsCode N M.one = subst (λ w. M.one < 2 ^ w) alike.widths s.one_code in
    sym (J.one_times M.one here) ∙ J.commutes N.one M.one t.one_code here
    ∙ sym (alike.products M.one N.one s.one_code there) ∙ L.one_times N.one there

-- the same width and one, and another way to the same products
module _ (w o : ℕ) (P T : ℕ → ℕ → ℕ) (p t : Bool) where
  abbrev given : Meaning
  given = record { width = w; one = o; product = P; sound = p }

  abbrev other : Meaning
  other = record { width = w; one = o; product = T; sound = t }

  module _ (s : Shape given) (same : (a b : ℕ) → a < 2 ^ w → b < 2 ^ w → T a b ≡ P a b) where
    closed : (a b : ℕ) → a < 2 ^ w → b < 2 ^ w → P a b < 2 ^ w
    closed = s.product_code

    powers : (a : ℕ) → a < 2 ^ w → (k : ℕ) → (power (operations other) a k ≡ power (operations given) a k) × (power (operations given) a k < 2 ^ w)
    unfolding power operations
    powers a h zero = (refl, s.one_code)
    powers a h (suc k) =
        let below = powers a h k in
        (ap (T a) below.0 ∙ same a _ h below.1, closed a _ h below.1)

    pub passed_on : Laws given → Laws other
    passed_on L = record {
      commutes = λ a b ha hb. same a b ha hb ∙ L.commutes a b ha hb ∙ sym (same b a hb ha);
      associates = λ a b c ha hb hc.
          ap (λ z. T z c) (same a b ha hb) ∙ same (P a b) c (closed a b ha hb) hc ∙ L.associates a b c ha hb hc
          ∙ sym (ap (T a) (same b c hb hc) ∙ same a (P b c) ha (closed b c hb hc));
      distributes = λ a b c ha hb hc.
          same a (bit_xor b c) ha (xor_lt w b c hb hc) ∙ L.distributes a b c ha hb hc
          ∙ sym (ap (λ z. bit_xor z (T a c)) (same a b ha hb) ∙ ap (bit_xor (P a b)) (same a c ha hc));
      one_not_zero = L.one_not_zero;
      one_times = λ a h. same o a s.one_code h ∙ L.one_times a h;
      inverse = λ a h not-zero. let i = L.inverse a h not-zero in (i.0, i.1, same a i.0 h i.1 ∙ i.2);
      returns = λ a h. (powers a h (2 ^ w)).0 ∙ L.returns a h;
    }
