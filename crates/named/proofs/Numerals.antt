-- A numeral holds no space, so a number before a space ends at the first one.
-- Assumes nothing.
use Rattle.std.proofs.Common.{◌≡◌, ℕ, zero, suc, ◌<◌, List, [], ◌∷◌, ◌++◌, length, get_or, drop, sym, ap, ◌∙◌, subst, ⊎_elim, arith, length-drop, get_or-drop}
use Rattle.std.specs.Str.Parse.{AllDigits, without_leading_plus}
use Rattle.std.proofs.lemmas.Str.Parse.{digit_at, without_leading_plus_none, without_leading_plus_plus}
use Rattle.std.proofs.lemmas.Bool.{cases_eq}
use Rattle.named.specs.Numbers.{Reads, Begins, TwoNumbers}

no_space : (a : List ℕ) → AllDigits 10 (without_leading_plus a) → (i : ℕ) → i < length a → get_or a i 0 ≡ 32 → ⊥
no_space a digits i h e = ⊎_elim plus plain (cases_eq (get_or a 0 0) 43)
  where
    plain : (get_or a 0 0 ≡ 43 → ⊥) → ⊥
    plain other =
        let d = digit_at a i (subst (AllDigits 10) (without_leading_plus_none a other) digits) h in
        omega (arith, d, e)

    plus : get_or a 0 0 ≡ 43 → ⊥
    plus is = at i h e
      where
        at : (i : ℕ) → i < length a → get_or a i 0 ≡ 32 → ⊥
        at zero h e = omega (arith, is, e)
        at (suc j) h e =
            let d = digit_at (drop 1 a) j (subst (AllDigits 10) (without_leading_plus_plus a is) digits) (subst (λ n. j < n) (sym (length-drop 1 a)) (omega arith)) in
            let same : get_or (drop 1 a) j 0 ≡ get_or a (suc j) 0 = get_or-drop 1 a j 0 ∙ ap (λ k. get_or a k 0) (omega arith) in
            omega (arith, d, same, e)

pub reads_no_space : (a : List ℕ) (n : ℕ) → Reads a n → (i : ℕ) → i < length a → get_or a i 0 ≡ 32 → ⊥
reads_no_space a n r = no_space a r.0.1

-- what follows the first space
after_space : (a b r s : List ℕ) → a ++ (32 ∷ r) ≡ b ++ (32 ∷ s) → ((i : ℕ) → i < length a → get_or a i 0 ≡ 32 → ⊥) → ((i : ℕ) → i < length b → get_or b i 0 ≡ 32 → ⊥) → r ≡ s
after_space [] [] r s e na nb = ap (drop 1) e
after_space [] (y ∷ b) r s e na nb = absurd (nb 0 (omega arith) (sym (ap (λ l. get_or l 0 0) e)))
after_space (x ∷ a) [] r s e na nb = absurd (na 0 (omega arith) (ap (λ l. get_or l 0 0) e))
after_space (x ∷ a) (y ∷ b) r s e na nb =
    after_space a b r s (ap (drop 1) e) (λ i h. na (suc i) (omega arith)) (λ i h. nb (suc i) (omega arith))

pub one_rest : (text : List ℕ) (n k : ℕ) (r s : List ℕ) → Begins text n r → Begins text k s → r ≡ s
one_rest text n k r s a b = after_space a.0 b.0 r s (sym a.1 ∙ b.1) (reads_no_space a.0 n a.2) (reads_no_space b.0 k b.2)

pub no_second : (text rest : List ℕ) (p : ℕ) → Begins text p rest → ((g : ℕ) → Reads rest g → ⊥) → (q g : ℕ) → TwoNumbers text q g → ⊥
no_second text rest p begins none q g pair = none g (subst (λ z. Reads z g) (one_rest text q p pair.0 rest pair.1 begins) pair.2)
