-- A range over all codes gives them in order, and each is the code that it is taken for.
-- Assumes nothing.
use Rattle.std.proofs.Common.{◌≡◌, ℕ, zero, suc, ◌+◌, ◌-◌, ◌^◌, false, List, ◌∷◌, ◌⊎◌, inl, inr, ⊎_elim, map, sym, ap, ◌∙◌, ap₂, subst, zero-add, pow_pos, arith}
use Rattle.std.specs.declared.ops.RangeInclusive.{RangeInclusive}
use Rattle.std.specs.Range.{range_inclusive_start, range_inclusive_end, range_inclusive_exhausted, range_inclusive_len, range_inclusive_left}
use Rattle.std.specs.List.{range_with_len}
use Rattle.std.proofs.iter.runs.Sources.{nat_range_inclusive_steps}
use Rattle.std.proofs.lemmas.Bool.{cases_Bool}
use Rattle.std.proofs.lemmas.Iterator.{YieldsList}
use Rattle.std.proofs.lemmas.Iterator.Consumers.{YieldsList-from_shown}
use Rattle.std.proofs.lemmas.List.FromFn.{length-range_with_len, get_or-range_with_len, length-map-range_with_len, fill_by_all}
use Rattle.algebra.specs.Meaning.{Meaning, as_code}
use Rattle.algebra.proofs.Codes.{own_code}
use Rattle.survey.specs.Codes.{all_codes}

-- how many numbers a range has left
left : RangeInclusive ℕ → ℕ
left s = range_inclusive_left (λ x y. y - x) s

one_less : (v : ℕ → ℕ) (a b m n : ℕ) → n + 1 ≡ m → (n ≡ 0) ⊎ (b ≡ a + 1) → map v (range_with_len a m) ≡ v a ∷ map v (range_with_len b n)
one_less v a b zero n e next = absurd (omega arith)
one_less v a b (suc m) n e next =
    let same : m ≡ n = omega arith in
    ap (λ l. v a ∷ l)
    (⊎_elim (λ (none : n ≡ 0). ap (λ j. map v (range_with_len (a + 1) j)) (same ∙ none) ∙ sym (ap (λ j. map v (range_with_len b j)) none))
    (λ at. ap₂ (λ k j. map v (range_with_len k j)) (sym at) same) next)

none_or_next : (s : RangeInclusive ℕ) → (left s ≡ 0) ⊎ (range_inclusive_exhausted s ≡ false)
unfolding left
none_or_next s = ⊎_elim (λ z. inl (ap (range_inclusive_len (λ x y. y - x) (range_inclusive_start s) (range_inclusive_end s)) z)) inr (cases_Bool (range_inclusive_exhausted s))

module _ (M : Meaning) where
  taken : map (as_code M) (all_codes M) ≡ all_codes M
  taken =
      let n = 2 ^ M.width in
      sym (fill_by_all (as_code M) (all_codes M) n 0 (length-range_with_len 0 n) (λ k h. get_or-range_with_len 0 n k 0 h ∙ zero-add k ∙ sym (own_code M k h)))

  shown : RangeInclusive ℕ → List ℕ
  shown s = map (as_code M) (range_with_len (range_inclusive_start s) (left s))

  pub all_codes_yield : (s : RangeInclusive ℕ) → range_inclusive_start s ≡ 0 → range_inclusive_end s ≡ 2 ^ M.width - 1 → range_inclusive_exhausted s ≡ false
      → YieldsList nat_range_inclusive_steps (as_code M) s (all_codes M)
  unfolding shown left
  all_codes_yield s first last fresh =
      let len = ap (range_inclusive_len (λ x y. y - x) (range_inclusive_start s) (range_inclusive_end s)) fresh in
      let all : left s ≡ 2 ^ M.width = omega (arith, len, first, last, pow_pos M.width) in
      subst (YieldsList nat_range_inclusive_steps (as_code M) s) (ap₂ (λ a n. map (as_code M) (range_with_len a n)) first all ∙ taken)
      (YieldsList-from_shown nat_range_inclusive_steps (as_code M) shown
      (λ s t h. length-map-range_with_len (as_code M) (range_inclusive_start s) (left s) ∙ h.1.0)
      (λ s x t h. one_less (as_code M) (range_inclusive_start s) (range_inclusive_start t) (left s) (left t) h.1.1 (⊎_elim inl (λ z. inr (h.1.2 z)) (none_or_next t))
      ∙ ap (λ a. as_code M a ∷ shown t) (sym h.1.0)) s)
