-- A text of bytes, parted by commas, part by part.
-- Assumes nothing.
use Rattle.std.proofs.Common.{◌≡◌, ℕ, List, [], ◌∷◌, ◌++◌, map, sym, subst, Bor}
use Rattle.std.proofs.lemmas.List.{map-append}
use Rattle.lines.specs.BlockText.{ReadsByte, ReadsEach}

pub none_read : ReadsEach [] []
unfolding ReadsEach
none_read = tt

one_more : (ts : List (List ℕ)) (ns : List ℕ) (t : List ℕ) (n : ℕ) → ReadsEach ts ns → ReadsByte t n → ReadsEach (ts ++ (t ∷ [])) (ns ++ (n ∷ []))
unfolding ReadsEach
one_more [] [] t n h r = (r, tt)
one_more [] (m ∷ ns) t n h r = absurd h
one_more (s ∷ ts) [] t n h r = absurd h
one_more (s ∷ ts) (m ∷ ns) t n h r = (h.0, one_more ts ns t n h.1 r)

abbrev texts : List (Bor (List ℕ)) → List (List ℕ)
texts = map (λ x. x.now)

pub part_read : (parts : List (Bor (List ℕ))) (part : Bor (List ℕ)) (bytes more : List ℕ) (n : ℕ)
    → ReadsEach (texts parts) bytes → ReadsByte part.now n → more ≡ bytes ++ (n ∷ []) → ReadsEach (texts (parts ++ (part ∷ []))) more
part_read parts part bytes more n before here is =
    subst (ReadsEach (texts (parts ++ (part ∷ [])))) (sym is)
    (subst (λ ts. ReadsEach ts (bytes ++ (n ∷ []))) (sym (map-append (λ x. x.now) parts (part ∷ [])))
    (one_more (texts parts) bytes part.now n before here))
