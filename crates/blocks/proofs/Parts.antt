-- Bytes that are read as rows, one after the other.
-- Assumes nothing.
use Rattle.std.proofs.Common.{◌≡◌, ℕ, zero, suc, ◌+◌, ◌-◌, ◌*◌, ◌<◌, ◌≤◌, List, [], ◌∷◌, ◌++◌, length, take, drop, set, sym, refl, ap, ◌∙◌, append_assoc, append-nil, mul-suc, max, subst, ⊎_elim, mul-zero, zero-mul, suc-ne-zero, arith, length-append, length-drop}
use Rattle.std.proofs.lemmas.Bool.{cases_lt}
use Rattle.std.proofs.lemmas.List.{take_more_set, take_at, drop_at, take_all}
use Rattle.blocks.specs.Rooms.{parts}

-- the first i rows are read; what is left of the bytes gives the rest
pub record Parted (n : ℕ) (bytes : List ℕ) (i : ℕ) (rows : List (List ℕ)) (rest : List ℕ) : Type 0 where
  pub left : length rest ≡ n * (n - i)
  pub done : take i rows ++ parts n (n - i) rest ≡ parts n n bytes

pub none_parted : (n : ℕ) (bytes : List ℕ) (rows : List (List ℕ)) → length bytes ≡ n * n → Parted n bytes 0 rows bytes
none_parted n bytes rows h = record { left = h ∙ ap (λ k. n * k) (omega arith); done = ap (λ k. parts n k bytes) (omega arith) }

-- enough is left for one row
pub row_left : (n i : ℕ) (rest : List ℕ) → i < n → length rest ≡ n * (n - i) → n ≤ length rest
row_left n i rest less h =
    let e : n - i ≡ suc (n - i - 1) = omega arith in
    let m : n * suc (n - i - 1) ≡ n * (n - i - 1) + n = mul-suc n (n - i - 1) in
    omega (arith, h ∙ ap (λ k. n * k) e, m)

pub row_parted : (n : ℕ) (bytes : List ℕ) (i : ℕ) (rows : List (List ℕ)) (rest row : List ℕ) → Parted n bytes i rows rest → i < n → i < length rows
    → row ≡ take n rest → Parted n bytes (i + 1) (set rows i row) (drop n rest)
unfolding parts
row_parted n bytes i rows rest row p less tall is =
    let e : n - i ≡ suc (n - (i + 1)) = omega arith in
    let enough : n ≤ length rest = row_left n i rest less p.left in
    let m : n * suc (n - (i + 1)) ≡ n * (n - (i + 1)) + n = mul-suc n (n - (i + 1)) in
    record {
      left = omega (arith, length-drop n rest, p.left ∙ ap (λ k. n * k) e, m);
      done =
          ap (λ (t : List (List ℕ)). t ++ parts n (n - (i + 1)) (drop n rest)) (take_more_set rows i row tall ∙ ap (λ (x : List ℕ). take i rows ++ (x ∷ [])) is)
          ∙ append_assoc (take i rows) (take n rest ∷ []) (parts n (n - (i + 1)) (drop n rest))
          ∙ ap (λ k. take i rows ++ parts n k rest) (sym e) ∙ p.done;
    }

-- a chunk of what is left is the next row
pub chunk_parted : (n : ℕ) (bytes : List ℕ) (i : ℕ) (rows : List (List ℕ)) (rest row left : List ℕ) → Parted n bytes i rows rest → rest ≡ row ++ left → length row ≡ max n 1 → length rows ≡ n
    → (length row ≡ n) × Parted n bytes (i + 1) (set rows i row) left
chunk_parted zero bytes i rows rest row left p is size tall = absurd (omega (arith, p.left, ap length is, length-append row left, size, zero-mul (0 - i)))
chunk_parted (suc m) bytes i rows rest row left p is size tall =
    let n = suc m in
    let row-size : length row ≡ n = omega arith in
    let some : 0 < length rest = omega (arith, ap length is, length-append row left) in
    let less : i < n = ⊎_elim (λ (h : i < n). h) (λ (h : n ≤ i). absurd (none h some)) (cases_lt i n) in (
      row-size,
      subst (Parted n bytes (i + 1) (set rows i row)) (ap (drop n) is ∙ drop_at row left n row-size)
          (row_parted n bytes i rows rest row p less (subst (λ k. i < k) (sym tall) less) (sym (ap (take n) is ∙ take_at row left n row-size))),
    )
  where
    none : suc m ≤ i → 0 < length rest → ⊥
    none h some =
        let e : suc m - i ≡ 0 = omega arith in
        let zero-left : length rest ≡ 0 = p.left ∙ ap (λ k. suc m * k) e ∙ mul-zero (suc m) in
        omega arith

-- where less than a row is left, all are read
pub all_parted : (n : ℕ) (bytes : List ℕ) (i : ℕ) (rows : List (List ℕ)) (rest : List ℕ) → Parted n bytes i rows rest → length rest < max n 1 → length rows ≡ n → rows ≡ parts n n bytes
unfolding parts
all_parted zero bytes i [] rest p few tall = refl
all_parted zero bytes i (row ∷ rows) rest p few tall = absurd (suc-ne-zero (length rows) tall)
all_parted (suc m) bytes i rows rest p few tall =
    let n = suc m in
    let past : n ≤ i = ⊎_elim (λ (h : i < n). absurd (more h)) (λ (h : n ≤ i). h) (cases_lt i n) in
    let none : n - i ≡ 0 = omega arith in
    sym (append-nil (take i rows) ∙ take_all i rows (omega arith)) ∙ ap (λ k. take i rows ++ parts n k rest) (sym none) ∙ p.done
  where
    more : i < suc m → ⊥
    more h =
        let e : suc m - i ≡ suc (suc m - i - 1) = omega arith in
        omega (arith, p.left ∙ ap (λ k. suc m * k) e, mul-suc (suc m) (suc m - i - 1))
