-- Blocks and rows that are written over the start of an empty room.
-- Assumes nothing.
use Rattle.std.proofs.Common.{◌≡◌, ℕ, ◌+◌, ◌-◌, ◌<◌, ◌≤◌, List, [], ◌++◌, length, get_or, take, drop, set, replicate, sym, ap, ◌∙◌, subst, ⊎_elim, arith, length-set, get_or-set_other, get_or-set_same}
use Rattle.std.proofs.lemmas.Bool.{cases_eq}
use Rattle.std.proofs.lemmas.List.{take_at, take-replicate, drop-replicate, length-replicate, replicate-append-replicate}
use Rattle.blocks.specs.Rooms.{in_room, Fills, in_rooms, FillsSquare, Even}

-- what lies at the start of a room whose rest is as it was
front : {A : Type 0} (e : A) (xs : List A) (n : ℕ) → length xs ≡ n → xs ++ replicate (32 - length xs) e ≡ xs ++ drop n (replicate 32 e)
front e xs n size = ap (λ t. xs ++ t) (ap (λ k. replicate (32 - k) e) size ∙ sym (drop-replicate n 32 e))

pub written : (bytes : List ℕ) (n : ℕ) → length bytes ≡ n → n ≤ 32 → Fills n (bytes ++ drop n (replicate 32 0))
written bytes n size few =
    let start = take_at bytes (drop n (replicate 32 0)) n size in
    record { few = few; whole = ap length start ∙ size; rest = ap in_room start ∙ front 0 bytes n size }

-- the start of a block's room is the block
pub start : (block : List ℕ) (n : ℕ) → length block ≡ n → take n (in_room block) ≡ block
start block n size = take_at block (replicate (32 - length block) 0) n size

pub zeros : (n : ℕ) → n ≤ 32 → Fills n (replicate 32 0)
zeros n few =
    let all : n + (32 - n) ≡ 32 = omega arith in
    subst (Fills n) (ap (λ t. replicate n 0 ++ t) (drop-replicate n 32 0) ∙ replicate-append-replicate n (32 - n) 0 ∙ ap (λ k. replicate k 0) all)
    (written (replicate n 0) n (length-replicate n 0) few)

square : (rows : List (List ℕ)) (n : ℕ) → length rows ≡ n → n ≤ 32 → Even rows → FillsSquare n (rows ++ drop n (replicate 32 []))
square rows n size few even =
    let start = take_at rows (drop n (replicate 32 [])) n size in
    record { few = few; whole = ap length start ∙ size; even = subst Even (sym start) even; rest = ap in_rooms start ∙ front [] rows n size }

-- rows that were all written, over the start of rooms that are empty
pub all_written : (rows : List (List ℕ)) (n i : ℕ) (e : List ℕ) → e ≡ [] → length rows ≡ n → i ≡ n → n ≤ 32 → ((k : ℕ) → k < i → length (get_or rows k []) ≡ n)
    → FillsSquare n (rows ++ drop n (replicate 32 e))
all_written rows n i e empty tall done few long =
    subst (λ x. FillsSquare n (rows ++ drop n (replicate 32 x))) (sym empty) (square rows n tall few (λ k h. long k (omega (arith, h, tall, done)) ∙ sym tall))

-- how long the part of a room is that a call is lent
pub part : {A : Type 0} (e : A) (n : ℕ) → n ≤ 32 → length (take n (replicate 32 e)) ≡ n
part e n few = ap length (take-replicate n 32 e few) ∙ length-replicate n e

-- rows of one length stay so where one of them is written
pub long_set : (rows : List (List ℕ)) (i n : ℕ) (v : List ℕ) → ((k : ℕ) → k < length rows → length (get_or rows k []) ≡ n) → length v ≡ n
    → (k : ℕ) → k < length (set rows i v) → length (get_or (set rows i v) k []) ≡ n
long_set rows i n v each is k h =
    let inside : k < length rows = subst (λ m. k < m) (length-set rows i v) h in
    ⊎_elim (λ (e : k ≡ i). ap (λ z. length (get_or (set rows i v) z [])) e ∙ ap length (get_or-set_same rows i v [] (subst (λ z. z < length rows) e inside)) ∙ is)
    (λ other. ap length (get_or-set_other rows i k v [] other) ∙ each k inside) (cases_eq k i)
