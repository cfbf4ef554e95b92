-- Affine maps on blocks, and when they are one to one.
use Rattle.std.specs.Prelude.{◌≡◌, ℕ, ◌<◌, Bool, true, false, List, [], length, slice_index_or}
use Rattle.algebra.specs.Meaning.{Meaning, on_bytes}
use Rattle.algebra.specs.Tuples.{zeros}
use Rattle.algebra.specs.Linear.{combination}
use Rattle.algebra.specs.Blocks.{IsBlock}

-- the image of a block x: the constants plus x_i times row i for each i
abbrev pub affine : Meaning → List ℕ → List (List ℕ) → List ℕ → List ℕ
affine M constants rows x = combination (on_bytes M) constants rows x

-- without constants
abbrev pub linear : Meaning → ℕ → List (List ℕ) → List ℕ → List ℕ
linear M n rows x = affine M (zeros (on_bytes M) n) rows x

-- n rows of n codes
pub record Square (M : Meaning) (n : ℕ) (rows : List (List ℕ)) : Type 0 where
  pub tall : length rows ≡ n
  pub each : (i : ℕ) → i < n → IsBlock M n (slice_index_or rows i [])

-- no two blocks of size n have one image
abbrev pub OneToOne : Meaning → ℕ → (List ℕ → List ℕ) → Type 0
OneToOne M n S = (x y : List ℕ) → IsBlock M n x → IsBlock M n y → S x ≡ S y → x ≡ y

-- T undoes S from both sides on the blocks of size n
pub record Inverts (M : Meaning) (n : ℕ) (S T : List ℕ → List ℕ) : Type 0 where
  pub leads : (y : List ℕ) → IsBlock M n y → IsBlock M n (T y)
  pub after : (x : List ℕ) → IsBlock M n x → T (S x) ≡ x
  pub before : (y : List ℕ) → IsBlock M n y → S (T y) ≡ y

-- what an answer and rows C say of a square of rows: where it is yes, C gives the inverse of the map with any constants; where it is no, no such map
-- is one to one
pub record DecidesInverse (M : Meaning) (n : ℕ) (rows : List (List ℕ)) (r : Bool) (C : List (List ℕ)) : Type 0 where
  pub square : r ≡ true → Square M n C
  pub inverts : r ≡ true → (c : List ℕ) → IsBlock M n c → Inverts M n (affine M c rows) (affine M (linear M n C c) C)
  pub fails : r ≡ false → (c : List ℕ) → IsBlock M n c → OneToOne M n (affine M c rows) → ⊥
