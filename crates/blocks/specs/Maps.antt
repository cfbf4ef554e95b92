-- What an affine map stands for.
use Rattle.std.specs.Prelude.{◌≡◌, ℕ, List, take}
use Rattle.algebra.specs.Affine.{affine, Square, OneToOne, Inverts}
use Rattle.algebra.specs.Blocks.{IsBlock}
use Rattle.algebra.specs.Meaning.{Meaning}
use Rattle.blocks.specs.Rooms.{rows_in}
use Rattle.blocks.specs.declared.affine_value.AffineMap.{AffineMap}

-- how many codes its blocks have
abbrev pub size_of : AffineMap → ℕ
size_of p = p.size

-- its constants
abbrev pub constants_of : AffineMap → List ℕ
constants_of p = take p.size p.constants

-- its rows
abbrev pub rows_of : AffineMap → List (List ℕ)
rows_of p = rows_in p.size p.rows

-- the image of a block over a field
abbrev pub image : Meaning → AffineMap → List ℕ → List ℕ
image M p x = affine M (constants_of p) (rows_of p) x

-- all of it is codes
pub record MapCodes (M : Meaning) (p : AffineMap) : Type 0 where
  pub constants : IsBlock M (size_of p) (constants_of p)
  pub rows : Square M (size_of p) (rows_of p)

-- what an inverse is: a map of codes that undoes the map from both sides, so that it gives the only block with a given image; the map is then one to one
pub record UndoneBy (M : Meaning) (p i : AffineMap) : Type 0 where
  pub size : size_of i ≡ size_of p
  pub codes : MapCodes M i
  pub inverts : Inverts M (size_of p) (image M p) (image M i)
  pub only : (x y : List ℕ) → IsBlock M (size_of p) x → IsBlock M (size_of p) y → image M p x ≡ y → x ≡ image M i y
  pub one_to_one : OneToOne M (size_of p) (image M p)
