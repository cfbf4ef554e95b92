-- Worked examples of the definitions, as one list.
use Rattle.std.specs.Prelude.{Bool, true, false, not, ◌&&◌, List, [], ◌∷◌, ℕ, ◌^◌, eqb}
use Rattle.algebra.specs.Exponent.{inverse_exponent}
use Rattle.algebra.specs.Meaning.{Meaning, operations}
use Rattle.algebra.specs.PowerTable.{power_table}
use Rattle.algebra.specs.Search.{some_below}
use Rattle.algebra.specs.Shift.{shift}
use Rattle.algebra.specs.Tower.{tower}
use Rattle.algebra.specs.Tuples.{times}

-- what an example says of a field; of a block's product, with the modulus first; or of the exponent that undoes 1 + q^t for m, v and t
pub data Case : Type 0 where
  product_is : Meaning → ℕ → ℕ → ℕ → Case
  multiplies_as : Meaning → Meaning → Case
  is_sound : Meaning → Case
  is_unsound : Meaning → Case
  block_product_is : Meaning → List ℕ → List ℕ → List ℕ → List ℕ → Case
  exponent_is : ℕ → ℕ → ℕ → ℕ → Case

-- some two codes have another product in the second field
unfoldable pub differ : Meaning → Meaning → Bool
differ M N = some_below (2 ^ M.width) (λ a. some_below (2 ^ M.width) (λ b. not (eqb (M.product a b) (N.product a b))))

-- two blocks are the same
unfoldable pub same_block : List ℕ → List ℕ → Bool
same_block [] [] = true
same_block [] (y ∷ b) = false
same_block (x ∷ a) [] = false
same_block (x ∷ a) (y ∷ b) = eqb x y && same_block a b

-- the definitions yield the example
unfoldable pub yields : Case → Bool
yields (product_is M a b r) = eqb (M.product a b) r
yields (multiplies_as M N) = eqb M.width N.width && not (differ M N)
yields (is_sound M) = M.sound
yields (is_unsound M) = not M.sound
yields (block_product_is M f a b r) = same_block (times (operations M) f a b) r
yields (exponent_is m v t e) = eqb (inverse_exponent m v t) e

-- they yield every example of a list
unfoldable pub all_yield : List Case → Bool
all_yield [] = true
all_yield (c ∷ cs) = yields c && all_yield cs

-- the tower of four elements
unfoldable pub four : Meaning
four = tower (shift 2) 1

-- a tower of sixteen on it
unfoldable pub sixteen : Meaning
sixteen = tower four 2

-- the examples
unfoldable pub cases : List Case
cases =
    product_is (shift 7) 2 2 3
    ∷ product_is (shift 7) 2 3 1
    ∷ product_is (shift 19) 8 2 3
    ∷ product_is (shift 283) 128 2 27
    ∷ multiplies_as four (shift 7)
    ∷ is_sound (tower four 2)
    ∷ is_unsound (tower four 1)
    ∷ is_sound (tower sixteen 8)
    ∷ is_unsound (tower sixteen 4)
    ∷ block_product_is (shift 7) (1 ∷ 1 ∷ 2 ∷ []) (3 ∷ 0 ∷ 0 ∷ []) (3 ∷ 2 ∷ 1 ∷ []) (2 ∷ 1 ∷ 3 ∷ [])
    ∷ block_product_is (shift 283) (121 ∷ 66 ∷ 189 ∷ []) (242 ∷ 33 ∷ 6 ∷ []) (240 ∷ 132 ∷ 119 ∷ []) (49 ∷ 171 ∷ 164 ∷ [])
    ∷ block_product_is sixteen (8 ∷ 11 ∷ 0 ∷ 14 ∷ 7 ∷ []) (1 ∷ 5 ∷ 3 ∷ 11 ∷ 15 ∷ []) (7 ∷ 12 ∷ 3 ∷ 7 ∷ 0 ∷ []) (13 ∷ 3 ∷ 1 ∷ 6 ∷ 11 ∷ [])
    ∷ block_product_is (power_table 19 2) (2 ∷ 15 ∷ 8 ∷ 1 ∷ 0 ∷ 4 ∷ []) (15 ∷ 11 ∷ 10 ∷ 0 ∷ 8 ∷ 15 ∷ []) (6 ∷ 13 ∷ 3 ∷ 6 ∷ 8 ∷ 2 ∷ []) (3 ∷ 11 ∷ 15 ∷ 13 ∷ 5 ∷ 3 ∷ [])
    ∷ exponent_is 1 3 1 5
    ∷ exponent_is 1 5 2 25
    ∷ exponent_is 2 3 1 38
    ∷ []
