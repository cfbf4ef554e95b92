-- The tower on a field: pairs a + bZ of its codes with ZZ = Z + c, where c is a code of it.
use Rattle.std.specs.Prelude.{ℕ, ◌+◌, ◌*◌, ◌/◌, ◌%◌, ◌^◌, Bool, true, false, not, ◌&&◌, bit_xor, nat_eq, nat_le}
use Rattle.algebra.specs.Meaning.{Meaning, low_bits, dead}
use Rattle.algebra.specs.Search.{some_below}

-- the code of a + bZ, where the codes a and b have m bits
unfoldable pub pair : ℕ → ℕ → ℕ → ℕ
pair m a b = a + 2 ^ m * b

-- (a + bZ)(d + eZ) = (ad + (be)c) + (ae + bd + be)Z, with the products and sums of the field below as they stand
unfoldable pub tower_product : Meaning → ℕ → ℕ → ℕ → ℕ
tower_product M c x y =
    let m = M.width in
    let a = x % 2 ^ m in
    let b = x / 2 ^ m in
    let d = y % 2 ^ m in
    let e = y / 2 ^ m in
    pair m (bit_xor (M.product a d) (M.product (M.product b e) c)) (bit_xor (bit_xor (M.product a e) (M.product b d)) (M.product b e))

-- some code r has rr + r = c
unfoldable pub has_root : Meaning → ℕ → Bool
has_root M c = some_below (2 ^ M.width) (λ r. nat_eq (bit_xor (M.product r r) r) c)

-- the tower on a field that is narrow enough, and the dead field on a wider one
unfoldable pub tower_by : Bool → Meaning → ℕ → Meaning
tower_by false M c = dead
tower_by true M c =
    record { width = 2 * M.width; one = M.one; product = tower_product M (low_bits M.width c); sound = M.sound && not (has_root M (low_bits M.width c)) }

-- the tower on a field of width up to 4; of c the low bits count
unfoldable pub tower : Meaning → ℕ → Meaning
tower M c = tower_by (nat_le M.width 4) M c
