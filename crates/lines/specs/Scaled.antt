-- The scaled field on a field: the same codes and sums, and products that carry a factor, so that the one may be another code.
use Rattle.std.specs.Prelude.{ℕ, ◌&&◌, ◌==◌}
use Rattle.algebra.specs.Meaning.{Meaning, low_bits}

-- with the factor f and the one e, by their low bits: the product of a and b is (ab)f by the field below, and it is sound where that field is and fe is its one
unfoldable pub scaled : Meaning → ℕ → ℕ → Meaning
scaled M factor one =
    let f = low_bits M.width factor in
    let e = low_bits M.width one in
    record { width = M.width; one = e; product = λ a b. M.product (M.product a b) f; sound = M.sound && (M.product f e == M.one) }
