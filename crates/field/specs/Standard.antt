-- The table of polynomials as the library answers from it.
use Rattle.std.specs.Prelude.{ℕ, cond, ◌&&◌, Some, None, Option, nat_le}
use Rattle.algebra.specs.Standard.{polynomial_of}

-- the polynomial of a width from 1 to 8, and nothing for another number
abbrev pub standard : ℕ → Option ℕ
standard width = cond (nat_le 1 width && nat_le width 8) (Some (polynomial_of width)) None
