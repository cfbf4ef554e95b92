use Rattle.std.proofs.Common.{◌≡◌, ℕ, List, ◌++◌}
use Rattle.std.specs.Iterator.Adapters.{rev_source}
use Rattle.std.specs.Slice.Iter.{iter_rest}
use Rattle.algebra.specs.Meaning.{on_bytes}
use Rattle.algebra.specs.Tuples.{times}
use Rattle.blocks.proofs.product.multiply.Given as goal

-- the product by the coefficients that were taken from the end
abbrev pub invariant-loop-factor : goal.invariant-loop-factor
invariant-loop-factor g l =
    (done : List ℕ) × (l.a ≡ iter_rest (rev_source l.factor-iterator) ++ done) × (l.product ≡ times (on_bytes (g.F.Field.meaning l.field)) l.modulus done l.b)
