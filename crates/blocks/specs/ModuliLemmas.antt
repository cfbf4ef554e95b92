-- What a law of block arithmetic is shown by. The code cites it, which may not cite proofs/.
-- Assumes nothing.
use Rattle.std.proofs.Common.{◌≤◌, sym, subst}
use Rattle.algebra.specs.Arithmetic.{Formed}
use Rattle.algebra.specs.Meaning.{Meaning, Shape}
use Rattle.blocks.specs.Moduli.{arithmetic_of}
use Rattle.blocks.specs.declared.modulus_value.Modulus.{Modulus}

-- arithmetic modulo a modulus is of the shape that every block arithmetic has
pub is_formed : (M : Meaning) → Shape M → (p : Modulus) → Formed (arithmetic_of M p)
is_formed M s p = record { shape = s; some = subst (λ n. 1 ≤ n) (sym p.filled.whole) p.some; few = subst (λ n. n ≤ 32) (sym p.filled.whole) p.few }
