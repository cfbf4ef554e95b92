-- What a modulus holds.
-- Assumes nothing.
use Rattle.std.proofs.Common.{◌≡◌, ℕ, ◌^◌, Bool, true, List, length, Decides, sym, refl, ◌∙◌}
use Rattle.algebra.specs.Arithmetic.{Lawful, Returns, block_operations}
use Rattle.algebra.specs.Blocks.{Codes, IsBlock}
use Rattle.algebra.specs.Iteration.{iterate}
use Rattle.algebra.specs.Operations.{power}
use Rattle.algebra.specs.Meaning.{Meaning, on_bytes}
use Rattle.algebra.specs.Modular.{variable, modulo, ModulusRule}
use Rattle.algebra.proofs.Modular.{rule_iterated, rule_returns}
use Rattle.blocks.specs.declared.modulus_value.Modulus.{Modulus}
use Rattle.blocks.specs.Moduli.{coefficients, kept_rows, arithmetic_of, RuleVerdict}

-- what the test says, in lawful arithmetic
pub verdict : (M : Meaning) (p : Modulus) (r : Bool)
    → Decides r (iterate (arithmetic_of M p).q_power (arithmetic_of M p).size (variable (on_bytes M) (coefficients p)) ≡ variable (on_bytes M) (coefficients p))
    → RuleVerdict M p r
unfolding modulo ModulusRule block_operations
verdict M p r test = record { test = test; rule = rule; returns = returns }
  where
    f : List ℕ
    f = coefficients p

    block : Codes M f → IsBlock M (length f) f
    block codes = record { size = refl; codes = codes }

    iterated : (L : Lawful (arithmetic_of M p)) → Codes M f
        → iterate (arithmetic_of M p).q_power (arithmetic_of M p).size (variable (on_bytes M) f) ≡ power (block_operations (modulo M f)) (variable (on_bytes M) f) ((2 ^ M.width) ^ length f)
    iterated L codes =
        rule_iterated M L.shape L.laws f (kept_rows p) (block codes) L

    rule : Lawful (arithmetic_of M p) → Codes M f → Decides r (ModulusRule M f)
    rule L codes = (λ passed. sym (iterated L codes) ∙ test.0 passed, λ holds. test.1 (iterated L codes ∙ holds))

    returns : Lawful (arithmetic_of M p) → Codes M f → r ≡ true → Returns (arithmetic_of M p)
    returns L codes passed = rule_returns M L.shape L.laws f (block codes) ((rule L codes).0 passed)
