-- What follows from an answer.
-- Assumes nothing.
use Rattle.std.proofs.Common.{◌≡◌, ℕ, Bool, true, false, List, Some, IfSome, Decides, refl, sym, ◌∙◌, ap₂, subst}
use Rattle.std.proofs.Math.Bool.{beq}
use Rattle.algebra.specs.Meaning.{Meaning}
use Rattle.algebra.specs.Modular.{modular, q_rows}
use Rattle.blocks.specs.Moduli.{arithmetic_of}
use Rattle.blocks.specs.declared.modulus_value.Modulus.{Modulus}
use Rattle.lines.specs.declared.case.Step.{Step}
use Rattle.lines.specs.Cases.{ModulusOf, stepped}

pub some_true : (b : Bool) → Some b ≡ Some true → b ≡ true
some_true b e = subst (λ o. IfSome o (λ x. x ≡ true)) (sym e) refl

pub same_bool : (a b : Bool) → beq a b ≡ true → a ≡ b
same_bool true true e = refl
same_bool true false e = sym e
same_bool false true e = e
same_bool false false e = refl

-- a step by the arithmetic of a modulus made of those coefficients
pub step_decided : (M : Meaning) (low : List ℕ) (p : Modulus) (step : Step) (block r result : List ℕ) (b : Bool) → ModulusOf M low p
    → r ≡ stepped (arithmetic_of M p) step block → Decides b (r ≡ result) → Decides b (stepped (modular M low (q_rows M low)) step block ≡ result)
step_decided M low p step block r result b made is decided =
    subst (λ x. Decides b (x ≡ result)) (is ∙ ap₂ (λ f rows. stepped (modular M f rows) step block) made.low_is made.rows_are) decided
