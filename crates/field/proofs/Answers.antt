-- What is asked of a value that may be missing, where a number decides whether it is.
-- Assumes nothing.
use Rattle.std.proofs.Common.{◌≡◌, Bool, true, false, cond, Some, None, Option, sym, refl, ap, ◌∙◌}
use Rattle.std.specs.Option.{MatchOption, option_map}

-- an answer of the value that is kept, or else the other
pub answered : {X N R : Type 0} (o : Option X) (f : X → N) (b : Bool) (n : N) (h : N → R) (d r : R)
    → option_map f o ≡ cond b (Some n) None → MatchOption o (r ≡ d) (λ x. r ≡ h (f x)) → r ≡ cond b (h n) d
answered None f true n h d r made is = cc
answered None f false n h d r made is = is
answered (Some x) f true n h d r made is = is ∙ ap h (cc)
answered (Some x) f false n h d r made is = cc

-- the other is what the answer is where the value is missing
pub settled : {R : Type 0} (b : Bool) (x d : R) → (b ≡ false → x ≡ d) → cond b x d ≡ x
settled true x d e = refl
settled false x d e = sym (e refl)
