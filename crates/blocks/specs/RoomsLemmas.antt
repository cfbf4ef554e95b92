-- What `==` of blocks decides. The parts above cite it, which may not cite proofs/.
-- Assumes nothing.
use Rattle.std.proofs.Common.{◌≡◌, ℕ, ◌-◌, Bool, true, ◌&&◌, eqb, List, length, take, replicate, Decides, refl, sym, ◌∙◌, subst, ap₂}
use Rattle.std.proofs.lemmas.Bool.{and_parts, and_from, eq-eqb, eqb-true}
use Rattle.std.proofs.lemmas.Cmp.{nat_list_eq_equiv}
use Rattle.std.proofs.lemmas.List.{take_at}
use Rattle.std.specs.Cmp.Lexicographic.{same_text}
use lib.Pointwise.{pointwise}
use Rattle.blocks.specs.Rooms.{in_room}

-- whether two blocks are the same, by their sizes and rooms
pub same_blocks : (a b : List ℕ) (r : Bool) → r ≡ (eqb (length a) (length b) && pointwise eqb (in_room a) (in_room b)) → Decides r (a ≡ b)
same_blocks a b r is = (yes, λ e. is ∙ subst (λ (x : List ℕ). (eqb (length a) (length x) && pointwise eqb (in_room a) (in_room x)) ≡ true) e same)
  where
    yes : r ≡ true → a ≡ b
    yes h =
        let parts = and_parts (eqb (length a) (length b)) (pointwise eqb (in_room a) (in_room b)) (sym is ∙ h) in
        sym (take_at a (replicate (32 - length a) 0) (length a) refl)
        ∙ ap₂ take (eqb-true (length a) (length b) parts.0) (same_text (in_room a) (in_room b) (sym parts.1))
        ∙ take_at b (replicate (32 - length b) 0) (length b) refl

    same : (eqb (length a) (length a) && pointwise eqb (in_room a) (in_room a)) ≡ true
    same = and_from (eqb (length a) (length a)) (pointwise eqb (in_room a) (in_room a)) (eq-eqb (length a) (length a) refl) (nat_list_eq_equiv.refl (in_room a))
