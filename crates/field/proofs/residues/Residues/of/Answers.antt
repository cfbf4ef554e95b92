use Rattle.std.proofs.Common.{◌≤◌, ◌^◌, ap, sym, ◌∙◌, arith, pow_mono, pow_pos, not}
use Rattle.algebra.specs.Shift.{shift_by}
use Rattle.algebra.proofs.Masks.{mask_is}
use Rattle.field.proofs.Kept.{live}
use Rattle.field.proofs.Widths.{range}
use Rattle.field.proofs.residues.Residues.of.Goals as goal

pub overflow_shl-result : goal.overflow_shl-result
overflow_shl-result c = omega (arith, (range c.in_ok-modulus.modulus).at_most)

pub overflow_sub-result : goal.overflow_sub-result
overflow_sub-result c =
    let w = c.in_ok-modulus.modulus.width in
    let small : 2 ^ w ≤ 2 ^ 8 = pow_mono (range c.in_ok-modulus.modulus).at_most in
    omega (arith, pow_pos w)

pub overflow_cast-result-2 : goal.overflow_cast-result-2
overflow_cast-result-2 c =
    let w = c.in_ok-modulus.modulus.width in
    let small : 2 ^ w ≤ 2 ^ 8 = pow_mono (range c.in_ok-modulus.modulus).at_most in
    record { fits = omega arith }

pub invariant_of-result : goal.invariant_of-result
unfolding shift_by
invariant_of-result c =
    let p = c.in_ok-modulus.modulus in
    record {
      masked = mask_is p.width (range p).at_most;
      judged = ap not c.has_factor.ensures ∙ sym (ap (λ M. M.sound) (live p));
    }
