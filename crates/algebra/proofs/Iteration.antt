-- Functions applied again and again, and powers of powers.
-- Assumes nothing.
use Rattle.std.proofs.Common.{◌≡◌, ℕ, zero, suc, ◌+◌, ◌^◌, sym, refl, ap, ◌∙◌, pow-suc, add-one}
use native.Mathlib.Nat.{pow-zero}
use Rattle.algebra.specs.Operations.{Ops, Ring2, power}
use Rattle.algebra.specs.Iteration.{iterate}
use Rattle.algebra.proofs.Powers.{power_one, power_mul}

-- once more
pub iterate_next : {A : Type 0} (f : A → A) (c : ℕ) (u : A) → f (iterate f c u) ≡ iterate f (c + 1) u
unfolding iterate
iterate_next f c u = ap (λ k. iterate f k u) (sym (add-one c))

-- the first time or the last
pub iterate_shift : {A : Type 0} (f : A → A) (c : ℕ) (u : A) → iterate f c (f u) ≡ f (iterate f c u)
unfolding iterate
iterate_shift f zero u = refl
iterate_shift f (suc c) u = ap f (iterate_shift f c u)

-- under a map
pub iterate_map : {A B : Type 0} (h : B → A) (f : B → B) (g : A → A) → ((x : B) → g (h x) ≡ h (f x)) → (c : ℕ) (x : B) → iterate g c (h x) ≡ h (iterate f c x)
unfolding iterate
iterate_map h f g e zero x = refl
iterate_map h f g e (suc c) x = ap g (iterate_map h f g e c x) ∙ e (iterate f c x)

-- raising to s, c times over
pub iterate_power : {A : Type 0} {O : Ops A} → Ring2 O → (s c : ℕ) (x : A) → iterate (λ y. power O y s) c x ≡ power O x (s ^ c)
unfolding iterate
iterate_power {O = O} R s zero x = sym (power_one R x) ∙ ap (power O x) (sym (pow-zero s))
iterate_power {O = O} R s (suc c) x = ap (λ y. power O y s) (iterate_power R s c x) ∙ sym (power_mul R x (s ^ c) s) ∙ ap (power O x) (sym (pow-suc s c))
