-- Chains: the product of n terms u, u^s, u^(s²), .. in few products, where the next terms come from those at hand by raising to s.
use Rattle.std.specs.Prelude.{ℕ, zero, suc, ◌+◌, ◌*◌, ◌/◌, ◌%◌, ◌^◌, Bool, true, false, List, [], ◌∷◌, ◌==◌}
use Rattle.algebra.specs.Shift.{highest_bit}

-- a step of a chain: from the product of the first k terms to that of the first 2k, or k + 1. Each costs one product.
pub data Step : Type 0 where
  double : Step
  add_one : Step

-- what a bit asks after doubling
unfoldable pub for_bit : Bool → List Step → List Step
for_bit true steps = add_one ∷ steps
for_bit false steps = steps

-- the steps for the i lowest bits of n, the highest of them first
unfoldable pub steps_for : ℕ → ℕ → List Step
steps_for n zero = []
steps_for n (suc i) = double ∷ for_bit (n / 2 ^ i % 2 == 1) (steps_for n i)

-- the chain from 1 to n: the bits of n below its highest
unfoldable pub chain : ℕ → List Step
chain n = steps_for n (highest_bit n n)

-- what following steps makes of x, the product of the first k terms; `raised j y` is y raised to s, j times over
unfoldable pub follow : {A : Type 0} → (A → A → A) → (ℕ → A → A) → A → List Step → ℕ → A → A
follow product raised u [] k x = x
follow product raised u (double ∷ steps) k x = follow product raised u steps (2 * k) (product (raised k x) x)
follow product raised u (add_one ∷ steps) k x = follow product raised u steps (k + 1) (product u (raised 1 x))

-- the product of the first n terms, by the chain to n
unfoldable pub by_chain : {A : Type 0} → (A → A → A) → (ℕ → A → A) → ℕ → A → A
by_chain product raised n u = follow product raised u (chain n) 1 u
