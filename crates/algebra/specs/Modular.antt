-- Products modulo a monic polynomial X^v + f as block arithmetic. The q-th power is linear over the field, so it is kept as the rows of a
-- linear map: row i is the q-th power of X^i.
use Rattle.std.specs.Prelude.{◌≡◌, ℕ, zero, suc, ◌^◌, List, [], ◌∷◌, length}
use Rattle.algebra.specs.Operations.{Ops, power}
use Rattle.algebra.specs.Meaning.{Meaning, on_bytes}
use Rattle.algebra.specs.Tuples.{zeros, unit, times_x, times}
use Rattle.algebra.specs.Linear.{combination}
use Rattle.algebra.specs.Iteration.{iterate}
use Rattle.algebra.specs.Arithmetic.{Arithmetic, block_operations}

-- X modulo X^v + f
unfoldable pub variable : {A : Type 0} → Ops A → List A → List A
variable O f = times_x O f (unit O (length f))

-- the n elements x, w·x, w·(w·x), ..
unfoldable pub multiples : {A : Type 0} → (A → A → A) → A → A → ℕ → List A
multiples product w x zero = []
multiples product w x (suc n) = x ∷ multiples product w (product w x) n

-- X^q: X squared as many times as a code has bits
unfoldable pub x_to_q : Meaning → List ℕ → List ℕ
x_to_q M f = iterate (λ x. times (on_bytes M) f x x) M.width (variable (on_bytes M) f)

-- the rows of the q-th power: the powers of X^q, from one on
unfoldable pub q_rows : Meaning → List ℕ → List (List ℕ)
q_rows M f = multiples (times (on_bytes M) f) (x_to_q M f) (unit (on_bytes M) (length f)) (length f)

-- the arithmetic modulo X^v + f where the q-th power is kept as the given rows
abbrev pub modular : Meaning → List ℕ → List (List ℕ) → Arithmetic
modular M f rows = record {
  field = M;
  size = length f;
  one = unit (on_bytes M) (length f);
  product = times (on_bytes M) f;
  q_power = combination (on_bytes M) (zeros (on_bytes M) (length f)) rows;
}

-- the arithmetic modulo X^v + f; over a field that keeps the laws it is lawful
unfoldable pub modulo : Meaning → List ℕ → Arithmetic
modulo M f = modular M f (q_rows M f)

-- the rule for a modulus: X raised to q^v leaves X; under it every block is its own q^v-th power
unfoldable pub ModulusRule : Meaning → List ℕ → Type 0
ModulusRule M f = power (block_operations (modulo M f)) (variable (on_bytes M) f) ((2 ^ M.width) ^ length f) ≡ variable (on_bytes M) f
