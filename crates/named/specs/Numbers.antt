-- Numbers in a text.
use Rattle.std.specs.Prelude.{◌≡◌, ℕ, ◌^◌, ◌<◌, List, ◌∷◌, ◌++◌}
use Rattle.std.specs.Str.Parse.{IsNumeral, digits_value, without_leading_plus}

-- the text is the decimal numeral of n, a number of 32 bits, with a plus sign in front or none
abbrev pub Reads : List ℕ → ℕ → Type 0
Reads text n = IsNumeral 10 (without_leading_plus text) × (digits_value 10 (without_leading_plus text) < 2 ^ 32) × (n ≡ digits_value 10 (without_leading_plus text))

-- the text is a number, a space and the rest
abbrev pub Begins : List ℕ → ℕ → List ℕ → Type 0
Begins text n rest = (numeral : List ℕ) × (text ≡ numeral ++ (32 ∷ rest)) × Reads numeral n

-- the text is two numbers with a space between them
abbrev pub TwoNumbers : List ℕ → ℕ → ℕ → Type 0
TwoNumbers text p g = (rest : List ℕ) × Begins text p rest × Reads rest g
