-- Bytes and blocks in a text.
use Rattle.std.specs.Prelude.{◌≡◌, ℕ, ◌^◌, ◌<◌, List, [], ◌∷◌}
use Rattle.std.specs.List.{join_with_byte}
use Rattle.std.specs.Str.Parse.{IsNumeral, digits_value, without_leading_plus}

-- the text is the decimal numeral of a byte, with a plus sign in front or none
abbrev pub ReadsByte : List ℕ → ℕ → Type 0
ReadsByte text n = IsNumeral 10 (without_leading_plus text) × (digits_value 10 (without_leading_plus text) < 2 ^ 8) × (n ≡ digits_value 10 (without_leading_plus text))

-- each text is the byte at its place
unfoldable pub ReadsEach : List (List ℕ) → List ℕ → Type 0
ReadsEach [] [] = Unit {0}
ReadsEach [] (n ∷ ns) = ⊥
ReadsEach (t ∷ ts) [] = ⊥
ReadsEach (t ∷ ts) (n ∷ ns) = ReadsByte t n × ReadsEach ts ns

-- the text is these bytes, parted by commas
abbrev pub ReadsBlock : List ℕ → List ℕ → Type 0
ReadsBlock text bytes = (parts : List (List ℕ)) × (text ≡ join_with_byte 44 parts) × ReadsEach parts bytes
