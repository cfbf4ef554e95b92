-- Words of a line, each up to a space.
use Rattle.std.specs.Prelude.{◌≡◌, ℕ, ◌<◌, ◌≤◌, ◌==◌, List, length}
use Rattle.std.specs.List.{position_or_len, before_first, after_first}
use Rattle.lines.specs.BlockText.{ReadsByte, ReadsBlock}

-- what stands before the first space and behind it, where there is a space
pub record WordThen (text word rest : List ℕ) : Type 0 where
  pub some : position_or_len (λ b. b == 32) text < length text
  pub before : word ≡ before_first (λ b. b == 32) text
  pub behind : rest ≡ after_first (λ b. b == 32) text

-- a byte, a space and the rest
abbrev pub ByteThen : List ℕ → ℕ → List ℕ → Type 0
ByteThen text n rest = (word : List ℕ) × WordThen text word rest × ReadsByte word n

-- bytes parted by commas, a space and the rest
abbrev pub BytesThen : List ℕ → List ℕ → List ℕ → Type 0
BytesThen text bytes rest = (word : List ℕ) × WordThen text word rest × ReadsBlock word bytes

-- at least one byte of that kind
abbrev pub BlockThen : List ℕ → List ℕ → List ℕ → Type 0
BlockThen text block rest = BytesThen text block rest × (1 ≤ length block)
