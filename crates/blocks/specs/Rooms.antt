-- How a block, and a square of rows, lie in their rooms: at the start, with nothing behind them that could tell two apart.
use Rattle.std.specs.Prelude.{◌≡◌, ℕ, zero, suc, ◌-◌, ◌<◌, ◌≤◌, List, [], ◌∷◌, ◌++◌, map, length, take, drop, replicate, slice_index_or}

-- a block, and zeros behind it
abbrev pub in_room : List ℕ → List ℕ
in_room block = block ++ replicate (32 - length block) 0

-- so many bytes at the start of a room count, and the rest is zeros
pub record Fills (size : ℕ) (room : List ℕ) : Type 0 where
  pub few : size ≤ 32
  pub whole : length (take size room) ≡ size
  pub rest : in_room (take size room) ≡ room

-- n rows, each of n bytes at the start of a room, whatever lies behind
abbrev pub rows_in : ℕ → List (List ℕ) → List (List ℕ)
rows_in n rooms = map (take n) (take n rooms)

-- every row is as long as there are rows
abbrev pub Even : List (List ℕ) → Type 0
Even rows = (i : ℕ) → i < length rows → length (slice_index_or rows i []) ≡ length rows

-- rows, and empty ones behind them
abbrev pub in_rooms : List (List ℕ) → List (List ℕ)
in_rooms rows = rows ++ replicate (32 - length rows) []

-- so many rows at the start count, each of that many bytes, and the rest are empty
pub record FillsSquare (size : ℕ) (rooms : List (List ℕ)) : Type 0 where
  pub few : size ≤ 32
  pub whole : length (take size rooms) ≡ size
  pub even : Even (take size rooms)
  pub rest : in_rooms (take size rooms) ≡ rooms

-- n bytes after n bytes, k times
unfoldable pub parts : ℕ → ℕ → List ℕ → List (List ℕ)
parts n zero bytes = []
parts n (suc k) bytes = take n bytes ∷ parts n k (drop n bytes)
