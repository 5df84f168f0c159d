-- The best row of a wall of three lines on which no options exclude each other.
use Rattle.std.specs.Prelude.{◌≡◌, ℕ, ◌<◌, Bool, ◌&&◌, List, take, Some, None, Option, nat_lt, slice_index}
use Rattle.masks.specs.Members.{is_option}
use Rattle.places.specs.Entries.{BestOption}

-- the options of a line, by how many it has
abbrev pub options_of : List ℕ → ℕ → ℕ → Bool
options_of counts line o = is_option o && nat_lt o (slice_index counts line)

-- each line has the best of its options under the entries above it; no row only where a line has no option
abbrev pub BestRow : (ℕ → List ℕ → ℕ → ℕ → Bool) → List ℕ → Option (List ℕ) → Type 0
BestRow before counts None = (line : ℕ) × (line < 3) × (slice_index counts line ≡ 0)
BestRow before counts (Some row) = (line : ℕ) → line < 3 → BestOption before line (take line row) (options_of counts line) (Some (slice_index row line))
