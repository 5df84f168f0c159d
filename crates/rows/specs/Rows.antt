-- Rows: one entry for each line, the most important line first.
use Rattle.std.specs.Prelude.{◌≡◌, ℕ, ◌<◌, Bool, false, ◌&&◌, ◌||◌, List, length, ◌==◌, slice_index}
use Rattle.std.specs.List.{list_all}
use Rattle.masks.specs.Members.{is_option}

-- whether an entry is open: its line has no option yet
abbrev pub is_open : ℕ → Bool
is_open e = e == 255

-- a row of n lines: n entries, each an option
abbrev pub is_row : ℕ → List ℕ → Bool
is_row n row = length row == n && list_all is_option row

-- a row of n lines of which some may be open
abbrev pub is_partial : ℕ → List ℕ → Bool
is_partial n row = length row == n && list_all (λ e. is_option e || is_open e) row

-- a row agrees with the entries that a partial row of n lines has chosen
abbrev pub Agrees : ℕ → List ℕ → List ℕ → Type 0
Agrees n partial row = (k : ℕ) → k < n → is_open (slice_index partial k) ≡ false → slice_index row k ≡ slice_index partial k
