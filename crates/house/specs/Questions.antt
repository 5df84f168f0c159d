-- What a house rule is asked.
use Rattle.std.specs.Prelude.{ℕ, Bool, ◌&&◌, List, nat_le, nat_lt, slice_index}
use Rattle.rows.specs.Rows.{is_row, is_open, is_partial}

-- a wall that a house rule judges has 1 to 16 lines
abbrev pub is_wall : ℕ → Bool
is_wall n = nat_lt 0 n && nat_le n 16

-- a row that a house rule judges: n entries, each an option
abbrev pub is_judged : ℕ → List ℕ → Bool
is_judged n row = is_wall n && is_row n row

-- a question for struck options: n entries of which some are open, and one of the open lines
abbrev pub is_open_line : ℕ → List ℕ → ℕ → Bool
is_open_line n partial line = (is_wall n && is_partial n partial) && (nat_lt line n && is_open (slice_index partial line))
