-- Lists under a condition: the parent line of a line, and the list for each of the parent's options.
use Rattle.std.specs.Prelude.{ℕ, ◌+◌, ◌*◌, Bool, true, false, ◌&&◌, List, [], Some, None, Option, ◌==◌, nat_lt, slice_index, slice_index_or}
use Rattle.masks.specs.Members.{is_option}
use Rattle.ranking.specs.declared.condition.Condition.{Condition}
use Rattle.ranking.specs.declared.condition.Parent.{Parent}
use Rattle.ranking.specs.declared.condition.Parent.TheVariants.{Unsettled, Alone, Line}
use Rattle.ranking.specs.Orders.{is_line}

-- a condition names a line and an option
abbrev pub is_condition : Option Condition → Bool
is_condition None = true
is_condition (Some c) = is_line c.parent && is_option c.option

-- the parent is above the line
abbrev pub is_above : Option Condition → ℕ → Bool
is_above None line = true
is_above (Some c) line = nat_lt c.parent line

-- the parent is that of the line's first list
abbrev pub agrees_with : Parent → Option Condition → Bool
agrees_with Unsettled condition = true
agrees_with Alone None = true
agrees_with Alone (Some c) = false
agrees_with (Line p) None = false
agrees_with (Line p) (Some c) = c.parent == p

-- what a list settles for its line
abbrev pub parent_of : Option Condition → Parent
parent_of None = Alone
parent_of (Some c) = Line c.parent

-- the parent option under which a list holds; the only list of a line without a parent is kept as that of option 0
abbrev pub option_in : Option Condition → ℕ
option_in None = 0
option_in (Some c) = c.option

-- the parent option that stands above a line
abbrev pub option_under : Parent → List ℕ → ℕ
option_under Unsettled above = 0
option_under Alone above = 0
option_under (Line p) above = slice_index above p

-- which of the 256 lists is that of a line under a parent option
abbrev pub slot : ℕ → ℕ → ℕ
slot line option = line * 16 + option

-- the list in force on a line, under the entries above it
abbrev pub in_force : List Parent → List (List ℕ) → ℕ → List ℕ → List ℕ
in_force parents rows line above = slice_index_or rows (slot line (option_under (slice_index_or parents line Unsettled) above)) []
