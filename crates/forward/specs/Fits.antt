-- Rows that fit a network of pair rules and a house rule, and the options that are left to them.
use Rattle.std.specs.Prelude.{◌≡◌, ℕ, ◌<◌, Bool, true, false, List, [], slice_index, slice_index_or}
use Rattle.masks.specs.declared.Mask.{Mask}
use Rattle.masks.specs.Members.{has}
use Rattle.rows.specs.Rows.{is_row, is_open}
use Rattle.wall.specs.Rules.{no_options}
use Rattle.network.specs.declared.Network.{Network}
use Rattle.network.specs.declared.ways.WaySet.{WaySet}
use Rattle.network.specs.Ways.{has_way, no_ways}

-- the ways between lines, what each way leaves, and which rows of n lines pass
pub record Rules : Type 0 where
  pub lines : ℕ
  pub ways : List (List WaySet)
  pub tables : List (List Mask)
  pub passes : ℕ → List ℕ → Bool

-- way k leads from a line to another
abbrev pub Leads : Rules → ℕ → ℕ → ℕ → Type 0
Leads r line other way = has_way (slice_index_or (slice_index_or r.ways line []) other no_ways) way ≡ true

-- a way leaves option y beside option x of the line where it starts
abbrev pub Leaves : Rules → ℕ → ℕ → ℕ → Type 0
Leaves r way x y = has (slice_index_or (slice_index_or r.tables way []) x no_options) y ≡ true

-- a row that every way leaves and the house rule passes
pub record Fits (r : Rules) (β : List ℕ) : Type 0 where
  pub row : is_row r.lines β ≡ true
  pub obeys : (line other way : ℕ) → line < r.lines → other < r.lines → Leads r line other way → Leaves r way (slice_index β line) (slice_index β other)
  pub passed : r.passes r.lines β ≡ true

-- option x is left on a line
abbrev pub Left : List Mask → ℕ → ℕ → Type 0
Left masks line x = has (slice_index_or masks line no_options) x ≡ true

-- a line is chosen: it has an option. A line is open: it has none yet
abbrev pub Chosen : List ℕ → ℕ → Type 0
Chosen row line = is_open (slice_index row line) ≡ false

abbrev pub Open : List ℕ → ℕ → Type 0
Open row line = is_open (slice_index row line) ≡ true

-- the rules that a network and a house rule make on n lines
abbrev pub rules_of : ℕ → Network → (ℕ → List ℕ → Bool) → Rules
rules_of n net passes = record { lines = n; ways = net.ways; tables = net.tables; passes = passes }
