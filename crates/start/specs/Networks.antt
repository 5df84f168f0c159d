-- What holds of the ways of every network.
use Rattle.std.specs.Prelude.{◌≡◌, ℕ, ◌+◌, ◌-◌, ◌<◌, true, false, cond, List, [], nat_lt, slice_index_or}
use Rattle.masks.specs.declared.Mask.{Mask}
use Rattle.masks.specs.Members.{has}
use Rattle.wall.specs.Rules.{no_options}
use Rattle.network.specs.declared.ways.WaySet.{WaySet}
use Rattle.network.specs.Ways.{has_way, no_ways}

-- the way back
abbrev pub turned : ℕ → ℕ
turned way = cond (nat_lt way 24) (24 + way) (way - 24)

-- no way leads from a line to itself
abbrev pub AreApart : List (List WaySet) → Type 0
AreApart ways = (way line : ℕ) → line < 16 → has_way (slice_index_or (slice_index_or ways line []) line no_ways) way ≡ false

-- where a way leads from a line to another, the way back leads back
abbrev pub LeadBack : List (List WaySet) → Type 0
LeadBack ways = (way line other : ℕ) → line < 16 → other < 16
    → has_way (slice_index_or (slice_index_or ways line []) other no_ways) way ≡ true → has_way (slice_index_or (slice_index_or ways other []) line no_ways) (turned way) ≡ true

-- what the way back leaves, the way leaves
abbrev pub LeaveBack : List (List Mask) → Type 0
LeaveBack tables = (way x y : ℕ) → way < 48 → x < 16 → y < 16
    → has (slice_index_or (slice_index_or tables (turned way) []) y no_options) x ≡ true → has (slice_index_or (slice_index_or tables way []) x no_options) y ≡ true
