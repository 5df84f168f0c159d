-- Lines, pair rules and bars: what makes a wall.
use Rattle.std.specs.Prelude.{ℕ, Bool, true, not, ◌&&◌, List, Some, None, Option, ◌==◌, nat_le, nat_lt, slice_index, slice_index_or}
use Rattle.masks.specs.declared.Mask.{Mask}
use Rattle.masks.specs.Members.{has}
use Rattle.wall.specs.declared.rule.PairRule.{PairRule}

-- the empty set of options
abbrev pub no_options : Mask
no_options = record { bits = 0 }

-- how many options a line may have
abbrev pub is_count : ℕ → Bool
is_count count = nat_lt 0 count && nat_le count 16

-- the numbers of pair rules
abbrev pub is_number : ℕ → Bool
is_number number = nat_lt 0 number && nat_le number 24

-- a pair rule joins two different lines of a wall
abbrev pub joins : ℕ → PairRule → Bool
joins lines rule = (nat_lt rule.first lines && nat_lt rule.second lines) && not (rule.first == rule.second)

-- the same of a number under which a rule may stand
abbrev pub is_filed : ℕ → Option PairRule → Bool
is_filed lines None = true
is_filed lines (Some rule) = joins lines rule

-- a pair rule allows option x of its first line beside option y of its second
abbrev pub allows : PairRule → ℕ → ℕ → Bool
allows rule x y = has (slice_index_or rule.table x no_options) y

-- a rule, if there is one, allows a row
abbrev pub is_allowed : Option PairRule → List ℕ → Bool
is_allowed None row = true
is_allowed (Some rule) row = allows rule (slice_index row rule.first) (slice_index row rule.second)

-- an option of a line is barred
abbrev pub is_barred : List Mask → ℕ → ℕ → Bool
is_barred bars line option = has (slice_index_or bars line no_options) option
