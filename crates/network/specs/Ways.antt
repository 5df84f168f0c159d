-- Ways: a pair rule followed from one of its lines to the other.
use Rattle.std.specs.Prelude.{◌≡◌, ℕ, ◌+◌, ◌-◌, ◌<◌, Bool, true, false, cond, not, ◌&&◌, ◌||◌, List, [], Some, None, Option, ◌==◌, ◌≢◌, nat_lt, slice_index_or}
use Rattle.masks.specs.declared.Mask.{Mask}
use Rattle.masks.specs.Members.{is_option, bit_of, has, how_many}
use Rattle.wall.specs.declared.rule.PairRule.{PairRule}
use Rattle.wall.specs.Rules.{no_options, allows}
use Rattle.network.specs.declared.ways.WaySet.{WaySet}

-- whether a way is in a set of ways
unfoldable pub has_way : WaySet → ℕ → Bool
has_way s way = nat_lt way 48 && bit_of s.bits way

-- a rule, if there is one, goes from this line to that
abbrev pub is_from : Option PairRule → ℕ → ℕ → Bool
is_from None line other = false
is_from (Some rule) line other = rule.first == line && rule.second == other

-- a rule, if there is one, allows two options
abbrev pub allows_at : Option PairRule → ℕ → ℕ → Bool
allows_at None x y = false
allows_at (Some rule) x y = allows rule x y

-- a meaning of rules for two values, by a way: way k below 24 follows the rule at index k from its first line to its second; way 24 + k follows it back
abbrev pub by_way : (Option PairRule → ℕ → ℕ → Bool) → List (Option PairRule) → ℕ → ℕ → ℕ → Bool
by_way meaning rules way a b = cond (nat_lt way 24) (meaning (slice_index_or rules way None) a b) (meaning (slice_index_or rules (way - 24) None) b a)

-- a way leads from a line to another
abbrev pub leads : List (Option PairRule) → ℕ → ℕ → ℕ → Bool
leads = by_way is_from

-- option x on the line where a way starts leaves option y to the line where it leads
abbrev pub permits : List (Option PairRule) → ℕ → ℕ → ℕ → Bool
permits = by_way allows_at

-- no way
abbrev pub no_ways : WaySet
no_ways = record { bits = 0 }

-- the ways between each two lines, and for each way and option of its start the options that it leaves
pub record IsNetwork (rules : List (Option PairRule)) (ways : List (List WaySet)) (tables : List (List Mask)) : Type 0 where
  pub joined : (line other way : ℕ) → line < 16 → other < 16 → has_way (slice_index_or (slice_index_or ways line []) other no_ways) way ≡ (nat_lt way 48 && leads rules way line other)
  pub left : (way x y : ℕ) → way < 48 → x < 16 → has (slice_index_or (slice_index_or tables way []) x no_options) y ≡ (is_option y && permits rules way x y)

-- a way of a set and the set without it; none exactly of the empty set, which stays
abbrev pub SplitOff : WaySet → Option ℕ → WaySet → Type 0
SplitOff s None rest = ((k : ℕ) → has_way s k ≡ false) × (rest ≡ s)
SplitOff s (Some way) rest = (has_way s way ≡ true) × ((k : ℕ) → has_way rest k ≡ (has_way s k && not (k == way))) × (how_many (has_way rest) 48 < how_many (has_way s) 48)

-- one rule more, at index k
pub record RulePut (k : ℕ) (rule : PairRule) (ways ways' : List (List WaySet)) (tables tables' : List (List Mask)) : Type 0 where
  pub joined : (line other way : ℕ)
      → has_way (slice_index_or (slice_index_or ways' line []) other no_ways) way
      ≡ (has_way (slice_index_or (slice_index_or ways line []) other no_ways) way || ((is_from (Some rule) line other && way == k) || (is_from (Some rule) other line && way == 24 + k)))
  pub there : (x : ℕ) → slice_index_or (slice_index_or tables' k []) x no_options ≡ slice_index_or rule.table x no_options
  pub back : (x y : ℕ) → x < 16 → has (slice_index_or (slice_index_or tables' (24 + k) []) x no_options) y ≡ (is_option y && has (slice_index_or rule.table y no_options) x)
  pub others : (way : ℕ) → (way ≢ k) → (way ≢ 24 + k) → slice_index_or tables' way [] ≡ slice_index_or tables way []
