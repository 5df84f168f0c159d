-- Why a change of a wall is refused.
use Rattle.std.specs.Prelude.{◌≡◌, ℕ, ◌≤◌, Bool, true, false, not, ◌||◌, ◌==◌, nat_le}
use Rattle.wall.specs.declared.refusal.WallRefusal.{WallRefusal}
use Rattle.wall.specs.declared.refusal.WallRefusal.TheVariants.{NoSuchLine, OptionCount, RuleNumber, OneLine, TooManyLines}
use Rattle.wall.specs.declared.rule.PairRule.{PairRule}
use Rattle.wall.specs.Rules.{is_count, is_number}

-- the number of a refusal
abbrev pub number_of : WallRefusal → ℕ
number_of NoSuchLine = 1
number_of OptionCount = 3
number_of RuleNumber = 4
number_of OneLine = 5
number_of TooManyLines = 10

-- what speaks against one line more with so many options, on a wall of so many lines
abbrev pub against_line : ℕ → ℕ → WallRefusal → Bool
against_line lines count OptionCount = not (is_count count)
against_line lines count TooManyLines = nat_le 16 lines
against_line lines count _ = false

-- what speaks against a rule under a number, on a wall of so many lines
abbrev pub against_rule : ℕ → ℕ → PairRule → WallRefusal → Bool
against_rule lines number rule NoSuchLine = nat_le lines rule.first || nat_le lines rule.second
against_rule lines number rule RuleNumber = not (is_number number)
against_rule lines number rule OneLine = rule.first == rule.second
against_rule lines number rule _ = false

-- what speaks against taking away the rule under a number
abbrev pub against_number : ℕ → WallRefusal → Bool
against_number number RuleNumber = not (is_number number)
against_number number _ = false

-- nothing speaks against a change
abbrev pub NoneApplies : (WallRefusal → Bool) → Type 0
NoneApplies against = (refusal : WallRefusal) → against refusal ≡ false

-- of what speaks against a change, the refusal with the smallest number
pub record IsFirst (against : WallRefusal → Bool) (refusal : WallRefusal) : Type 0 where
  pub applies : against refusal ≡ true
  pub first : (other : WallRefusal) → against other ≡ true → number_of refusal ≤ number_of other
