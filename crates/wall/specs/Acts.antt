-- What the changes of a wall answer and leave.
use Rattle.std.specs.Prelude.{◌≡◌, ℕ, ◌+◌, ◌-◌, Bool, Ok, Err, Option, Result, slice_set}
use Rattle.wall.specs.declared.refusal.WallRefusal.{WallRefusal}
use Rattle.wall.specs.declared.rule.PairRule.{PairRule}
use Rattle.wall.specs.declared.wall.Wall.{Wall}
use Rattle.wall.specs.Refusals.{against_line, IsFirst, NoneApplies}

-- a line more, which is the last one; or no change, for what speaks against it
abbrev pub LineAdded : ℕ → Wall → Wall → Result ℕ WallRefusal → Type 0
LineAdded count was is (Ok line) = NoneApplies (against_line was.lines count) × (line ≡ was.lines) × (is.lines ≡ line + 1) × (is.counts ≡ slice_set was.counts line count) × (is.rules ≡ was.rules)
LineAdded count was is (Err refusal) = IsFirst (against_line was.lines count) refusal × (is ≡ was)

-- under one number now stands this rule, or none, and all else is as it was; or no change, for what speaks against it
abbrev pub RuleSet : (WallRefusal → Bool) → ℕ → Option PairRule → Wall → Wall → Result (Unit {0}) WallRefusal → Type 0
RuleSet against number rule was is (Ok _) = NoneApplies against × (is.rules ≡ slice_set was.rules (number - 1) rule) × (is.lines ≡ was.lines) × (is.counts ≡ was.counts)
RuleSet against number rule was is (Err refusal) = IsFirst against refusal × (is ≡ was)
