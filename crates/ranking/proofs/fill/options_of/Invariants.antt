use Rattle.std.proofs.Common.{◌≡◌, ℕ, true, take}
use Rattle.masks.specs.Members.{has}
use Rattle.ranking.specs.Lists.{stands, is_list}
use Rattle.ranking.proofs.fill.options_of.Given as goal

-- what was met is a list, and the set has its options
abbrev pub invariant-loop-number : goal.invariant-loop-number
invariant-loop-number l =
    (is_list (take l.number-index l.list) ≡ true) × ((o : ℕ) → has l.options o ≡ stands o (take l.number-index l.list))
