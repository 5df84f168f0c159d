-- A new table has a zero on each card.
use Rattle.std.proofs.Common.{rules}
use Rattle.house.proofs.Cards.{none_held}
use Rattle.house.proofs.holds.Holds.new.Goals as goal

pub invariant_of-result : goal.invariant_of-result
invariant_of-result c = let none = none_held 16 16 in search rules

pub returns-clause-counts : goal.returns-clause-counts
returns-clause-counts c = none_held 16 16
