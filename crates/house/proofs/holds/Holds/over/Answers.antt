-- The set is what the test says, and has nothing that is no option.
use Rattle.std.proofs.Common.{rules}
use Rattle.masks.specs.Members.{has}
use Rattle.house.proofs.holds.Holds.over.Goals as goal

pub returns : goal.returns
unfolding has
returns c k = search (rules, c.matching.ensures k)
