use Rattle.std.proofs.Common.{rules}
use Rattle.masks.specs.Members.{has}
use Rattle.forward.proofs.chosen_lines.Goals as goal

pub returns : goal.returns
unfolding has
returns c k = search (rules, c.matching.ensures k)
