use Rattle.masks.specs.Members.{size}
use Rattle.places.proofs.Groups.{Gathered}
use Rattle.places.proofs.group_of.Given as goal

abbrev pub invariant-loop-option : goal.invariant-loop-option
invariant-loop-option g l = Gathered (goal.F-post g l.place) l.fn.options l.left l.group.items

abbrev pub decreases-loop-option : goal.decreases-loop-option
decreases-loop-option g l = size l.left
