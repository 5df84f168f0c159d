use Rattle.std.proofs.Common.{◌≡◌, ℕ, ◌+◌, ◌-◌, ◌*◌, true, get_or}
use Rattle.masks.specs.Members.{has, size}
use Rattle.forward.specs.Fits.{rules_of, Left}
use Rattle.choices.specs.Steps.{no_level, Unmoved, Tried}
use Rattle.lexical.specs.Ends.{Never}
use Rattle.lexical.proofs.Search.+descend_follow.Given as goal

abbrev pub decreases-descend : goal.decreases-descend
decreases-descend g l = 2 * (l.self.now.problem.now.lines - l.depth) + 1

abbrev pub decreases-follow : goal.decreases-follow
decreases-follow g l = 2 * (l.self.now.problem.now.lines - l.depth)

-- what is still to be tried on the line, what is to blame for the rest, and the levels up to it
abbrev pub invariant-descend-loop-option : goal.invariant-descend-loop-option
invariant-descend-loop-option g l =
    let r = rules_of l.self.problem.now.lines l.self.problem.now.net (g.H.HouseRule.passing l.self.house.now) in
    let level = get_or l.initial.levels l.depth no_level in
    ((x : ℕ) → has l.left x ≡ true → Left level.masks l.depth x)
    × Tried r level.masks level.causes l.row Never l.depth l.left l.blame
    × Unmoved l.depth l.initial.levels l.levels

abbrev pub decreases-descend-loop-option : goal.decreases-descend-loop-option
decreases-descend-loop-option g l = size l.left
