use Rattle.std.proofs.Common.{◌≡◌}
use Rattle.forward.specs.Fits.{rules_of}
use Rattle.forward.proofs.Sweeping.{Ruling, SweptTo}
use Rattle.forward.proofs.Rulebook.sweep.Given as goal

-- the lines above this one are swept
abbrev pub invariant-loop-other : goal.invariant-loop-other
invariant-loop-other g l =
    SweptTo (rules_of l.self.lines l.self.net.now (g.H.HouseRule.passing l.self.house.now)) l.line l.option l.row l.other l.initial.level.masks l.initial.level.causes l.level.masks l.level.causes

-- the ways that are done leave this, and nothing is written yet
abbrev pub invariant-loop-way : goal.invariant-loop-way
invariant-loop-way g l =
    (l.level ≡ l.initial.level)
    × Ruling (rules_of l.self.lines l.self.net.now (g.H.HouseRule.passing l.self.house.now)) l.line l.option l.other l.was.left l.ruled l.way-iterator.rest
