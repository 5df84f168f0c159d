-- The sum over the lines so far, and that it is small.
use Rattle.std.proofs.Common.{◌≡◌, ◌*◌, ◌≤◌}
use Rattle.house.specs.Loads.{load}
use Rattle.house.proofs.holds.Holds.load.Given as goal

abbrev pub invariant-loop-line : goal.invariant-loop-line
invariant-loop-line l = (l.sum ≡ load l.self.counts l.row l.line) × (l.sum ≤ 999 * l.line)
