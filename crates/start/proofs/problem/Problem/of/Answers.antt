use Rattle.std.proofs.Common.{arith}
use Rattle.start.proofs.Turning.{apart, back, both}
use Rattle.start.proofs.problem.Problem.of.Goals as goal

pub invariant_of-result : goal.invariant_of-result
invariant_of-result c = record {
  few = omega arith;
  sixteen = omega arith;
  apart = apart c.args.wall.now c.of.result c.of.ensures;
  back = back c.args.wall.now c.of.result c.of.ensures;
  both = both c.args.wall.now c.of.result c.of.ensures;
}
