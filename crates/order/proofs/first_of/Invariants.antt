use Rattle.std.proofs.Common.{◌+◌, ◌≡◌, get_or}
use Rattle.order.specs.Firsts.{before_by}
use Rattle.order.proofs.Firsts.{FirstBelow}
use Rattle.order.proofs.first_of.Given as goal

abbrev pub invariant-loop-i : goal.invariant-loop-i
invariant-loop-i g l = record {
  found : FirstBelow (before_by g.T.Ord.cmp) l.group (l.i + 1) l.first;
  best : (d : _) → l.best ≡ get_or l.group l.first d;
}
