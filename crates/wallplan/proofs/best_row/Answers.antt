use Rattle.std.proofs.Common.{◌<◌, arith}
use Rattle.std.proofs.lemmas.List.{length-set}
use Rattle.wallplan.proofs.Plans.{best_more, none_best}
use Rattle.wallplan.proofs.best_row.Goals as goal

pub returns-in_err-row : goal.returns-in_err-row
returns-in_err-row g c =
    let before = g.R.Ranking.before c.args.ranking.now in
    let so_far = c.loop-line.invariant in
    let l : c.loop-line.line < 3 = omega arith in
    let none = none_best before c.args.counts.now c.loop-line.row c.loop-line.line l so_far.whole so_far.best c.first.result c.first.ensures c.in_err-row.ensures in
    rw c.from_residual.ensures (c.loop-line.line, l, none)

pub loop-line-preserved : goal.loop-line-preserved
loop-line-preserved g c =
    let before = g.R.Ranking.before c.args.ranking.now in
    let so_far = c.loop-line.invariant in
    let l : c.loop-line.line < 3 = omega arith in
    record {
      whole = omega (arith, length-set c.loop-line.row c.loop-line.line c.in_ok-row.field-0);
      best = best_more before c.args.counts.now c.loop-line.row c.loop-line.line l so_far.whole so_far.best c.first.result c.first.ensures c.in_ok-row.field-0 c.in_ok-row.ensures;
    }
