use Rattle.std.proofs.Common.{◌≡◌, ℕ, ◌<◌, length, get_or, take, Some}
use Rattle.places.specs.Entries.{BestOption}
use Rattle.wallplan.specs.Plans.{options_of}
use Rattle.wallplan.proofs.best_row.Given as goal

-- the lines so far have their best options
abbrev pub invariant-loop-line : goal.invariant-loop-line
invariant-loop-line g l = record {
  whole : length l.row ≡ 3;
  best : (k : ℕ) → k < l.line → BestOption (g.R.Ranking.before l.ranking) k (take k l.row) (options_of l.counts k) (Some (get_or l.row k 0));
}
