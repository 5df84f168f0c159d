use Rattle.std.proofs.Common.{◌≡◌, ℕ, ◌<◌, ◌≤◌, length, get_or, take}
use Rattle.places.specs.declared.entries.RankedOption.{RankedOption}
use Rattle.places.specs.Entries.{ranked, open_entry}
use Rattle.places.proofs.ranked_row.Given as goal

-- the lines so far have their places, and the others are open
abbrev pub invariant-loop-line : goal.invariant-loop-line
invariant-loop-line g l = record {
  whole : length l.entries ≡ 16;
  here : (k : ℕ) (d : RankedOption) → k < l.line → get_or l.entries k d ≡ ranked (g.R.Ranking.before l.ranking) k (take k l.row) (get_or l.row k 0);
  rest : (k : ℕ) (d : RankedOption) → l.line ≤ k → k < 16 → get_or l.entries k d ≡ open_entry;
}
