use Rattle.std.proofs.Common.{◌≡◌, length, take}
use Rattle.ranking.proofs.fill.fill_up.Given as goal

-- the front of the row is that of the list
abbrev pub invariant-loop-place : goal.invariant-loop-place
invariant-loop-place l = (length l.row ≡ 16) × (take l.place l.row ≡ take l.place l.list)
