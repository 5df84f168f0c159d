use Rattle.std.proofs.Common.{◌≡◌, ℕ, ◌<◌, length, get_or}
use Rattle.ranking.proofs.fill.places_in.Given as goal

-- each option that was met has its place
abbrev pub invariant-loop-place : goal.invariant-loop-place
invariant-loop-place l = (length l.places ≡ 16) × ((k : ℕ) → k < l.place → get_or l.places (get_or l.row k 0) 0 ≡ k)
