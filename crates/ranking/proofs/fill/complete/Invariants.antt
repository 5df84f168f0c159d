use Rattle.std.proofs.Common.{◌≡◌, ◌+◌, ◌++◌, length, take}
use Rattle.ranking.specs.Lists.{missing}
use Rattle.ranking.proofs.fill.complete.Given as goal

-- behind the list stand the options below this one that it lacks
abbrev pub invariant-loop-option : goal.invariant-loop-option
invariant-loop-option l =
    (length l.row ≡ 16) × (l.end ≡ l.count + length (missing l.option (take l.count l.initial.row)))
    × (take l.end l.row ≡ take l.count l.initial.row ++ missing l.option (take l.count l.initial.row))
