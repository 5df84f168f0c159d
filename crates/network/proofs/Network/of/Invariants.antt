use Rattle.std.proofs.Common.{take}
use Rattle.network.specs.Ways.{IsNetwork}
use Rattle.network.proofs.Network.of.Given as goal

-- the rules so far are in the network
abbrev pub invariant-loop-k : goal.invariant-loop-k
invariant-loop-k l = IsNetwork (take l.k l.wall.rules) l.net.ways l.net.tables
