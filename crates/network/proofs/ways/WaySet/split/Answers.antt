use Rattle.std.proofs.Common.{arith}
use Rattle.network.proofs.WayLaws.{lowest_apart, no_way}
use Rattle.network.proofs.ways.WaySet.split.Goals as goal

pub returns-then-way-ge48 : goal.returns-then-way-ge48
returns-then-way-ge48 c = no_way c.args.self (omega arith) c.if-way-ge48.true

pub returns : goal.returns
returns c = lowest_apart c.args.self (omega arith) c.if-way-ge48.false
