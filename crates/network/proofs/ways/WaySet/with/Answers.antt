use Rattle.network.proofs.WayLaws.{way_with}
use Rattle.network.proofs.ways.WaySet.with.Goals as goal

pub returns-then-way-lt48 : goal.returns-then-way-lt48
returns-then-way-lt48 c k = way_with c.args.self c.args.way k c.if-way-lt48.true
