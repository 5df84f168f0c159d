use Rattle.network.proofs.WayLaws.{way_none}
use Rattle.network.proofs.ways.WaySet.none.Goals as goal

pub returns : goal.returns
returns c = way_none
