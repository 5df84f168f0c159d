use Rattle.network.proofs.NetLaws.{net_none}
use Rattle.network.proofs.Network.empty.Goals as goal

pub returns : goal.returns
returns c = net_none c.none.result c.none-2.result c.none.ensures c.none-2.ensures
