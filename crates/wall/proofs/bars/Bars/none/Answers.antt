use Rattle.wall.proofs.WallLaws.{bars_none}
use Rattle.wall.proofs.bars.Bars.none.Goals as goal

pub returns : goal.returns
returns c = bars_none c.none.result c.none.ensures
