use Rattle.masks.proofs.Members.{has_only}
use Rattle.masks.proofs.Mask.only.Goals as goal

pub returns : goal.returns
returns c k = has_only c.args.option _ k c.bit.ensures
