use Rattle.masks.proofs.Members.{has_minus}
use Rattle.masks.proofs.Mask.minus.Goals as goal

pub returns : goal.returns
returns c = has_minus c.args.self c.args.other
