use Rattle.masks.proofs.Members.{has_both}
use Rattle.masks.proofs.Mask.both.Goals as goal

pub returns : goal.returns
returns c = has_both c.args.self c.args.other
