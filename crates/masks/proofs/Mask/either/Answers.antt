use Rattle.masks.proofs.Members.{has_either}
use Rattle.masks.proofs.Mask.either.Goals as goal

pub returns : goal.returns
returns c = has_either c.args.self c.args.other
