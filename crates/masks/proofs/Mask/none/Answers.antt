use Rattle.masks.proofs.Members.{has_none}
use Rattle.masks.proofs.Mask.none.Goals as goal

pub returns : goal.returns
returns c = has_none
