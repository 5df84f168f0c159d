use Rattle.masks.proofs.Members.{same_members}
use Rattle.masks.proofs.Mask.sets_by_members.Goals as goal

pub returns-clause-members : goal.returns-clause-members
returns-clause-members c = same_members
