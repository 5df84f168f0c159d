use Rattle.masks.specs.Members.{has}
use Rattle.places.proofs.Groups.{first_placed}
use Rattle.places.proofs.first_by.Goals as goal

pub returns : goal.returns
returns g c = rw c.deref-2.ensures.0 (first_placed _ (has c.args.options) c.group_of-group.result.items c.in_ok-first.first _ c.group_of-group.ensures (rw c.deref.ensures.0 at c.in_ok-first.ensures.0))
