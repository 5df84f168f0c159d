use Rattle.masks.proofs.Members.{has_option}
use Rattle.places.proofs.Groups.{none_yet}
use Rattle.places.proofs.group_of.Goals as goal

pub loop-option-init : goal.loop-option-init
loop-option-init g c = rw c.new-group.ensures (none_yet _ c.args.options)

pub place-requires : goal.place-requires
place-requires g c = c.requires c.in-Some.option (has_option c.loop-option.left c.in-Some.option c.in-Some.ensures.0.0)
