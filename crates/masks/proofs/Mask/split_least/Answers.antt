use Rattle.masks.proofs.Members.{bits_some, split_least}
use Rattle.masks.proofs.Mask.split_least.Goals as goal

pub overflow_sub-rest : goal.overflow_sub-rest
overflow_sub-rest c = bits_some c.args.self c.in_ok-least.least c.in_ok-least.ensures.0

pub returns : goal.returns
returns c = split_least c.args.self c.in_ok-least.least c.in_ok-least.ensures
