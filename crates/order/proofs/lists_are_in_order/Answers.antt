use Rattle.order.proofs.Listed.{lists_in_order}
use Rattle.order.proofs.lists_are_in_order.Goals as goal

pub returns-clause-lists : goal.returns-clause-lists
returns-clause-lists g c before order = lists_in_order order
