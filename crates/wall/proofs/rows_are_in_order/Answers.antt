use Rattle.wall.proofs.RowOrder.{rows_in_order}
use Rattle.wall.proofs.rows_are_in_order.Goals as goal

pub returns-clause-order : goal.returns-clause-order
returns-clause-order c = rows_in_order
