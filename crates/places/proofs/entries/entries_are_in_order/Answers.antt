use Rattle.order.proofs.Laws.{in_order}
use Rattle.places.specs.EntryOrders.{row_total, row_same, row_before}
use Rattle.places.proofs.entries.entries_are_in_order.Goals as goal

pub returns-clause-rows : goal.returns-clause-rows
returns-clause-rows c = in_order row_total row_same

pub returns-clause-by_line : goal.returns-clause-by_line
returns-clause-by_line c = row_before
