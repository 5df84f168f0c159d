-- The figure is written on its card and nowhere else.
use Rattle.std.proofs.Common.{rules}
use borrow.Author.Rules.{Below-row}
use Rattle.house.proofs.Cards.{one_changed}
use Rattle.house.proofs.holds.Holds.set_holds.Goals as goal

pub returns : goal.returns
returns c = search (rules, Below-row, one_changed)
