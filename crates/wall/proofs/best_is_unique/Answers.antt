use Rattle.wall.proofs.PlanLaws.{one_best}
use Rattle.wall.proofs.best_is_unique.Goals as goal

pub returns-clause-one : goal.returns-clause-one
returns-clause-one c = one_best
