use Rattle.wall.proofs.PlanLaws.{one_place, own_place}
use Rattle.wall.proofs.places_are_unique.Goals as goal

pub returns-clause-one : goal.returns-clause-one
returns-clause-one c = one_place

pub returns-clause-own : goal.returns-clause-own
returns-clause-own c = own_place
