use Rattle.order.proofs.Laws.{never, asym, ahead}
use Rattle.order.proofs.kind_is_in_order.Goals as goal

pub returns-clause-laws : goal.returns-clause-laws
returns-clause-laws g c =
    let o = g.met.T.Ord.total in
    record { never = never o; one = g.met.T.Ordered.one; through = λ a b d p q. ahead o a b d p (asym o b d q) }
