use Rattle.order.proofs.Firsts.{second_answered}
use Rattle.order.specs.Firsts.{before_by}
use Rattle.places.specs.EntryOrders.{row_cmp}
use Rattle.places.proofs.PlaceLaws.{pair_from, by_places}
use Rattle.places.proofs.row_goes_before.Goals as goal

pub returns : goal.returns
returns g c =
    let better = c.in-Some.better in
    let worse = c.in-Some-ranked_row.worse in
    let a = c.in-Some.ensures in
    let b = c.in-Some-ranked_row.ensures in
    let pair = pair_from c.args.first.now c.args.second.now a.0 b.0 c.if-first-second.false in
    let decides = second_answered (before_by row_cmp) better worse c.first_of.result c.eq.result c.first_of.ensures c.eq.ensures in
    let ranks = by_places (g.R.Ranking.before c.args.ranking.now) (g.met.R.Ranking.ranks c.args.ranking.now) c.args.first.now c.args.second.now better.entries worse.entries pair a.1 b.1 in
    (λ e. (pair, ranks.0 (decides.0 e)), λ p. decides.1 (ranks.1 p.1))
