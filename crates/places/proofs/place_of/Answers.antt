use Rattle.std.proofs.Common.{◌∙◌, rules}
use Rattle.masks.specs.Members.{has}
use Rattle.masks.proofs.Counts.{how_many_same}
use Rattle.places.proofs.place_of.Goals as goal

pub returns : goal.returns
returns g c = c.count.ensures ∙ how_many_same (has c.matching.result) (λ a. g.R.Ranking.before c.args.ranking.now c.args.line c.args.above.now a c.args.option) 16 (λ k l. let h = c.matching.ensures k l in search rules)
