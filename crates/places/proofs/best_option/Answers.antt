use Rattle.std.proofs.Common.{◌≡◌, ℕ, sym, rules}
use Rattle.ranking.specs.Orders.{place_of}
use Rattle.places.proofs.PlaceLaws.{place_less, first_is_best}
use Rattle.places.proofs.best_option.Goals as goal

pub returns : goal.returns
returns g c =
    let before = g.R.Ranking.before c.args.ranking.now in
    let given : ℕ → ℕ → Type 0 = λ o p. p ≡ place_of before c.args.line c.args.above.now o in
    first_is_best before c.args.line c.args.above.now c.args.options given c.first_by.result
    (λ a b p q l m e f t. rw (e, f) (place_less before (g.met.R.Ranking.ranks c.args.ranking.now) c.args.line c.args.above.now a b t)) (sym c.if-not-is_under.ensures) (search rules)
