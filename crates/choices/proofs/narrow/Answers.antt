use Rattle.std.proofs.Common.{rules, ◌≡◌, Ok, Err, MatchResult, get_or, sym, ◌∙◌, arith}
use Rattle.std.proofs.lemmas.Bool.{both_ways}
use Rattle.wall.specs.Rules.{no_options}
use Rattle.forward.specs.Fits.{rules_of}
use Rattle.choices.proofs.Narrowing.{narrowed, stuck_by}
use Rattle.choices.proofs.narrow.Goals as goal

pub returns : goal.returns
returns g c =
    let rules' = c.args.rules.now in
    let r = rules_of rules'.lines rules'.net.now (g.H.HouseRule.passing rules'.house.now) in
    let was = c.args.level.now in
    let is = c.check_forward.new.level in
    let row = c.args.row.now in
    let line = c.args.choice.line in
    let x = c.args.choice.option in
    let blames : MatchResult c.check_forward.result (λ _. c.map_err.result ≡ Ok tt) (λ dead. c.map_err.result ≡ Err (get_or is.causes dead no_options)) = search rules in (
      (λ choice.
          let w = c.check_forward.ensures.0 choice in (
            narrowed r row line x c.only.result was.masks was.causes is.masks is.causes choice (omega arith) c.only.ensures w.0,
            stuck_by r line x row is.masks is.causes c.check_forward.result c.map_err.result blames w.1,
          )),
      (λ none. absurd (both_ways _ none (sym c.stands_in.ensures ∙ c.if-not-stands_in.false))),
    )
