use Rattle.forward.proofs.CauseLaws.{settled}
use Rattle.forward.proofs.Rulebook.settle.Goals as goal

pub returns : goal.returns
returns g c =
    let house = c.args.self.now.house.now in
    let n = c.args.self.now.lines in
    let row = c.args.row.now in
    settled (g.H.HouseRule.passing house) (g.H.HouseRule.striking house) (g.met.H.HouseRule.sound house) n row c.args.line c.args.other c.args.was.left c.args.was.causes c.args.ruled
    c.strikes-struck.result c.minus-left.result c.blame-by_rules.result c.only.result c.chosen_lines.result c.blame.result c.requires.few c.requires.line
    c.strikes-struck.ensures c.minus-left.ensures c.only.ensures c.blame-by_rules.ensures c.chosen_lines.ensures c.blame.ensures
