use Rattle.std.proofs.Common.{refl, rules}
use Rattle.network.proofs.NetLaws.{ways_put, rule_put}
use Rattle.network.proofs.Network.put.Goals as goal

pub returns : goal.returns
returns c =
    let ways = ways_put c.args.k c.args.rule c.args.self.now.ways _ c.with.result c.with-2.result c.requires.index c.requires.first c.requires.second (search rules) c.args.self.now.rows refl c.with.ensures c.with-2.ensures in
    rule_put c.args.k c.args.rule c.args.self.now.ways _ _ c.args.self.now.tables c.transposed.result c.requires.index (search rules) ways.0 ways.1 c.transposed.ensures
