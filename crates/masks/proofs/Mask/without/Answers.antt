use Rattle.masks.proofs.Members.{without_only, size_without}
use Rattle.masks.proofs.Mask.without.Goals as goal

pub returns : goal.returns
returns c =
    let members = without_only c.args.self c.only.result c.minus.result c.args.option c.only.ensures c.minus.ensures in
    record { members = members; fewer = size_without c.args.self c.minus.result c.args.option members }
