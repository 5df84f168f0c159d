use Rattle.std.proofs.Common.{arith}
use Rattle.masks.proofs.Members.{size_ones}
use Rattle.masks.proofs.Mask.count.Goals as goal

pub returns : goal.returns
returns c = size_ones c.args.self (omega arith)
