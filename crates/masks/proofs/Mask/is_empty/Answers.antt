use Rattle.std.proofs.Common.{arith}
use Rattle.masks.proofs.Members.{empty_bits}
use Rattle.masks.proofs.Mask.is_empty.Goals as goal

pub returns : goal.returns
returns c = empty_bits c.args.self (omega arith)
