use Rattle.std.proofs.Common.{refl}
use Rattle.masks.proofs.Members.{has_bits}
use Rattle.masks.proofs.U16FromMask.from.Goals as goal

pub returns : goal.returns
returns c = (refl, has_bits c.args.set.bits)
