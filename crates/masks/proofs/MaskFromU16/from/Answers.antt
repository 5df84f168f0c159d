use Rattle.std.proofs.Common.{refl}
use Rattle.masks.proofs.Members.{has_bits}
use Rattle.masks.proofs.MaskFromU16.from.Goals as goal

pub returns : goal.returns
returns c = (refl, has_bits c.args.bits)
