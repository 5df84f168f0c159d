use Rattle.std.proofs.Common.{arith}
use Rattle.std.proofs.lemmas.Bool.{eq-eqb}
use Rattle.masks.proofs.Members.{least_zeros, empty_bits}
use Rattle.masks.proofs.Mask.least.Goals as goal

pub returns-then-self-eq0 : goal.returns-then-self-eq0
returns-then-self-eq0 c = (empty_bits c.args.self (omega arith)).0 (eq-eqb c.args.self.bits 0 c.if-self-eq0.true)

pub returns-else-self-eq0 : goal.returns-else-self-eq0
returns-else-self-eq0 c = least_zeros c.args.self (omega arith) c.if-self-eq0.false
