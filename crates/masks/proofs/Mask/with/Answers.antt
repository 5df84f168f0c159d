use Rattle.std.proofs.Common.{Bool, ◌||◌, ap, ◌∙◌}
use Rattle.masks.specs.Members.{has}
use Rattle.masks.proofs.Members.{has_either, has_only}
use Rattle.masks.proofs.Mask.with.Goals as goal

pub returns : goal.returns
returns c k =
    has_either c.args.self (record { bits = c.bit.result }) k
    ∙ ap (λ (b : Bool). has c.args.self k || b) (has_only c.args.option c.bit.result k c.bit.ensures)
