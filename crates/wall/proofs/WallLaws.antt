-- What a wall without bars is.
use Rattle.std.proofs.Common.{◌≡◌, ℕ, false, replicate, arith}
use Rattle.std.proofs.lemmas.Grind.{common_steps}
use Rattle.std.proofs.lemmas.List.{get_or_past, get_or-replicate}
use Rattle.masks.specs.declared.Mask.{Mask}
use Rattle.masks.specs.Members.{has}
use Rattle.masks.proofs.Members.{has_none}
use Rattle.wall.specs.Rules.{is_barred}

-- sixteen empty sets bar nothing
pub bars_none : (m : Mask) → ((k : ℕ) → has m k ≡ false) → (line option : ℕ) → is_barred (replicate 16 m) line option ≡ false
bars_none m h line option = grind (arith, common_steps, get_or-replicate, get_or_past, has_none, h option)
