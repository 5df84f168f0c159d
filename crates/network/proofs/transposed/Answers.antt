use Rattle.std.proofs.Common.{◌≡◌, ℕ, ◌&&◌, get_or, rules}
use Rattle.masks.specs.declared.Mask.{Mask}
use Rattle.masks.specs.Members.{is_option, has}
use Rattle.wall.specs.Rules.{no_options}
use Rattle.network.proofs.Arrays.{made_by}
use Rattle.network.proofs.transposed.Goals as goal

pub returns : goal.returns
returns c y x l =
    made_by _ _ (λ (o : ℕ) (m : Mask). (x : ℕ) → has m x ≡ (is_option x && has (get_or c.args.table.now x no_options) o)) 16 (λ o m q s called. search rules) c.from_fn.result c.from_fn.ensures.items y no_options l x
