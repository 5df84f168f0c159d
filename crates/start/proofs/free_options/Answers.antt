use Rattle.std.proofs.Common.{◌≡◌, ℕ, ap₂, rules}
use Rattle.masks.specs.declared.Mask.{Mask}
use Rattle.masks.specs.Members.{has}
use Rattle.network.proofs.Arrays.{made_by}
use Rattle.wall.specs.Rules.{no_options}
use Rattle.start.specs.Starts.{is_free}
use Rattle.start.proofs.free_options.Goals as goal

pub returns : goal.returns
returns c line o l =
    made_by _ _ (λ (k : ℕ) (m : Mask). (x : ℕ) → has m x ≡ is_free c.args.wall.now c.args.bars.now k x) 16 (λ k m q s called. (ap₂ (λ wall bars. (wall, bars)) called.met.1.0 called.met.1.1, λ x. search (rules, called.met.0))) c.from_fn.result c.from_fn.ensures.items line no_options l o
