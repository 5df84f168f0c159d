use Rattle.std.proofs.Common.{◌≡◌, ℕ, ◌<◌, Bool, ◌&&◌, get_or, rules, arith}
use Rattle.std.proofs.lemmas.Bool.Decides.{nat_tests}
use Rattle.masks.specs.declared.Mask.{Mask}
use Rattle.masks.specs.Members.{is_option, has}
use Rattle.masks.proofs.Members.{has_option}
use Rattle.wall.specs.Rules.{no_options}
use Rattle.network.proofs.column.Goals as goal

-- a set of options, by a test of each option
by_test : (m : Mask) (test : ℕ → Bool) → ((k : ℕ) → k < 16 → has m k ≡ test k) → (k : ℕ) → has m k ≡ (is_option k && test k)
by_test m test h k = grind (arith, nat_tests, h k, has_option m k)

pub returns : goal.returns
returns c = by_test c.matching.result (λ x. has (get_or c.args.table.now x no_options) c.args.option) (λ x l. search (rules, c.matching.ensures x l))
