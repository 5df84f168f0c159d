use Rattle.std.proofs.Common.{ℕ, ◌<◌, ◌≤◌, ◌≡◌, false}
use Rattle.masks.specs.Members.{has}
use Rattle.masks.proofs.Mask.matching.Given as goal

-- the options seen so far are in the set as the test says, and no others
abbrev pub invariant-loop-option : goal.invariant-loop-option
invariant-loop-option g l = record {
  seen : (k : ℕ) → k < l.option → goal.F-post g l.test k (has (record { bits = l.bits }) k);
  unseen : (k : ℕ) → l.option ≤ k → has (record { bits = l.bits }) k ≡ false;
}
