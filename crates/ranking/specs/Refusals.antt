-- Refusals of a ranking's lists: their numbers, and what they leave.
use Rattle.std.specs.Prelude.{◌≡◌, ℕ, Bool, true, false, cond, ◌&&◌, Ok, Err, Result}
use Rattle.ranking.specs.declared.refusal.RankingRefusal.{RankingRefusal}
use Rattle.ranking.specs.declared.refusal.RankingRefusal.TheVariants.{OutOfRange, OtherParent}

-- the number of each refusal
abbrev pub number_of : RankingRefusal → ℕ
number_of OutOfRange = 20
number_of OtherParent = 21

-- a list whose numbers and parent are good is taken and written; any other is refused, its numbers first, and nothing changes
abbrev pub Taken : {S : Type 0} → Bool → Bool → Type 0 → S → S → Result (Unit {0}) RankingRefusal → Type 0
Taken in_range parent_fits written was is (Ok _) = ((in_range && parent_fits) ≡ true) × written
Taken in_range parent_fits written was is (Err e) = ((in_range && parent_fits) ≡ false) × (e ≡ cond in_range OtherParent OutOfRange) × (is ≡ was)
