-- Refusals of a house rule's tables: their numbers, and what they leave.
use Rattle.std.specs.Prelude.{◌≡◌, ℕ, Bool, true, false, Ok, Err, Result}
use Rattle.house.specs.declared.refusal.HouseRefusal.{HouseRefusal}
use Rattle.house.specs.declared.refusal.HouseRefusal.TheVariants.{OutOfRange}

-- the number of each refusal
abbrev pub number_of : HouseRefusal → ℕ
number_of OutOfRange = 23

-- a figure that fits is taken and written; any other is refused, and nothing changes
abbrev pub Taken : {S : Type 0} → Bool → Type 0 → S → S → Result (Unit {0}) HouseRefusal → Type 0
Taken fits written was is (Ok _) = (fits ≡ true) × written
Taken fits written was is (Err e) = (fits ≡ false) × (e ≡ OutOfRange) × (is ≡ was)
