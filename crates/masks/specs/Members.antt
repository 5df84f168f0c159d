-- What a mask holds: the set of the options whose bit is 1.
use Rattle.std.specs.Prelude.{◌≡◌, ℕ, zero, suc, ◌+◌, ◌/◌, ◌%◌, ◌^◌, ◌<◌, Bool, true, false, cond, not, ◌&&◌, Some, None, Option, ◌==◌, nat_lt}
use Rattle.masks.specs.declared.Mask.{Mask}

-- whether k is an option at all: the options are numbered from 0 to 15
abbrev pub is_option : ℕ → Bool
is_option k = nat_lt k 16

-- whether bit k of a figure is 1
unfoldable pub bit_of : ℕ → ℕ → Bool
bit_of figure k = figure / 2 ^ k % 2 == 1

-- whether option k is in the set
unfoldable pub has : Mask → ℕ → Bool
has m k = is_option k && bit_of m.bits k

-- how many of the numbers below n pass a test
unfoldable pub how_many : (ℕ → Bool) → ℕ → ℕ
how_many test zero = 0
how_many test (suc n) = how_many test n + cond (test n) 1 0

-- how many options are in the set
abbrev pub size : Mask → ℕ
size m = how_many (has m) 16

-- the smallest number that passes a test, or that none does
abbrev pub Least : (ℕ → Bool) → Option ℕ → Type 0
Least test None = (k : ℕ) → test k ≡ false
Least test (Some n) = (test n ≡ true) × ((k : ℕ) → k < n → test k ≡ false)

-- the smallest option of a set and the set without it, which is smaller; none exactly of the empty set
abbrev pub SplitLeast : Mask → Option (ℕ × Mask) → Type 0
SplitLeast m None = (k : ℕ) → has m k ≡ false
SplitLeast m (Some split) = Least (has m) (Some split.0) × ((k : ℕ) → has split.1 k ≡ (has m k && not (k == split.0))) × (size split.1 < size m)

-- a figure whose bits that are 1 are the options of a set
abbrev pub IsFigure : ℕ → Mask → Type 0
IsFigure bits m = (m ≡ record { bits = bits }) × ((k : ℕ) → has m k ≡ (is_option k && bit_of bits k))

-- a set is known by its options
abbrev pub SameMembers : Type 0
SameMembers = (a b : Mask) → a.bits < 2 ^ 16 → b.bits < 2 ^ 16 → ((k : ℕ) → has a k ≡ has b k) → a ≡ b
