-- The first of a group under a total order.
use Rattle.std.specs.Prelude.{◌≡◌, ℕ, ◌<◌, Bool, true, false, List, length, Some, None, Option, slice_index_or}
use Rattle.std.specs.Ordering.{is_lt}
use Rattle.std.specs.declared.cmp.Ordering.{Ordering}

-- an entry goes before another where the comparison answers that it is less
abbrev pub before_by : {X : Type 0} → (X → X → Ordering) → X → X → Bool
before_by cmp a b = is_lt (cmp a b)

-- index i has the first of a group: no entry goes before it, and it goes before each that stands earlier in the group
pub record FirstAt {X : Type 0} (before : X → X → Bool) (group : List X) (i : ℕ) : Type 0 where
  pub within : i < length group
  pub least : (k : ℕ) (d : X) → k < length group → before (slice_index_or group k d) (slice_index_or group i d) ≡ false
  pub earliest : (k : ℕ) (d : X) → k < i → before (slice_index_or group i d) (slice_index_or group k d) ≡ true

-- the index of the first of a group, the only one there is; none exactly for the empty group
abbrev pub FirstOf : {X : Type 0} → (X → X → Bool) → List X → Option ℕ → Type 0
FirstOf before group None = length group ≡ 0
FirstOf before group (Some i) = FirstAt before group i × ((j : ℕ) → FirstAt before group j → j ≡ i)
