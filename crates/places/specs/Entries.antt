-- Options and rows as entries of a group, each with its places in a ranking.
use Rattle.std.specs.Prelude.{◌≡◌, ℕ, ◌<◌, ◌≤◌, Bool, true, false, ◌&&◌, ◌||◌, ◌⊎◌, List, length, take, Some, None, Option, ◌==◌, nat_le, nat_lt, slice_index, slice_index_or, All, Contains}
use Rattle.rows.specs.Rows.{is_row}
use Rattle.ranking.specs.Orders.{is_under, place_of}
use Rattle.places.specs.declared.entries.RankedOption.{RankedOption}

-- the smaller place goes before; entries of one place go by the number of the option
abbrev pub entry_before : RankedOption → RankedOption → Bool
entry_before a b = nat_lt a.place b.place || (a.place == b.place && nat_lt a.option b.option)

-- the entry of a line that has no option
abbrev pub open_entry : RankedOption
open_entry = record { option = 255; place = 0 }

-- an option with its place on a line, under the entries above it
abbrev pub ranked : (ℕ → List ℕ → ℕ → ℕ → Bool) → ℕ → List ℕ → ℕ → RankedOption
ranked before line above o = record { option = o; place = place_of before line above o }

-- sixteen entries: those of a row with their places, and open ones behind
pub record RanksRow (before : ℕ → List ℕ → ℕ → ℕ → Bool) (row : List ℕ) (entries : List RankedOption) : Type 0 where
  pub whole : length entries ≡ 16
  pub here : (k : ℕ) (d : RankedOption) → k < length row → slice_index_or entries k d ≡ ranked before k (take k row) (slice_index row k)
  pub rest : (k : ℕ) (d : RankedOption) → length row ≤ k → k < 16 → slice_index_or entries k d ≡ open_entry

-- the options of a set, each with a place that it is given
pub record PlacesOptions (given : ℕ → ℕ → Type 0) (test : ℕ → Bool) (entries : List RankedOption) : Type 0 where
  pub each : All (λ e. given e.option e.place × (test e.option ≡ true)) entries
  pub all : (o : ℕ) → test o ≡ true → (p : ℕ) × Contains entries (record { place = p; option = o })

-- the option of a set that is given the least place, of those with the same the lowest numbered; none of an empty set
abbrev pub FirstBy : (ℕ → ℕ → Type 0) → (ℕ → Bool) → Option ℕ → Type 0
FirstBy given test None = (o : ℕ) → test o ≡ false
FirstBy given test (Some first) =
    (test first ≡ true) × (p : ℕ) × given first p × ((o : ℕ) → test o ≡ true → (q : ℕ) × given o q × ((p < q) ⊎ ((p ≡ q) × (first ≤ o))))

-- the option of a set that has the least figure, of those with the same the lowest numbered; none of an empty set
abbrev pub FirstByPlace : List ℕ → (ℕ → Bool) → Option ℕ → Type 0
FirstByPlace places test None = (o : ℕ) → test o ≡ false
FirstByPlace places test (Some first) =
    (test first ≡ true) × ((o : ℕ) → test o ≡ true → (slice_index places first < slice_index places o) ⊎ ((slice_index places first ≡ slice_index places o) × (first ≤ o)))

-- two rows of one wall, of at most sixteen lines
abbrev pub is_pair : List ℕ → List ℕ → Bool
is_pair α β = nat_le (length α) 16 && (is_row (length α) α && is_row (length α) β)

-- the option of a set that goes before every other one in it: none if the set is empty or nothing is asked
abbrev pub BestOption : (ℕ → List ℕ → ℕ → ℕ → Bool) → ℕ → List ℕ → (ℕ → Bool) → Option ℕ → Type 0
BestOption before line above test None = is_under line above ≡ true → (o : ℕ) → test o ≡ false
BestOption before line above test (Some best) = (is_under line above ≡ true) × (test best ≡ true) × ((o : ℕ) → test o ≡ true → before line above o best ≡ false)
