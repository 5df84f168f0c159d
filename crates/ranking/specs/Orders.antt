-- What a ranking means: on each line, under the entries above it, a strict order of the options.
use Rattle.std.specs.Prelude.{◌≡◌, ℕ, ◌<◌, Bool, true, false, not, ◌&&◌, List, length, take, ◌≢◌, nat_lt, slice_index}
use Rattle.masks.specs.Members.{is_option, how_many}
use Rattle.rows.specs.Rows.{is_row}
use Rattle.ranking.specs.Lists.{place_in}

-- whether this is the number of a line
abbrev pub is_line : ℕ → Bool
is_line line = nat_lt line 16

-- a line and the entries on the lines above it
abbrev pub is_under : ℕ → List ℕ → Bool
is_under line above = is_line line && is_row line above

-- what a ranking is asked: a line, the entries above it, and two options
abbrev pub is_asked : ℕ → List ℕ → ℕ → ℕ → Bool
is_asked line above a b = is_under line above && (is_option a && is_option b)

-- the laws of a ranking, which says for each line and the entries above it whether option a goes before option b
pub record IsRanking (before : ℕ → List ℕ → ℕ → ℕ → Bool) : Type 0 where
  -- it says no to whatever else it is asked
  pub asked : (line : ℕ) (above : List ℕ) (a b : ℕ) → before line above a b ≡ true → is_asked line above a b ≡ true
  -- no option goes before itself
  pub never : (line : ℕ) (above : List ℕ) (a : ℕ) → before line above a a ≡ false
  -- of two different ones exactly one goes before the other
  pub one : (line : ℕ) (above : List ℕ) (a b : ℕ) → is_asked line above a b ≡ true → (a ≢ b) → before line above a b ≡ not (before line above b a)
  -- what goes before an option goes before all that this one goes before
  pub through : (line : ℕ) (above : List ℕ) (a b c : ℕ) → before line above a b ≡ true → before line above b c ≡ true → before line above a c ≡ true

-- the ranking by lists: the option goes before that stands earlier in the list in force
abbrev pub by_lists : (ℕ → List ℕ → List ℕ) → ℕ → List ℕ → ℕ → ℕ → Bool
by_lists in_force line above a b = is_asked line above a b && nat_lt (place_in a (in_force line above)) (place_in b (in_force line above))

-- figures for the sixteen options of a line, under the entries above it
pub record ArePlacesOf (before : ℕ → List ℕ → ℕ → ℕ → Bool) (line : ℕ) (above places : List ℕ) : Type 0 where
  -- they rise as the ranking orders the options
  pub rise : (a b : ℕ) → is_asked line above a b ≡ true → before line above a b ≡ nat_lt (slice_index places a) (slice_index places b)
  -- each of them is below 16
  pub small : (a : ℕ) → a < 16 → slice_index places a < 16
  -- all are 0 where nothing is asked
  pub none : (a : ℕ) → is_under line above ≡ false → slice_index places a ≡ 0

-- the place of an option: how many options go before it
abbrev pub place_of : (ℕ → List ℕ → ℕ → ℕ → Bool) → ℕ → List ℕ → ℕ → ℕ
place_of before line above option = how_many (λ a. before line above a option) 16

-- row α goes before row β: on some line, under the same entries, the ranking puts α's option before β's
pub record RowBefore (before : ℕ → List ℕ → ℕ → ℕ → Bool) (α β : List ℕ) : Type 0 where
  pub line : ℕ
  pub within : line < length α
  pub above : take line α ≡ take line β
  pub here : before line (take line α) (slice_index α line) (slice_index β line) ≡ true
