-- What the chosen entries of a row add up to.
use Rattle.std.specs.Prelude.{◌≡◌, ℕ, zero, suc, ◌+◌, Bool, cond, ◌&&◌, List, [], get_or, ◌==◌, nat_le, nat_lt, slice_index, slice_index_or}
use Rattle.masks.specs.Members.{is_option}
use Rattle.house.specs.Questions.{is_judged, is_open_line}

-- the holds of a card: an option of a line
abbrev pub holds_of : List (List ℕ) → ℕ → ℕ → ℕ
holds_of counts line option = slice_index (slice_index_or counts line []) option

-- what a line adds: the holds of its option, and nothing while it is open
abbrev pub share : List (List ℕ) → List ℕ → ℕ → ℕ
share counts row line = let entry = get_or row line 0 in cond (is_option entry) (holds_of counts line entry) 0

-- what the first n lines of a row add up to
unfoldable pub load : List (List ℕ) → List ℕ → ℕ → ℕ
load counts row zero = 0
load counts row (suc n) = load counts row n + share counts row n

-- a row passes when its holds add up to at most the limit
abbrev pub is_within : List (List ℕ) → ℕ → ℕ → List ℕ → Bool
is_within counts limit n row = is_judged n row && nat_le (load counts row n) limit

-- an option is struck when the holds of the chosen entries and its own exceed the limit
abbrev pub is_over : List (List ℕ) → ℕ → ℕ → List ℕ → ℕ → ℕ → Bool
is_over counts limit n partial line option = is_open_line n partial line && (is_option option && nat_lt limit (load counts partial n + holds_of counts line option))

-- a figure that may be set for a card, and one that may be the limit
abbrev pub is_card : ℕ → ℕ → Bool
is_card line option = is_option line && is_option option

abbrev pub is_count : ℕ → Bool
is_count figure = nat_le figure 999

abbrev pub is_limit : ℕ → Bool
is_limit figure = nat_le figure 16000

-- one card has a new figure, and all others keep theirs
abbrev pub OneChanged : List (List ℕ) → List (List ℕ) → ℕ → ℕ → ℕ → Type 0
OneChanged was is line option figure = (l o : ℕ) → holds_of is l o ≡ cond (l == line && o == option) figure (holds_of was l o)
