-- Ranking lists: options in the order in which a line likes them, the best first.
use Rattle.std.specs.Prelude.{ℕ, zero, suc, Bool, true, false, cond, not, ◌&&◌, ◌||◌, List, [], ◌∷◌, ◌++◌, length, ◌==◌, slice_index}
use Rattle.masks.specs.Members.{is_option}

-- whether an option stands in a list
unfoldable pub stands : ℕ → List ℕ → Bool
stands o [] = false
stands o (x ∷ xs) = o == x || stands o xs

-- a list: options, none of them twice
unfoldable pub is_list : List ℕ → Bool
is_list [] = true
is_list (x ∷ xs) = is_option x && (not (stands x xs) && is_list xs)

-- a permutation of the sixteen options: a list in which none is missing
unfoldable pub is_permutation : List ℕ → Bool
is_permutation xs = length xs == 16 && is_list xs

-- the options below n that a list lacks, rising
unfoldable pub missing : ℕ → List ℕ → List ℕ
missing zero xs = []
missing (suc n) xs = missing n xs ++ cond (stands n xs) [] (n ∷ [])

-- a list filled up with the options that it lacks, rising
unfoldable pub filled : List ℕ → List ℕ
filled xs = xs ++ missing 16 xs

-- how many options stand before an option in a list
unfoldable pub place_in : ℕ → List ℕ → ℕ
place_in o [] = 0
place_in o (x ∷ xs) = cond (o == x) 0 (suc (place_in o xs))

-- whether these are the places of the options below n in a list
unfoldable pub are_places : ℕ → List ℕ → List ℕ → Bool
are_places zero places row = true
are_places (suc n) places row = slice_index places n == place_in n row && are_places n places row
