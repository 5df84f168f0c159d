-- The steps of filling a list and of finding the places in it. Assumes nothing.
use Rattle.std.specs.Prelude.{◌≡◌, ℕ, ◌+◌, ◌<◌, ◌≤◌, Bool, true, false, ◌&&◌, ◌||◌, List, [], ◌∷◌, ◌++◌, length, take, drop, ◌==◌, nat_eq, slice_index, slice_index_or, slice_set}
use Rattle.std.proofs.Common.{sym, ap, ◌∙◌, append_assoc, ⊎_elim, arith, length-append}
use Rattle.std.proofs.lemmas.List.{take-append-drop, drop_more, take_more, take_more_set, take_all, get_or-set_same, get_or-set_other}
use Rattle.std.proofs.lemmas.Bool.{false_from_ne_true, cases_lt, both_ways}
use Rattle.std.proofs.lemmas.Bool.Decides.{nat_tests}
use Rattle.masks.specs.declared.Mask.{Mask}
use Rattle.masks.specs.Members.{is_option, has}
use Rattle.ranking.specs.Lists.{stands, is_list, is_permutation, missing, filled, place_in, are_places}
use Rattle.ranking.specs.ListLaws.{stands_push, list_push, list_new, whole, missing_old, missing_new}
use Rattle.ranking.specs.Permutations.{permutation_length, permutation_list, permutation_stands, option_at, place_at, at_place, places_from}

module _ (xs : List ℕ) (i : ℕ) (l : i < length xs) where
  split : xs ≡ take i xs ++ (slice_index xs i ∷ drop (i + 1) xs)
  split = sym (take-append-drop i xs) ∙ ap (λ (t : List ℕ). take i xs ++ t) (drop_more xs i 0 l)

  -- a number that is no option, or one that stands further up
  pub no_option : 16 ≤ slice_index xs i → is_list xs ≡ false
  no_option g = false_from_ne_true (is_list xs) (λ h. let n = (list_new (take i xs) (drop (i + 1) xs) (slice_index xs i) (ap is_list (sym split) ∙ h)).0 in omega arith)

  pub twice : stands (slice_index xs i) (take i xs) ≡ true → is_list xs ≡ false
  twice s = false_from_ne_true (is_list xs) (λ h. both_ways (stands (slice_index xs i) (take i xs)) (list_new (take i xs) (drop (i + 1) xs) (slice_index xs i) (ap is_list (sym split) ∙ h)).1 s)

  -- one option more of the list
  more : take (i + 1) xs ≡ take i xs ++ (slice_index xs i ∷ [])
  more = take_more xs i 0 l

  pub list_more : is_list (take i xs) ≡ true → slice_index xs i < 16 → stands (slice_index xs i) (take i xs) ≡ false → is_list (take (i + 1) xs) ≡ true
  list_more h o s = ap is_list more ∙ list_push (take i xs) (slice_index xs i) h o s

  pub set_more : (was is : Mask) → ((o : ℕ) → has was o ≡ stands o (take i xs)) → ((o : ℕ) → has is o ≡ (has was o || (is_option o && o == slice_index xs i))) → slice_index xs i < 16
      → (o : ℕ) → has is o ≡ stands o (take (i + 1) xs)
  set_more was is h g s o =
      let z = slice_index_or xs i 0 in
      let e : (is_option o && o == z) ≡ nat_eq o z = grind (arith, nat_tests) in
      g o ∙ ap (λ (b : Bool). b || (is_option o && o == z)) (h o) ∙ ap (λ (b : Bool). stands o (take i xs) || b) e ∙ sym (ap (stands o) more ∙ stands_push o z (take i xs))

-- one number on: an option that the list has is passed over, any other is put behind
pub complete_old : (xs row : List ℕ) (o n end : ℕ) → stands o xs ≡ true → end ≡ n + length (missing o xs) → take end row ≡ xs ++ missing o xs
    → (end ≡ n + length (missing (o + 1) xs)) × (take end row ≡ xs ++ missing (o + 1) xs)
complete_old xs row o n end h e t = let m = missing_old o xs h in (rw m e, rw m t)

pub complete_new : (xs row : List ℕ) (o n end : ℕ) → end < length row → stands o xs ≡ false → end ≡ n + length (missing o xs) → take end row ≡ xs ++ missing o xs
    → (end + 1 ≡ n + length (missing (o + 1) xs)) × (take (end + 1) (slice_set row end o) ≡ xs ++ missing (o + 1) xs)
complete_new xs row o n end l h e t =
    let m = missing_new o xs h in
    (rw m (simp length-append (omega arith)), rw m (take_more_set row end o l ∙ ap (λ (u : List ℕ). u ++ (o ∷ [])) t ∙ append_assoc xs (missing o xs) (o ∷ [])))

-- all numbers seen: the row is the filled list
pub complete_all : (xs row : List ℕ) (n end : ℕ) → is_list xs ≡ true → length row ≡ 16 → length xs ≡ n → end ≡ n + length (missing 16 xs) → take end row ≡ xs ++ missing 16 xs
    → row ≡ filled xs
unfolding filled
complete_all xs row n end h w k e t = let a = whole xs h in sym (take_all end row (omega arith)) ∙ t

-- one place more
pub place_more : (row places : List ℕ) (k : ℕ) → is_permutation row ≡ true → length places ≡ 16 → k < 16
    → ((j : ℕ) → j < k → slice_index places (slice_index row j) ≡ j) → (j : ℕ) → j < k + 1 → slice_index (slice_set places (slice_index row k) k) (slice_index row j) ≡ j
place_more row places k p n l h j m =
    let w = permutation_length row p in
    let list = permutation_list row p in
    let small = option_at row k p l in
    ⊎_elim
    (λ (b : j < k).
    get_or-set_other places (slice_index row k) (slice_index row j) k 0 (λ e.
    let q : j ≡ k = sym (place_at row list j 0 (omega arith)) ∙ ap (λ (o : ℕ). place_in o row) e ∙ place_at row list k 0 (omega arith) in omega arith)
    ∙ h j b)
    (λ (b : k ≤ j). let e : j ≡ k = omega arith in rw e (get_or-set_same places (slice_index row k) k 0 (omega arith)))
    (cases_lt j k)

-- all places found
pub place_all : (row places : List ℕ) → is_permutation row ≡ true → ((j : ℕ) → j < 16 → slice_index places (slice_index row j) ≡ j) → are_places 16 places row ≡ true
place_all row places p h = places_from 16 places row (λ o l.
    let a = at_place row o 0 (permutation_stands row o p l) in
    let w = permutation_length row p in
    ap (λ (x : ℕ). slice_index places x) (sym a.1) ∙ h (place_in o row) (omega arith))
