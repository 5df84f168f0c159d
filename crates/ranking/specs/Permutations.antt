-- The laws of lists in which no option is missing, and of places in them. Assumes nothing.
use Rattle.std.specs.Prelude.{◌≡◌, ℕ, zero, suc, ◌<◌, ◌≤◌, Bool, true, false, cond, List, [], ◌∷◌, ◌++◌, length, get_or, ◌==◌, nat_eq, slice_index, slice_index_or, refl}
use Rattle.std.proofs.Common.{sym, ap, ◌∙◌, append_assoc, ⊎_elim, arith, length-append}
use Rattle.std.proofs.lemmas.List.{append-nil}
use Rattle.std.proofs.lemmas.Bool.{cases_Bool, cases_eq, eq-eqb, ne_eqb, eqb-true, and_parts, and_from, or_from, or_cases, both_ways, cond-true, cond-false}
use Rattle.ranking.specs.Lists.{stands, is_list, is_permutation, missing, filled, place_in, are_places}
use Rattle.ranking.specs.ListLaws.{stands_append, stands_push, stands_none, stands_at, list_parts, list_option, list_push, whole, room}

-- what is lacked below n is below n
stands_missing : (n o : ℕ) (xs : List ℕ) → n ≤ o → stands o (missing n xs) ≡ false
unfolding missing
stands_missing zero o xs l = stands_none o
stands_missing (suc n) o xs l =
    ⊎_elim
    (λ (h : stands n xs ≡ true). ap (λ (b : Bool). stands o (missing n xs ++ cond b [] (n ∷ []))) h ∙ ap (stands o) (append-nil (missing n xs)) ∙ stands_missing n o xs (omega arith))
    (λ (h : stands n xs ≡ false).
    ap (λ (b : Bool). stands o (missing n xs ++ cond b [] (n ∷ []))) h ∙ stands_push o n (missing n xs)
    ∙ or_from (stands o (missing n xs)) (o == n) (stands_missing n o xs (omega arith)) (ne_eqb o n (λ e. omega (arith, e))))
    (cases_Bool (stands n xs))

-- a list is still one with the missing options behind it
list_missing : (n : ℕ) (xs : List ℕ) → n ≤ 16 → is_list xs ≡ true → is_list (xs ++ missing n xs) ≡ true
unfolding missing
list_missing zero xs l h = ap is_list (append-nil xs) ∙ h
list_missing (suc n) xs l h =
    let ih = list_missing n xs (omega arith) h in
    ⊎_elim
    (λ (t : stands n xs ≡ true). ap (λ (b : Bool). is_list (xs ++ (missing n xs ++ cond b [] (n ∷ [])))) t ∙ ap (λ (ys : List ℕ). is_list (xs ++ ys)) (append-nil (missing n xs)) ∙ ih)
    (λ (t : stands n xs ≡ false).
    ap (λ (b : Bool). is_list (xs ++ (missing n xs ++ cond b [] (n ∷ [])))) t ∙ ap is_list (sym (append_assoc xs (missing n xs) (n ∷ [])))
    ∙ list_push (xs ++ missing n xs) n ih (omega arith) (stands_append n xs (missing n xs) ∙ or_from (stands n xs) (stands n (missing n xs)) t (stands_missing n n xs (omega arith))))
    (cases_Bool (stands n xs))

pub permutation_length : (row : List ℕ) → is_permutation row ≡ true → length row ≡ 16
unfolding is_permutation
permutation_length row h = eqb-true (length row) 16 (and_parts (length row == 16) (is_list row) h).0

pub permutation_list : (row : List ℕ) → is_permutation row ≡ true → is_list row ≡ true
unfolding is_permutation
permutation_list row h = (and_parts (length row == 16) (is_list row) h).1

pub option_at : (row : List ℕ) (k : ℕ) → is_permutation row ≡ true → k < 16 → slice_index row k < 16
option_at row k h l = let n = permutation_length row h in list_option row (permutation_list row h) k 0 (omega arith)

-- a filled list is a permutation
pub filled_permutation : (xs : List ℕ) → is_list xs ≡ true → is_permutation (filled xs) ≡ true
unfolding is_permutation filled
filled_permutation xs h =
    and_from (length (xs ++ missing 16 xs) == 16) (is_list (xs ++ missing 16 xs)) (eq-eqb _ 16 (length-append xs (missing 16 xs) ∙ whole xs h)) (list_missing 16 xs (omega arith) h)

-- every option stands in a permutation
pub permutation_stands : (row : List ℕ) (o : ℕ) → is_permutation row ≡ true → o < 16 → stands o row ≡ true
permutation_stands row o h l =
    ⊎_elim (λ (t : stands o row ≡ true). t)
    (λ (t : stands o row ≡ false). let r = room row o (permutation_list row h) l t in let n = permutation_length row h in absurd (omega arith))
    (cases_Bool (stands o row))

-- the place of what stands at k is k
pub place_at : (xs : List ℕ) → is_list xs ≡ true → (k d : ℕ) → k < length xs → place_in (slice_index_or xs k d) xs ≡ k
unfolding place_in stands
place_at [] h k d l = absurd (omega arith)
place_at (x ∷ xs) h zero d l = cond-true (x == x) 0 (suc (place_in x xs)) (eq-eqb x x refl)
place_at (x ∷ xs) h (suc k) d l =
    let p = list_parts x xs h in
    let y = get_or xs k d in
    let apart : nat_eq y x ≡ false = ne_eqb y x (λ e. both_ways (stands x xs) p.1 (ap (λ (z : ℕ). stands z xs) (sym e) ∙ stands_at xs k d (omega arith))) in
    cond-false (y == x) 0 (suc (place_in y xs)) apart ∙ ap suc (place_at xs p.2 k d (omega arith))

-- what stands in a list stands at its place
pub at_place : (xs : List ℕ) (o d : ℕ) → stands o xs ≡ true → (place_in o xs < length xs) × (slice_index_or xs (place_in o xs) d ≡ o)
unfolding place_in stands
at_place [] o d h = absurd (both_ways false refl h)
at_place (x ∷ xs) o d h =
    ⊎_elim
    (λ (e : nat_eq o x ≡ true). rw (cond-true (o == x) 0 (suc (place_in o xs)) e) (omega arith, sym (eqb-true o x e)))
    (λ (e : nat_eq o x ≡ false).
    let rest : stands o xs ≡ true = ⊎_elim (λ (t : nat_eq o x ≡ true). absurd (both_ways (o == x) e t)) (λ (t : stands o xs ≡ true). t) (or_cases (o == x) (stands o xs) h) in
    let ih = at_place xs o d rest in
    rw (cond-false (o == x) 0 (suc (place_in o xs)) e) (omega arith, ih.1))
    (cases_Bool (o == x))

-- options of one place are one option
pub place_same : (row : List ℕ) (a b : ℕ) → is_permutation row ≡ true → a < 16 → b < 16 → place_in a row ≡ place_in b row → a ≡ b
place_same row a b h la lb e =
    sym (at_place row a 0 (permutation_stands row a h la)).1 ∙ ap (λ (k : ℕ). slice_index row k) e ∙ (at_place row b 0 (permutation_stands row b h lb)).1

pub place_below : (row : List ℕ) (o : ℕ) → is_permutation row ≡ true → o < 16 → place_in o row < 16
place_below row o h l = let p = at_place row o 0 (permutation_stands row o h l) in let n = permutation_length row h in omega arith

-- figures are the places of all options below n where each is that of its option
pub places_from : (n : ℕ) (places row : List ℕ) → ((o : ℕ) → o < n → slice_index places o ≡ place_in o row) → are_places n places row ≡ true
unfolding are_places
places_from zero places row h = refl
places_from (suc n) places row h =
    and_from (slice_index places n == place_in n row) (are_places n places row) (eq-eqb _ _ (h n (omega arith))) (places_from n places row (λ o l. h o (omega arith)))

pub places_at : (n : ℕ) (places row : List ℕ) → are_places n places row ≡ true → (o : ℕ) → o < n → slice_index places o ≡ place_in o row
unfolding are_places
places_at zero places row h o l = absurd (omega arith)
places_at (suc n) places row h o l =
    let p = and_parts (slice_index places n == place_in n row) (are_places n places row) h in
    ⊎_elim (λ (e : o ≡ n). rw e (eqb-true _ _ p.0)) (λ (e : o ≡ n → ⊥). places_at n places row p.1 o (omega arith)) (cases_eq o n)
