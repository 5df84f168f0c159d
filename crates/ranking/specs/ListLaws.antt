-- The laws of ranking lists: of what stands in one, of what it lacks, and of places. Assumes nothing.
use Rattle.std.specs.Prelude.{◌≡◌, ℕ, zero, suc, ◌+◌, ◌<◌, ◌≤◌, Bool, true, false, cond, not, ◌&&◌, ◌||◌, List, [], ◌∷◌, ◌++◌, length, ◌==◌, nat_eq, slice_index_or, refl}
use Rattle.std.proofs.Common.{sym, ap, ◌∙◌, ⊎_elim, add-one, arith, length-append}
use Rattle.std.proofs.lemmas.List.{append-nil}
use Rattle.std.proofs.lemmas.List.Recursion.{or_push, or_at}
use Rattle.std.proofs.Math.Bool.{or_assoc}
use Rattle.std.proofs.lemmas.Bool.{cases_eq, eq-eqb, ne_eqb, and_parts, and_from, or_parts, or_from, ltb-true, lt-ltb, not-true, false_from_ne_true}
use Rattle.std.proofs.lemmas.Bool.Decides.{nat_tests}
use Rattle.masks.specs.Members.{is_option}
use Rattle.ranking.specs.Lists.{stands, is_list, missing}

-- what stands in two lists, one behind the other
pub stands_append : (o : ℕ) (xs ys : List ℕ) → stands o (xs ++ ys) ≡ (stands o xs || stands o ys)
unfolding stands
stands_append o [] ys = refl
stands_append o (x ∷ xs) ys = ap (λ (b : Bool). (o == x) || b) (stands_append o xs ys) ∙ sym (or_assoc (o == x) (stands o xs) (stands o ys))

-- one more at the end
pub stands_push : (o z : ℕ) (xs : List ℕ) → stands o (xs ++ (z ∷ [])) ≡ (stands o xs || o == z)
unfolding stands
stands_push o z xs = or_push (stands o) (λ x. o == x) refl (λ _ _. refl) xs z

pub stands_none : (o : ℕ) → stands o [] ≡ false
unfolding stands
stands_none o = refl

-- an entry of a list stands in it
pub stands_at : (xs : List ℕ) (k d : ℕ) → k < length xs → stands (slice_index_or xs k d) xs ≡ true
unfolding stands
stands_at xs k d l =
    let o = slice_index_or xs k d in
    or_at (stands o) (λ x. o == x) refl (λ _ _. refl) xs k d l (eq-eqb o o refl)

-- the parts of a list
pub list_parts : (x : ℕ) (xs : List ℕ) → is_list (x ∷ xs) ≡ true → (x < 16) × (stands x xs ≡ false) × (is_list xs ≡ true)
unfolding is_list
list_parts x xs h =
    let p = and_parts (is_option x) (not (stands x xs) && is_list xs) h in
    let q = and_parts (not (stands x xs)) (is_list xs) p.1 in
    (ltb-true x 16 p.0, not-true (stands x xs) q.0, q.1)

list_from : (x : ℕ) (xs : List ℕ) → x < 16 → stands x xs ≡ false → is_list xs ≡ true → is_list (x ∷ xs) ≡ true
unfolding is_list
list_from x xs l s h = and_from (is_option x) (not (stands x xs) && is_list xs) (lt-ltb x 16 l) (and_from (not (stands x xs)) (is_list xs) (ap not s) h)

pub list_nil : is_list [] ≡ true
unfolding is_list
list_nil = refl

-- a new option at the end of a list
pub list_push : (xs : List ℕ) (z : ℕ) → is_list xs ≡ true → z < 16 → stands z xs ≡ false → is_list (xs ++ (z ∷ [])) ≡ true
unfolding stands
list_push [] z f l h = list_from z [] l (stands_none z) list_nil
list_push (x ∷ xs) z f l h =
    let p = list_parts x xs f in
    let r = or_parts (z == x) (stands z xs) h in
    let apart : nat_eq x z ≡ false = (let q = r.0 in grind (arith, nat_tests)) in
    list_from x (xs ++ (z ∷ [])) p.0 (stands_push x z xs ∙ or_from (stands x xs) (x == z) p.1 apart) (list_push xs z p.2 l r.1)

-- a front of a list is a list
pub list_front : (xs ys : List ℕ) → is_list (xs ++ ys) ≡ true → is_list xs ≡ true
list_front [] ys h = list_nil
list_front (x ∷ xs) ys h =
    let p = list_parts x (xs ++ ys) h in
    list_from x xs p.0 (or_parts (stands x xs) (stands x ys) (sym (stands_append x xs ys) ∙ p.1)).0 (list_front xs ys p.2)

-- an option that stands behind is new at its place
pub list_new : (xs ys : List ℕ) (z : ℕ) → is_list (xs ++ (z ∷ ys)) ≡ true → (z < 16) × (stands z xs ≡ false)
unfolding stands
list_new [] ys z h = ((list_parts z ys h).0, refl)
list_new (x ∷ xs) ys z h =
    let p = list_parts x (xs ++ (z ∷ ys)) h in
    let ih = list_new xs ys z p.2 in
    let far : stands x (z ∷ ys) ≡ false = (or_parts (stands x xs) (stands x (z ∷ ys)) (sym (stands_append x xs (z ∷ ys)) ∙ p.1)).1 in
    let q = (or_parts (x == z) (stands x ys) far).0 in
    (ih.0, or_from (z == x) (stands z xs) (grind (arith, nat_tests)) ih.1)

-- each entry of a list is an option
pub list_option : (xs : List ℕ) → is_list xs ≡ true → (k d : ℕ) → k < length xs → slice_index_or xs k d < 16
list_option [] h k d l = absurd (omega arith)
list_option (x ∷ xs) h zero d l = (list_parts x xs h).0
list_option (x ∷ xs) h (suc k) d l = list_option xs (list_parts x xs h).2 k d (omega arith)

-- an option more in a list is one less that it lacks
missing_out : (n x : ℕ) (xs : List ℕ) → n ≤ x → missing n (x ∷ xs) ≡ missing n xs
unfolding missing stands
missing_out zero x xs h = refl
missing_out (suc n) x xs h =
    let e : nat_eq n x ≡ false = ne_eqb n x (λ q. omega (arith, q)) in
    ap (λ (t : List ℕ). t ++ cond (n == x || stands n xs) [] (n ∷ [])) (missing_out n x xs (omega arith))
    ∙ ap (λ (b : Bool). missing n xs ++ cond (b || stands n xs) [] (n ∷ [])) e

missing_in : (n x : ℕ) (xs : List ℕ) → x < n → stands x xs ≡ false → length (missing n (x ∷ xs)) + 1 ≡ length (missing n xs)
unfolding missing stands
missing_in zero x xs h f = omega arith
missing_in (suc n) x xs h f =
    ⊎_elim
    (λ (e : n ≡ x).
    let here : nat_eq n x ≡ true = eq-eqb n x e in
    let gone : stands n xs ≡ false = rw e f in
    let same = missing_out n x xs (omega arith) in
    rw (here, gone) (simp (length-append, same) (omega arith)))
    (λ (e : n ≡ x → ⊥).
    let here : nat_eq n x ≡ false = ne_eqb n x e in
    let less = missing_in n x xs (omega arith) f in
    rw here (simp length-append (omega arith)))
    (cases_eq n x)

-- what a list has and what it lacks make sixteen
pub whole : (xs : List ℕ) → is_list xs ≡ true → length xs + length (missing 16 xs) ≡ 16
unfolding missing stands
whole [] f = refl
whole (x ∷ xs) f =
    let p = list_parts x xs f in
    let i = missing_in 16 x xs p.0 p.1 in
    let ih = whole xs p.2 in
    omega arith

-- a list has at most sixteen options
pub list_short : (xs : List ℕ) → is_list xs ≡ true → length xs ≤ 16
list_short xs h = let w = whole xs h in omega arith

pub too_long : (xs : List ℕ) → 16 < length xs → is_list xs ≡ false
too_long xs l = false_from_ne_true (is_list xs) (λ h. let s = list_short xs h in omega arith)

-- one option on
pub missing_more : (o : ℕ) (xs : List ℕ) → missing (o + 1) xs ≡ missing o xs ++ cond (stands o xs) [] (o ∷ [])
unfolding missing
missing_more o xs = ap (λ (n : ℕ). missing n xs) (add-one o)

pub missing_old : (o : ℕ) (xs : List ℕ) → stands o xs ≡ true → missing (o + 1) xs ≡ missing o xs
missing_old o xs h = missing_more o xs ∙ ap (λ (b : Bool). missing o xs ++ cond b [] (o ∷ [])) h ∙ append-nil (missing o xs)

pub missing_new : (o : ℕ) (xs : List ℕ) → stands o xs ≡ false → missing (o + 1) xs ≡ missing o xs ++ (o ∷ [])
missing_new o xs h = missing_more o xs ∙ ap (λ (b : Bool). missing o xs ++ cond b [] (o ∷ [])) h

pub missing_none : (xs : List ℕ) → missing 0 xs ≡ []
unfolding missing
missing_none xs = refl

missing_grows : (m n : ℕ) (xs : List ℕ) → m ≤ n → length (missing m xs) ≤ length (missing n xs)
unfolding missing
missing_grows m zero xs h = let e : m ≡ 0 = omega arith in rw e (omega arith)
missing_grows m (suc n) xs h =
    ⊎_elim (λ (e : m ≡ suc n). rw e (omega arith)) (λ (e : m ≡ suc n → ⊥). let less = missing_grows m n xs (omega arith) in simp length-append (omega arith)) (cases_eq m (suc n))

-- there is room for an option that a list lacks
pub room : (xs : List ℕ) (o : ℕ) → is_list xs ≡ true → o < 16 → stands o xs ≡ false → length xs + length (missing o xs) < 16
room xs o f l h =
    let up = missing_grows (o + 1) 16 xs (omega arith) in
    let e : length (missing (o + 1) xs) ≡ length (missing o xs) + 1 = rw (missing_new o xs h) (length-append (missing o xs) (o ∷ [])) in
    omega (arith, whole xs f)
