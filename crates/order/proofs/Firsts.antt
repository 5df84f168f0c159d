-- The first of what a loop has seen of a group, where "goes before" is an order.
use Rattle.std.proofs.Common.{eqb, Decides, ◌≡◌, ℕ, ◌+◌, ◌<◌, ◌≤◌, Bool, true, false, List, [], ◌∷◌, length, get_or, Some, None, Option, ⊎_elim, refl, add-one, arith}
use Rattle.std.specs.Option.{option_eq}
use Rattle.std.proofs.lemmas.List.{get_or_read}
use Rattle.std.proofs.lemmas.Bool.{cases_lt, cases_order, both_ways, cases_eq, eq-eqb, eqb-true}
use Rattle.order.specs.Firsts.{FirstAt, FirstOf}

-- index f has the first of the entries below n
pub record FirstBelow {X : Type 0} (before : X → X → Bool) (group : List X) (n f : ℕ) : Type 0 where
  pub within : f < n
  pub least : (k : ℕ) (d : X) → k < n → before (get_or group k d) (get_or group f d) ≡ false
  pub earliest : (k : ℕ) (d : X) → k < f → before (get_or group f d) (get_or group k d) ≡ true

-- an entry of a group that is not empty
any_of : {X : Type 0} (group : List X) (i : ℕ) → i < length group → X
any_of [] i l = absurd (omega arith)
any_of (x ∷ xs) i l = x

module _ {X : Type 0} (before : X → X → Bool) (never : (a : X) → before a a ≡ false) (asym : (a b : X) → before a b ≡ true → before b a ≡ false)
    (ahead : (a b c : X) → before a b ≡ true → before c b ≡ false → before a c ≡ true) where
  module _ (group : List X) (i f : ℕ) (x y : X) (h : i < length group) (ex : x ≡ get_or group i x) (ey : y ≡ get_or group f y) (so_far : FirstBelow before group i f) where
    at_i : (d : X) → x ≡ get_or group i d
    at_i d = get_or_read group i x h ex d

    at_f : (d : X) → y ≡ get_or group f d
    at_f d = get_or_read group f y (let l = so_far.within in omega arith) ey d

    -- a better entry takes the place
    pub takes : before x y ≡ true → FirstBelow before group (i + 1) i
    takes t = record { within = omega arith; least = least'; earliest = λ k d m. rw (← at_i d) (ahead x y (get_or group k d) t (rw (at_f d) (so_far.least k d m))) }
      where
        least' : (k : ℕ) (d : X) → k < i + 1 → before (get_or group k d) (get_or group i d) ≡ false
        least' k d m =
            ⊎_elim
            (λ (l : k < i). asym (get_or group i d) (get_or group k d) (rw (← at_i d) (ahead x y (get_or group k d) t (rw (at_f d) (so_far.least k d l)))))
            (λ (l : i ≤ k). let e : k ≡ i = omega arith in rw e (never (get_or group i d)))
            (cases_lt k i)

    -- any other leaves it
    pub keeps : before x y ≡ false → FirstBelow before group (i + 1) f
    keeps t = record { within = (let l = so_far.within in omega arith); least = least'; earliest = so_far.earliest }
      where
        least' : (k : ℕ) (d : X) → k < i + 1 → before (get_or group k d) (get_or group f d) ≡ false
        least' k d m =
            ⊎_elim (λ (l : k < i). so_far.least k d l) (λ (l : i ≤ k). let e : k ≡ i = omega arith in rw (e, ← at_i d, ← at_f d) t) (cases_lt k i)

  -- one entry is the first of itself
  pub first_alone : (group : List X) → FirstBelow before group 1 0
  first_alone group = record { within = omega arith; least = λ k d l. (let e : k ≡ 0 = omega arith in rw e (never (get_or group 0 d))); earliest = λ k d l. absurd (omega arith) }

  -- of two indices that both have the first entry neither stands earlier
  first_once : (group : List X) (i j : ℕ) → FirstAt before group i → FirstAt before group j → j < i → ⊥
  first_once group i j a b l = let d = any_of group i a.within in both_ways _ (b.least i d a.within) (a.earliest j d l)

  -- the first of all that the loop has seen is the first of the group
  pub first_whole : (group : List X) (n f : ℕ) → length group ≤ n → n ≤ length group → FirstBelow before group n f
      → FirstAt before group f × ((j : ℕ) → FirstAt before group j → j ≡ f)
  first_whole group n f up down h = (found, λ j b. ⊎_elim (λ (e : j ≡ f). e) (⊎_elim (λ (l : j < f). absurd (first_once group f j found b l)) (λ (l : f < j). absurd (first_once group j f b found l))) (cases_order j f))
    where
      found : FirstAt before group f
      found = record { within = (let l = h.within in omega arith); least = λ k d l. h.least k d (omega arith); earliest = h.earliest }

-- an entry behind the head of a group
pub behind_head : {X : Type 0} (group rest : List X) (head x d : X) (i : ℕ) → group ≡ head ∷ rest → x ≡ get_or rest i d → x ≡ get_or group (i + 1) d
behind_head group rest head x d i e h = rw (e, add-one) h

-- the head of a group
pub at_head : {X : Type 0} (group rest : List X) (head d : X) → group ≡ head ∷ rest → head ≡ get_or group 0 d
at_head group rest head d e = rw e refl

-- of two entries the second is the first of the group exactly when it goes before the other
pub second_first : {X : Type 0} (before : X → X → Bool) (x y : X) (i : ℕ) → FirstAt before (y ∷ (x ∷ [])) i → Decides (eqb i 1) (before x y ≡ true)
second_first before x y i h = (to, from)
  where
    to : eqb i 1 ≡ true → before x y ≡ true
    to e = let q : i ≡ 1 = eqb-true i 1 e in let a = h.earliest 0 y (omega arith) in rw q at a

    from : before x y ≡ true → eqb i 1 ≡ true
    from b =
        let w = h.within in
        ⊎_elim (λ (q : i ≡ 0). let a = h.least 1 y (omega arith) in absurd (both_ways (before x y) (rw q at a) b)) (λ (q : i ≡ 0 → ⊥). eq-eqb i 1 (omega arith)) (cases_eq i 0)

-- and so for what `first_of` answers
pub second_answered : {X : Type 0} (before : X → X → Bool) (x y : X) (r : Option ℕ) (t : Bool) → FirstOf before (y ∷ (x ∷ [])) r → t ≡ option_eq eqb r (Some 1) → Decides t (before x y ≡ true)
second_answered before x y None t h e = absurd (omega arith)
second_answered before x y (Some i) t h e = rw e (second_first before x y i h.0)
