-- Lists of entries with a strict total order are in strict total order themselves, whatever test is the order.
use Rattle.std.proofs.Common.{◌≡◌, ℕ, zero, suc, ◌<◌, Bool, true, false, not, ◌⊎◌, List, [], ◌∷◌, length, get_or, take, drop, sym, refl, ap, ◌∙◌, ap₂, inl, inr, ⊎_elim, arith}
use Rattle.std.proofs.lemmas.Bool.{cases_Bool, both_ways}
use Rattle.order.specs.Orders.{InOrder, list_before}
use Rattle.order.proofs.TestLaws.{asym, not_apart, alike}

module _ {X : Type 0} {before : X → X → Bool} (o : InOrder before) where
  -- the heads decide, or else the tails
  heads : (x y : X) (xs ys : List X) → before x y ≡ true → list_before before (x ∷ xs) (y ∷ ys) ≡ true
  unfolding list_before
  heads x y xs ys h = simp h

  heads_not : (x y : X) (xs ys : List X) → before x y ≡ false → before y x ≡ true → list_before before (x ∷ xs) (y ∷ ys) ≡ false
  unfolding list_before
  heads_not x y xs ys h g = simp (h, g)

  tails : (x y : X) (xs ys : List X) → before x y ≡ false → before y x ≡ false → list_before before (x ∷ xs) (y ∷ ys) ≡ list_before before xs ys
  unfolding list_before
  tails x y xs ys h g = simp (h, g)

  -- so a list goes before another by its head, or by its tail where neither head goes before the other
  split : (x y : X) (xs ys : List X) → list_before before (x ∷ xs) (y ∷ ys) ≡ true
      → (before x y ≡ true) ⊎ ((before x y ≡ false) × (before y x ≡ false) × (list_before before xs ys ≡ true))
  split x y xs ys h =
      ⊎_elim inl
      (λ (p : before x y ≡ false).
      ⊎_elim (λ (q : before y x ≡ true). absurd (both_ways _ (heads_not x y xs ys p q) h)) (λ (q : before y x ≡ false). inr (p, q, sym (tails x y xs ys p q) ∙ h))
      (cases_Bool (before y x)))
      (cases_Bool (before x y))

  -- no list goes before itself
  pub list_never : (xs : List X) → list_before before xs xs ≡ false
  unfolding list_before
  list_never [] = refl
  list_never (x ∷ xs) = tails x x xs xs (o.never x) (o.never x) ∙ list_never xs

  -- of two different lists exactly one goes before the other
  pub list_one : (xs ys : List X) → (xs ≡ ys → ⊥) → list_before before xs ys ≡ not (list_before before ys xs)
  unfolding list_before
  list_one [] [] ne = absurd (ne refl)
  list_one [] (y ∷ ys) ne = refl
  list_one (x ∷ xs) [] ne = refl
  list_one (x ∷ xs) (y ∷ ys) ne =
      ⊎_elim
      (λ (p : before x y ≡ true). heads x y xs ys p ∙ sym (ap not (heads_not y x ys xs (asym o x y p) p)))
      (λ (p : before x y ≡ false).
      ⊎_elim
      (λ (q : before y x ≡ true). heads_not x y xs ys p q ∙ sym (ap not (heads y x ys xs q)))
      (λ (q : before y x ≡ false).
      tails x y xs ys p q ∙ list_one xs ys (λ e. not_apart o x y p q (λ d. ne (ap₂ (λ (z : X) (zs : List X). z ∷ zs) d e))) ∙ sym (ap not (tails y x ys xs q p)))
      (cases_Bool (before y x)))
      (cases_Bool (before x y))

  -- what goes before one that goes before a third goes before the third
  pub list_through : (xs ys zs : List X) → list_before before xs ys ≡ true → list_before before ys zs ≡ true → list_before before xs zs ≡ true
  unfolding list_before
  list_through [] [] zs p q = q
  list_through [] (y ∷ ys) [] p q = cc
  list_through [] (y ∷ ys) (z ∷ zs) p q = refl
  list_through (x ∷ xs) [] zs p q = cc
  list_through (x ∷ xs) (y ∷ ys) [] p q = cc
  list_through (x ∷ xs) (y ∷ ys) (z ∷ zs) p q =
      ⊎_elim
      (λ (u : before x y ≡ true). heads x z xs zs (⊎_elim (λ (v : before y z ≡ true). o.through x y z u v) (λ v. sym (alike o y z v.0 v.1 (before x)) ∙ u) (split y z ys zs q)))
      (λ u.
      alike o x y u.0 u.1 (λ w. list_before before (w ∷ xs) (z ∷ zs))
      ∙ ⊎_elim (λ (v : before y z ≡ true). heads y z xs zs v) (λ v. tails y z xs zs v.0 v.1 ∙ list_through xs ys zs u.2 v.2) (split y z ys zs q))
      (split x y xs ys p)

  -- the laws in one
  pub lists_in_order : InOrder (list_before before)
  lists_in_order = record { never = list_never; one = list_one; through = list_through }

  -- lists that are the same above a place are in order by what stands there
  pub list_at : (xs ys : List X) (k : ℕ) (d : X) → k < length xs → k < length ys → take k xs ≡ take k ys → before (get_or xs k d) (get_or ys k d) ≡ true → list_before before xs ys ≡ true
  list_at [] ys k d l m e h = absurd (omega arith)
  list_at (x ∷ xs) [] k d l m e h = absurd (omega arith)
  list_at (x ∷ xs) (y ∷ ys) zero d l m e h = heads x y xs ys h
  list_at (x ∷ xs) (y ∷ ys) (suc k) d l m e h =
      let same : x ≡ y = ap (λ (t : List X). get_or t 0 d) e in
      tails x y xs ys (ap (before x) (sym same) ∙ o.never x) (ap (λ (z : X). before z x) (sym same) ∙ o.never x) ∙ list_at xs ys k d (omega arith) (omega arith) (ap (drop 1) e) h

  -- and a list that goes before another of its length does so at some place, above which neither goes before the other
  pub list_where : (xs ys : List X) (d : X) → length xs ≡ length ys → list_before before xs ys ≡ true
      → (k : ℕ) × (k < length xs) × (before (get_or xs k d) (get_or ys k d) ≡ true) × ((j : ℕ) → j < k → (before (get_or xs j d) (get_or ys j d) ≡ false) × (before (get_or ys j d) (get_or xs j d) ≡ false))
  unfolding list_before
  list_where [] [] d e h = cc
  list_where [] (y ∷ ys) d e h = absurd (omega arith)
  list_where (x ∷ xs) [] d e h = absurd (omega arith)
  list_where (x ∷ xs) (y ∷ ys) d e h =
      ⊎_elim
      (λ (u : before x y ≡ true). (0, omega arith, u, λ j l. absurd (omega arith)))
      (λ u.
      let w = list_where xs ys d (omega arith) u.2 in
      (suc w.0, (let l = w.1 in omega arith), w.2, further u.0 u.1 w.0 w.3))
      (split x y xs ys h)
    where
      further : before x y ≡ false → before y x ≡ false → (k : ℕ) → ((j : ℕ) → j < k → (before (get_or xs j d) (get_or ys j d) ≡ false) × (before (get_or ys j d) (get_or xs j d) ≡ false))
          → (j : ℕ) → j < suc k → (before (get_or (x ∷ xs) j d) (get_or (y ∷ ys) j d) ≡ false) × (before (get_or (y ∷ ys) j d) (get_or (x ∷ xs) j d) ≡ false)
      further u v k g zero l = (u, v)
      further u v k g (suc j) l = g j (omega arith)
