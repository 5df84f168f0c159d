-- Lists of entries in total order are in total order themselves, by the first place where they differ.
use Rattle.std.proofs.Common.{◌≡◌, ℕ, zero, suc, ◌<◌, Bool, true, false, List, [], ◌∷◌, length, get_or, take, drop, Decides, sym, refl, ap, ◌∙◌, ap₂, arith}
use Rattle.std.proofs.lemmas.Cmp.{tied_itself, same_from_slice_cmp}
use Rattle.std.specs.Cmp.{IsTotalOrder, Equal-is}
use Rattle.std.specs.Cmp.Lexicographic.{slice_cmp, lists_ties, pointwise_decides}
use Rattle.std.specs.Ordering.{is_lt, is_eq, eq_by_cmp, MatchOrdering, ordering_then}
use Rattle.std.specs.declared.cmp.Ordering.{Ordering}
use Rattle.std.specs.declared.cmp.Ordering.TheVariants.{Less, Equal, Greater}
use Rattle.order.specs.Firsts.{before_by}
use Rattle.order.specs.Orders.{list_before}
use Rattle.order.proofs.Laws.{less}

-- two lists are the same above a place, and there the first goes before the second
pub record FirstApart {X : Type 0} (before : X → X → Bool) (xs ys : List X) (d : X) : Type 0 where
  pub place : ℕ
  pub in_first : place < length xs
  pub in_second : place < length ys
  pub above : take place xs ≡ take place ys
  pub here : before (get_or xs place d) (get_or ys place d) ≡ true

module _ {X : Type 0} {R : X → X → Ordering} (o : IsTotalOrder R) where
  -- the comparison of lists is the one by the entries' "goes before"
  pub lists_before : (xs ys : List X) → before_by (slice_cmp R) xs ys ≡ list_before (before_by R) xs ys
  unfolding list_before
  lists_before xs ys = same_from_slice_cmp R is_lt (list_before (before_by R)) refl (λ _ _. refl) (λ _ _. refl) heads xs ys (slice_cmp R xs ys) refl
    where
      heads : (x y : X) (us vs : List X) (r : Ordering) → r ≡ R x y
          → MatchOrdering r (list_before (before_by R) (x ∷ us) (y ∷ vs) ≡ true) (list_before (before_by R) (x ∷ us) (y ∷ vs) ≡ list_before (before_by R) us vs)
          (list_before (before_by R) (x ∷ us) (y ∷ vs) ≡ false)
      heads x y us vs Less e = rw (← e) refl
      heads x y us vs Equal e = let back = o.antisymm y x in rw (back, ← e) refl
      heads x y us vs Greater e = let back = o.antisymm y x in rw (back, ← e) refl

  -- a list goes before another by the first place where they differ
  pub apart_before : (xs ys : List X) (d : X) → FirstApart (before_by R) xs ys d → before_by (slice_cmp R) xs ys ≡ true
  apart_before xs ys d p = at xs ys p.place p.in_first p.in_second p.above p.here
    where
      at : (xs ys : List X) (k : ℕ) → k < length xs → k < length ys → take k xs ≡ take k ys → before_by R (get_or xs k d) (get_or ys k d) ≡ true → before_by (slice_cmp R) xs ys ≡ true
      at [] ys k l m e h = absurd (omega arith)
      at (x ∷ xs) [] k l m e h = absurd (omega arith)
      at (x ∷ xs) (y ∷ ys) zero l m e h = let q = less o (R x y) h in rw q refl
      at (x ∷ xs) (y ∷ ys) (suc k) l m e h =
          let tied : R x y ≡ Equal = ap (R x) (sym (ap (λ (t : List X). get_or t 0 d) e)) ∙ tied_itself o x in
          rw tied (at xs ys k (omega arith) (omega arith) (ap (drop 1) e) h)

  module _ (same : (a b : X) → R a b ≡ Equal → a ≡ b) where
    -- lists that tie are the same
    pub lists_same : (xs ys : List X) → slice_cmp R xs ys ≡ Equal → xs ≡ ys
    lists_same xs ys e = (pointwise_decides entry xs ys).0 (lists_ties R (λ x y. refl) xs ys ∙ ap is_eq e)
      where
        entry : (x y : X) → Decides (eq_by_cmp R x y) (x ≡ y)
        entry x y = (λ t. same x y ((Equal-is (R x y)).0 t), λ p. ap (λ z. is_eq (R x z)) (sym p) ∙ ap is_eq (tied_itself o x))

    -- a list that goes before another as long does so by the first place where they differ
    pub before_apart : (xs ys : List X) (d : X) → length xs ≡ length ys → before_by (slice_cmp R) xs ys ≡ true → FirstApart (before_by R) xs ys d
    before_apart [] [] d n h = cc
    before_apart [] (y ∷ ys) d n h = absurd (omega arith)
    before_apart (x ∷ xs) [] d n h = absurd (omega arith)
    before_apart (x ∷ xs) (y ∷ ys) d n h = by (before_apart xs ys d (omega arith)) (R x y) refl h
      where
        by : (before_by (slice_cmp R) xs ys ≡ true → FirstApart (before_by R) xs ys d) → (r : Ordering) → r ≡ R x y → is_lt (ordering_then r (slice_cmp R xs ys)) ≡ true
            → FirstApart (before_by R) (x ∷ xs) (y ∷ ys) d
        by rest Less e t = record { place = 0; in_first = omega arith; in_second = omega arith; above = refl; here = ap is_lt (sym e) }
        by rest Equal e t =
            let w = rest t in
            record {
              place = suc w.place;
              in_first = (let l = w.in_first in omega arith);
              in_second = (let l = w.in_second in omega arith);
              above = ap₂ (λ (z : X) (zs : List X). z ∷ zs) (same x y (sym e)) w.above;
              here = w.here;
            }
        by rest Greater e t = cc
