-- The options of a set, gathered one after another with their places.
use Rattle.std.proofs.Common.{◌≡◌, ℕ, ◌+◌, ◌<◌, ◌≤◌, Bool, true, false, not, ◌&&◌, List, [], ◌∷◌, ◌++◌, length, get_or, Some, ◌⊎◌, sym, ap₂, ◌∙◌, ⊎_elim, arith}
use Rattle.std.specs.List.{All, Contains}
use Rattle.std.proofs.lemmas.Bool.{cases_eq, cases_Bool, both_ways, and_parts, and_from, ne_eqb, not_from_false}
use Rattle.std.specs.Bool.{◌==◌}
use Rattle.std.proofs.lemmas.Bool.Decides.{nat_tests}
use Rattle.std.proofs.lemmas.List.{length_push, get_or_default}
use Rattle.std.specs.Ordering.{is_lt, ordering_then, nat_cmp}
use Rattle.std.proofs.lemmas.List.Elements.{All-nil, All-push, Contains-append_left, Contains-push}
use Rattle.masks.specs.declared.Mask.{Mask}
use Rattle.masks.specs.Members.{has, size}
use Rattle.masks.proofs.Counts.{how_many_le}
use Rattle.order.specs.Firsts.{before_by, FirstAt}
use Rattle.places.specs.Entries.{PlacesOptions, FirstBy}
use Rattle.places.specs.EntryOrders.{entry_cmp}
use Rattle.places.specs.declared.entries.RankedOption.{RankedOption}

-- the options of a set but for those that are left, each with a place that it is given
pub record Gathered (given : ℕ → ℕ → Type 0) (options left : Mask) (entries : List RankedOption) : Type 0 where
  pub room : length entries + size left ≤ 16
  pub each : All (λ e. given e.option e.place × (has options e.option ≡ true)) entries
  pub inside : (o : ℕ) → has left o ≡ true → has options o ≡ true
  pub all : (o : ℕ) → has options o ≡ true → has left o ≡ false → (p : ℕ) × Contains entries (record { place = p; option = o })

-- all are left
pub none_yet : (given : ℕ → ℕ → Type 0) (options : Mask) → Gathered given options options []
none_yet given options = record {
  room = omega (arith, how_many_le (has options) 16);
  each = All-nil (λ e. given e.option e.place × (has options e.option ≡ true));
  inside = λ o h. h;
  all = λ o h g. absurd (both_ways (has options o) g h);
}

-- one more joins the others
pub joins : (given : ℕ → ℕ → Type 0) (options left less : Mask) (entries : List RankedOption) (n p : ℕ) → Gathered given options left entries → given n p → has left n ≡ true
    → ((k : ℕ) → has less k ≡ (has left k && not (k == n))) → size less < size left → Gathered given options less (entries ++ record { place = p; option = n } ∷ [])
joins given options left less entries n p so_far g h members fewer = record {
  room = (let l = so_far.room in let m = length_push entries new in omega arith);
  each = All-push (λ e. given e.option e.place × (has options e.option ≡ true)) entries new so_far.each (g, so_far.inside n h);
  inside = λ o m. so_far.inside o (and_parts (has left o) (not (o == n)) (sym (members o) ∙ m)).0;
  all = λ o t gone. ⊎_elim
      (λ (e : o ≡ n). (p, rw e (Contains-push entries new)))
      (λ (e : o ≡ n → ⊥). let w = so_far.all o t (before o e gone) in (w.0, Contains-append_left entries (new ∷ []) _ w.1))
      (cases_eq o n);
}
  where
    new : RankedOption
    new = record { place = p; option = n }

    before : (o : ℕ) → (o ≡ n → ⊥) → has less o ≡ false → has left o ≡ false
    before o e gone = ⊎_elim
        (λ (m : has left o ≡ true). absurd (both_ways (has less o) gone (members o ∙ and_from (has left o) (not (o == n)) m (not_from_false (o == n) (ne_eqb o n e)))))
        (λ (m : has left o ≡ false). m)
        (cases_Bool (has left o))

-- what no other goes before has a smaller place, or the same and no larger number
not_behind : (a b : RankedOption) → before_by entry_cmp b a ≡ false → (a.place < b.place) ⊎ ((a.place ≡ b.place) × (a.option ≤ b.option))
not_behind a b h = go a.place b.place a.option b.option h
  where
    go : (p q o u : ℕ) → is_lt (ordering_then (nat_cmp q p) (nat_cmp u o)) ≡ false → (p < q) ⊎ ((p ≡ q) × (o ≤ u))
    go p q o u h = grind (arith, nat_tests)

-- the first of a group has the least place, and of those with the same the lowest number
pub first_placed : (given : ℕ → ℕ → Type 0) (test : ℕ → Bool) (entries : List RankedOption) (i : ℕ) (d : RankedOption) → PlacesOptions given test entries → FirstAt (before_by entry_cmp) entries i
    → FirstBy given test (Some (get_or entries i d).option)
first_placed given test entries i d r h = (
  here.1,
  best.place,
  here.0,
  λ o t.
      let w = r.all o t in
      let other : RankedOption = record { place = w.0; option = o } in
      let behind : before_by entry_cmp other best ≡ false = sym (ap₂ (before_by entry_cmp) w.1.2 (get_or_default entries i other d h.within)) ∙ h.least w.1.0 other w.1.1 in
      (w.0, (rw w.1.2 at (r.each w.1.0 other w.1.1)).0, not_behind best other behind),
)
  where
    best : RankedOption
    best = get_or entries i d

    here : given best.option best.place × (test best.option ≡ true)
    here = r.each i d h.within
