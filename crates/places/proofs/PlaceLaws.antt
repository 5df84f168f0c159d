-- Comparing by places is comparing by the ranking.
use Rattle.std.proofs.Common.{◌≡◌, ℕ, ◌<◌, ◌≤◌, Bool, true, false, not, ◌&&◌, leb, List, map, length, get_or, take, Some, None, Option, Decides, refl, sym, ap, ◌∙◌, ap₂, ⊎_elim, arith}
use Rattle.std.specs.List.{range_with_len}
use Rattle.std.proofs.lemmas.List.{get_or-take, length-take-le, take-take, ext_get_or, get_or-map, length-map}
use Rattle.std.proofs.lemmas.List.FromFn.{fill_by_all}
use Rattle.std.proofs.lemmas.Bool.Decides.{nat_tests}
use Rattle.std.proofs.lemmas.Bool.{cases_eq, cases_Bool, cases_lt, both_ways, false_from_ne_true, and_parts, and_from, leb-true, ltb-true, le-leb}
use Rattle.std.specs.Cmp.Lexicographic.{slice_cmp}
use Rattle.masks.specs.declared.Mask.{Mask}
use Rattle.masks.specs.Members.{has}
use Rattle.masks.proofs.Members.{has_option}
use Rattle.masks.proofs.Counts.{how_many_less}
use Rattle.rows.specs.Rows.{is_row}
use Rattle.rows.proofs.Rows.{row_length, row_option, row_take}
use Rattle.order.specs.Firsts.{before_by}
use Rattle.order.proofs.Laws.{never, asym}
use Rattle.order.proofs.Lists.{apart_before, before_apart}
use Rattle.places.specs.declared.entries.RankedOption.{RankedOption}
use Rattle.places.specs.Entries.{open_entry, ranked, RanksRow, is_pair, FirstBy, FirstByPlace, BestOption}
use Rattle.places.specs.EntryOrders.{entry_cmp, entry_total, entry_same}
use Rattle.ranking.specs.Orders.{is_under, is_asked, IsRanking, ArePlacesOf, place_of, RowBefore}
use Rattle.ranking.specs.Ranks.{asked_parts, asked_from, under_from}

-- the smaller place goes before
less_place : (a b : RankedOption) → a.place < b.place → before_by entry_cmp a b ≡ true
less_place a b l = grind (arith, nat_tests)

module _ (before : ℕ → List ℕ → ℕ → ℕ → Bool) (R : IsRanking before) where
  -- what goes before has fewer before it
  pub place_less : (line : ℕ) (above : List ℕ) (a b : ℕ) → before line above a b ≡ true → place_of before line above a < place_of before line above b
  place_less line above a b h =
      let p = asked_parts line above a b (R.asked line above a b h) in
      how_many_less (λ x. before line above x a) (λ x. before line above x b) 16 a (λ k l t. R.through line above k a b t h) p.1 (R.never line above a) h

  -- options with their places go by the ranking
  pub entry_ranked : (line : ℕ) (above : List ℕ) (a b : ℕ) → is_asked line above a b ≡ true → before_by entry_cmp (ranked before line above a) (ranked before line above b) ≡ before line above a b
  entry_ranked line above a b h =
      ⊎_elim
      (λ (t : before line above a b ≡ true). less_place (entry a) (entry b) (place_less line above a b t) ∙ sym t)
      (λ (t : before line above a b ≡ false).
      ⊎_elim
      (λ (e : a ≡ b). ap (λ (x : ℕ). before_by entry_cmp (entry a) (entry x)) (sym e) ∙ never entry_total (entry a) ∙ sym t)
      (λ (e : a ≡ b → ⊥).
      let p = asked_parts line above a b h in
      let back = R.one line above b a (asked_from line above b a p.0 p.2 p.1) (λ q. e (sym q)) ∙ ap not t in
      asym entry_total (entry b) (entry a) (less_place (entry b) (entry a) (place_less line above b a back)) ∙ sym t)
      (cases_eq a b))
      (cases_Bool (before line above a b))
    where
      entry : ℕ → RankedOption
      entry o = ranked before line above o

-- where places rise as a ranking orders the options, the option of a set with the least place goes before every other one in it
pub first_is_best : (before : ℕ → List ℕ → ℕ → ℕ → Bool) (line : ℕ) (above : List ℕ) (options : Mask) (given : ℕ → ℕ → Type 0) (r : Option ℕ)
    → ((a b p q : ℕ) → a < 16 → b < 16 → given a p → given b q → before line above a b ≡ true → p < q)
    → is_under line above ≡ true → FirstBy given (has options) r → BestOption before line above (has options) r
first_is_best before line above options given None rise under h = λ _. h
first_is_best before line above options given (Some best) rise under h = (
  under,
  h.0,
  λ o t. false_from_ne_true (before line above o best) (λ b.
      let w = h.3 o t in
      let l = rise o best w.0 h.1 (has_option options o t) (has_option options best h.0) w.1 h.2 b in
      absurd (⊎_elim (λ (m : h.1 < w.0). omega arith) (λ (m : (h.1 ≡ w.0) × (best ≤ o)). omega arith) w.2)),
)

-- with the places of a line as figures the first is the best
pub first_best : (before : ℕ → List ℕ → ℕ → ℕ → Bool) (line : ℕ) (above places : List ℕ) (options : Mask) (r : Option ℕ) → is_under line above ≡ true → ArePlacesOf before line above places
    → FirstByPlace places (has options) r → BestOption before line above (has options) r
first_best before line above places options r under p h =
    first_is_best before line above options (λ o n. n ≡ get_or places o 0) r
    (λ a b m n l k e f t. rw (e, f) (ltb-true _ _ (sym (p.rise a b (asked_from line above a b under l k)) ∙ t))) under (figures r h)
  where
    figures : (r : Option ℕ) → FirstByPlace places (has options) r → FirstBy (λ o n. n ≡ get_or places o 0) (has options) r
    figures None h = h
    figures (Some first) h = (h.0, get_or places first 0, refl, λ o t. (get_or places o 0, refl, h.1 o t))

-- the parts of a pair of rows
pub pair_parts : (α β : List ℕ) → is_pair α β ≡ true → (length α ≤ 16) × (is_row (length α) α ≡ true) × (is_row (length α) β ≡ true)
pair_parts α β h =
    let p = and_parts (leb (length α) 16) (is_row (length α) α && is_row (length α) β) h in
    let q = and_parts (is_row (length α) α) (is_row (length α) β) p.1 in
    (leb-true (length α) 16 p.0, q.0, q.1)

-- two rows of one length are a pair
pub pair_from : (α β : List ℕ) → is_pair α α ≡ true → is_pair β β ≡ true → length α ≡ length β → is_pair α β ≡ true
pair_from α β p q e =
    let a = pair_parts α α p in
    let b = pair_parts β β q in
    and_from (leb (length α) 16) (is_row (length α) α && is_row (length α) β) (le-leb (length α) 16 a.0)
    (and_from (is_row (length α) α) (is_row (length α) β) a.1 (ap (λ (k : ℕ). is_row k β) e ∙ b.1))

-- what a row has above a line is what its entries have there
module _ (before : ℕ → List ℕ → ℕ → ℕ → Bool) (α : List ℕ) (u : List RankedOption) (r : RanksRow before α u) (k : ℕ) (l : k ≤ length α) (few : length α ≤ 16) where
  front : take k u ≡ map (λ j. ranked before j (take j (take k α)) (get_or (take k α) j 0)) (range_with_len 0 k)
  front = fill_by_all _ (take k u) k open_entry (length-take-le k u (let w = r.whole in omega arith)) (λ j m.
      get_or-take k u j open_entry m ∙ r.here j open_entry (omega arith) ∙ sym (ap₂ (ranked before j) (take-take j k α (omega arith)) (get_or-take k α j 0 m)))

  options : take k α ≡ map (λ (e : RankedOption). e.option) (take k u)
  options = ext_get_or 0 (take k α) (map option (take k u)) (cut_α ∙ sym (length-map (take k u) option ∙ cut_u)) (λ j m.
      let q : j < k = rw cut_α at m in
      get_or-take k α j 0 q ∙ sym (get_or-map option (take k u) j open_entry 0 (rw cut_u q) ∙ ap option (get_or-take k u j open_entry q ∙ r.here j open_entry (omega arith))))
    where
      option : RankedOption → ℕ
      option e = e.option

      cut_α : length (take k α) ≡ k
      cut_α = length-take-le k α l

      cut_u : length (take k u) ≡ k
      cut_u = length-take-le k u (let w = r.whole in omega arith)

module _ (before : ℕ → List ℕ → ℕ → ℕ → Bool) (R : IsRanking before) (α β : List ℕ) (u v : List RankedOption) (pair : is_pair α β ≡ true)
    (ra : RanksRow before α u) (rb : RanksRow before β v) where
  parts : (length α ≤ 16) × (is_row (length α) α ≡ true) × (is_row (length α) β ≡ true)
  parts = pair_parts α β pair

  lenβ : length β ≡ length α
  lenβ = row_length (length α) β parts.2

  -- on a line with the same entries above, the entries go by the ranking
  at_line : (k : ℕ) → k < length α → take k α ≡ take k β → (d : RankedOption) → before_by entry_cmp (get_or u k d) (get_or v k d) ≡ before k (take k α) (get_or α k 0) (get_or β k 0)
  at_line k l e d =
      let a = ra.here k d l in
      let b = rb.here k d (let q = lenβ in omega arith) in
      let small : k < 16 = (let q = parts.0 in omega arith) in
      let under = under_from k (take k α) small (row_take (length α) k α parts.1 (omega arith)) in
      let asked = asked_from k (take k α) (get_or α k 0) (get_or β k 0) under (row_option (length α) α parts.1 k 0 l) (row_option (length α) β parts.2 k 0 l) in
      ap₂ (before_by entry_cmp) a (b ∙ ap (λ (t : List ℕ). ranked before k t (get_or β k 0)) (sym e)) ∙ entry_ranked before R k (take k α) (get_or α k 0) (get_or β k 0) asked

  -- comparing by places is comparing by the ranking
  pub by_places : Decides (before_by (slice_cmp entry_cmp) u v) (RowBefore before α β)
  by_places = (to_ranking, from_ranking)
    where
      to_ranking : before_by (slice_cmp entry_cmp) u v ≡ true → RowBefore before α β
      to_ranking h =
          let w = before_apart entry_total entry_same u v open_entry (ra.whole ∙ sym rb.whole) h in
          let k = w.place in
          let len = lenβ in
          let small : k < 16 = (let a = w.in_first in let b = ra.whole in omega arith) in
          let inside : k < length α =
          ⊎_elim (λ (l : k < length α). l)
          (λ (l : length α ≤ k).
          absurd (both_ways (before_by entry_cmp (get_or u k open_entry) (get_or v k open_entry))
          (ap₂ (before_by entry_cmp) (ra.rest k open_entry l small) (rb.rest k open_entry (omega arith) small) ∙ never entry_total open_entry) w.here))
          (cases_lt k (length α)) in
          let few = parts.0 in
          let up = options before α u ra k (omega arith) few ∙ ap (map (λ (e : RankedOption). e.option)) w.above ∙ sym (options before β v rb k (omega arith) (omega arith)) in
          record { line = k; within = inside; above = up; here = sym (at_line k inside up open_entry) ∙ w.here }

      from_ranking : RowBefore before α β → before_by (slice_cmp entry_cmp) u v ≡ true
      from_ranking r =
          let k = r.line in
          let w = r.within in
          let few = parts.0 in
          let len = lenβ in
          let ua = ra.whole in
          let va = rb.whole in
          let same = front before α u ra k (omega arith) few
          ∙ ap (λ (t : List ℕ). map (λ j. ranked before j (take j t) (get_or t j 0)) (range_with_len 0 k)) r.above
          ∙ sym (front before β v rb k (omega arith) (omega arith)) in
          apart_before entry_total u v open_entry (record { place = k; in_first = omega arith; in_second = omega arith; above = same; here = at_line k w r.above open_entry ∙ r.here })
