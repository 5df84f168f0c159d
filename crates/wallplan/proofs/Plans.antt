-- The steps of planning line by line.
use Rattle.std.proofs.Common.{◌≡◌, ℕ, ◌+◌, ◌<◌, Bool, true, false, ◌&&◌, ltb, List, length, get_or, take, set, Some, None, sym, refl, ap, ◌∙◌, ⊎_elim, arith}
use Rattle.std.proofs.lemmas.List.{get_or-take, get_or-set_same, get_or-set_other, length-take-le, take-set-le}
use Rattle.std.proofs.lemmas.Bool.{cases_eq, both_ways, lt-ltb, ltb-true, and_from, and_parts}
use Rattle.masks.specs.declared.Mask.{Mask}
use Rattle.masks.specs.Members.{is_option, has}
use Rattle.rows.proofs.Rows.{row_from}
use Rattle.places.specs.Entries.{BestOption}
use Rattle.ranking.specs.Orders.{is_under}
use Rattle.ranking.specs.Ranks.{under_from}
use Rattle.wallplan.specs.Plans.{options_of}

-- a line whose set of options is empty has none
pub none_left : (counts : List ℕ) (line : ℕ) (options : Mask) → ((k : ℕ) → has options k ≡ (is_option k && ltb k (get_or counts line 0))) → ((k : ℕ) → has options k ≡ false) → get_or counts line 0 ≡ 0
none_left counts line options same none =
    ⊎_elim (λ (e : get_or counts line 0 ≡ 0). e)
    (λ (e : get_or counts line 0 ≡ 0 → ⊥). absurd (both_ways (has options 0) (none 0) (same 0 ∙ and_from (is_option 0) (ltb 0 (get_or counts line 0)) refl (lt-ltb 0 _ (omega arith)))))
    (cases_eq (get_or counts line 0) 0)

module _ (before : ℕ → List ℕ → ℕ → ℕ → Bool) (counts row : List ℕ) (line : ℕ) (l : line < 3) (n : length row ≡ 3)
    (so_far : (k : ℕ) → k < line → BestOption before k (take k row) (options_of counts k) (Some (get_or row k 0))) (options : Mask)
    (same : (k : ℕ) → has options k ≡ options_of counts line k) where
  -- a line more has its best option
  pub best_more : (best : ℕ) → BestOption before line (take line row) (has options) (Some best)
      → (k : ℕ) → k < line + 1 → BestOption before k (take k (set row line best)) (options_of counts k) (Some (get_or (set row line best) k 0))
  best_more best h k m =
      ⊎_elim
      (λ (q : k ≡ line).
      let up : take k (set row line best) ≡ take line row = take-set-le k row line best (omega arith) ∙ ap (λ (j : ℕ). take j row) q in
      let here : get_or (set row line best) k 0 ≡ best = rw q (get_or-set_same row line best 0 (omega arith)) in
      rw (up, here, q) (h.0, sym (same best) ∙ h.1, λ o t. h.2 o (same o ∙ t)))
      (λ (q : k ≡ line → ⊥). rw (take-set-le k row line best (omega arith), get_or-set_other row line k best 0 q) (so_far k (omega arith)))
      (cases_eq k line)

  -- a line without a best option has none at all
  pub none_best : BestOption before line (take line row) (has options) None → get_or counts line 0 ≡ 0
  none_best none = none_left counts line options same (none under)
    where
      -- the lines above have options
      under : is_under line (take line row) ≡ true
      under = under_from line (take line row) (omega arith) (row_from line (take line row) 0 (length-take-le line row (omega arith)) (λ k m.
          let is = ltb-true (get_or row k 0) 16 (and_parts (is_option (get_or row k 0)) (ltb (get_or row k 0) (get_or counts k 0)) (so_far k m).1).0 in
          rw get_or-take is))
