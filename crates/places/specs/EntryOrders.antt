-- Options and rows with their places are in strict total order.
use Rattle.std.specs.Prelude.{◌≡◌, ℕ, List, Bool, false, not, ◌&&◌, ◌||◌, ◌==◌, nat_lt}
use Rattle.std.proofs.Common.{sym, ap, ap₂, ◌∙◌, arith, rules}
use Rattle.std.proofs.lemmas.Bool.Decides.{nat_tests}
use Rattle.std.proofs.lemmas.Cmp.{then_total, on_total, nat_cmp_total, lists_total}
use Rattle.std.specs.Cmp.{IsTotalOrder}
use Rattle.std.specs.Cmp.Lexicographic.{slice_cmp}
use Rattle.std.specs.Ordering.{nat_cmp, on, then_cmp, ordering_then}
use Rattle.std.specs.declared.cmp.Ordering.{Ordering}
use Rattle.std.specs.declared.cmp.Ordering.TheVariants.{Equal}
use Rattle.order.proofs.Laws.{in_order}
use Rattle.order.proofs.Lists.{lists_same, lists_before}
use Rattle.order.specs.Firsts.{before_by}
use Rattle.order.specs.Orders.{InOrder, list_before}
use Rattle.places.specs.Entries.{entry_before}
use Rattle.places.specs.declared.entries.RankedOption.{RankedOption}
use Rattle.places.specs.declared.entries.RankedRow.{RankedRow}

-- options compare by place, and then by number
abbrev pub entry_cmp : RankedOption → RankedOption → Ordering
entry_cmp = then_cmp (on (λ e. e.place) nat_cmp) (on (λ e. e.option) nat_cmp)

pub entry_total : IsTotalOrder entry_cmp
entry_total = then_total (on_total (λ e. e.place) nat_cmp_total) (on_total (λ e. e.option) nat_cmp_total)

-- entries that tie are the same
pub entry_same : (a b : RankedOption) → entry_cmp a b ≡ Equal → a ≡ b
entry_same a b h = ap₂ entry (place a.place b.place a.option b.option h) (option a.place b.place a.option b.option h)
  where
    entry : ℕ → ℕ → RankedOption
    entry p o = record { place = p; option = o }

    place : (p q o u : ℕ) → ordering_then (nat_cmp p q) (nat_cmp o u) ≡ Equal → p ≡ q
    place p q o u h = grind (arith, nat_tests)

    option : (p q o u : ℕ) → ordering_then (nat_cmp p q) (nat_cmp o u) ≡ Equal → o ≡ u
    option p q o u h = grind (arith, nat_tests)

-- of two different entries exactly one goes before the other
pub entry_one : (a b : RankedOption) → (a ≡ b → ⊥) → before_by entry_cmp a b ≡ not (before_by entry_cmp b a)
entry_one = let o = in_order entry_total entry_same in o.one

-- the smaller place goes before, or at the same place the smaller number
pub entry_goes : (a b : RankedOption) → before_by entry_cmp a b ≡ entry_before a b
entry_goes a b = search rules

-- so entries go by place and number in strict total order
pub entries_in_order : InOrder entry_before
entries_in_order =
    let o = in_order entry_total entry_same in
    record {
      never = λ a. sym (entry_goes a a) ∙ o.never a;
      one = λ a b ne. sym (entry_goes a b) ∙ o.one a b ne ∙ ap not (entry_goes b a);
      through = λ a b c p q. sym (entry_goes a c) ∙ o.through a b c (entry_goes a b ∙ p) (entry_goes b c ∙ q);
    }

-- entries with the same option and place are the same, and so are two of which neither goes before the other
pub same_entry : (a b : RankedOption) → a.option ≡ b.option → a.place ≡ b.place → a ≡ b
same_entry a b e f = ap₂ entry f e
  where
    entry : ℕ → ℕ → RankedOption
    entry p o = record { place = p; option = o }

pub entry_alike : (a b : RankedOption) → entry_before a b ≡ false → entry_before b a ≡ false → a ≡ b
entry_alike a b h g = same_entry a b (option a.place b.place a.option b.option h g) (place a.place b.place a.option b.option h g)
  where
    option : (p q o u : ℕ) → (nat_lt p q || (p == q && nat_lt o u)) ≡ false → (nat_lt q p || (q == p && nat_lt u o)) ≡ false → o ≡ u
    option p q o u h g = grind (arith, nat_tests)

    place : (p q o u : ℕ) → (nat_lt p q || (p == q && nat_lt o u)) ≡ false → (nat_lt q p || (q == p && nat_lt u o)) ≡ false → p ≡ q
    place p q o u h g = grind (arith, nat_tests)

-- rows compare by their entries
abbrev pub row_cmp : RankedRow → RankedRow → Ordering
row_cmp = on (λ r. r.entries) (slice_cmp entry_cmp)

pub row_total : IsTotalOrder row_cmp
row_total = on_total (λ r. r.entries) (lists_total entry_total)

pub row_same : (a b : RankedRow) → row_cmp a b ≡ Equal → a ≡ b
row_same a b h = ap row (lists_same entry_total entry_same a.entries b.entries h)
  where
    row : List RankedOption → RankedRow
    row entries = record { entries = entries }

-- of two different rows exactly one goes before the other
pub row_one : (a b : RankedRow) → (a ≡ b → ⊥) → before_by row_cmp a b ≡ not (before_by row_cmp b a)
row_one = let o = in_order row_total row_same in o.one

-- and the first entries that differ decide
pub row_before : (a b : RankedRow) → before_by row_cmp a b ≡ list_before entry_before a.entries b.entries
row_before a b = lists_before entry_total a.entries b.entries ∙ ap (λ (before : RankedOption → RankedOption → Bool). list_before before a.entries b.entries) (λ i x y. entry_goes x y i)
