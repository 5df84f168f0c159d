-- Going before is a strict total order of the rows of a wall, for every ranking.
use Rattle.std.proofs.Common.{◌≡◌, ℕ, zero, suc, ◌<◌, ◌≤◌, Bool, true, false, ◌⊎◌, List, length, get_or, take, sym, refl, ap, ◌∙◌, inl, inr, ⊎_elim, add-one, arith}
use Rattle.std.proofs.lemmas.List.{get_or-take, take-take, take_all, take_more_same}
use Rattle.std.proofs.lemmas.Bool.{cases_eq, cases_Bool, cases_order, both_ways}
use Rattle.rows.specs.Rows.{is_row}
use Rattle.rows.proofs.Rows.{row_length, row_option, row_take}
use Rattle.ranking.specs.Orders.{IsRanking, RowBefore}
use Rattle.ranking.specs.Ranks.{asked_from, under_from}
use Rattle.wall.specs.Theorems.{RowsInOrder}

-- the same entries above a line, and on every line above that
pub same_entry : (α β : List ℕ) (m k : ℕ) → take m α ≡ take m β → k < m → get_or α k 0 ≡ get_or β k 0
same_entry α β m k e l = sym (get_or-take m α k 0 l) ∙ ap (λ (t : List ℕ). get_or t k 0) e ∙ get_or-take m β k 0 l

pub same_front : (α β : List ℕ) (m k : ℕ) → take m α ≡ take m β → k ≤ m → take k α ≡ take k β
same_front α β m k e l = sym (take-take k m α l) ∙ ap (take k) e ∙ take-take k m β l

-- two rows differ on a first line, or are the same above a line
first_apart : (n : ℕ) (α β : List ℕ) → length α ≡ n → length β ≡ n → (j : ℕ) → j ≤ n
    → (take j α ≡ take j β) ⊎ ((k : ℕ) × (k < j) × (take k α ≡ take k β) × (get_or α k 0 ≡ get_or β k 0 → ⊥))
first_apart n α β p q zero l = inl refl
first_apart n α β p q (suc j) l = step (first_apart n α β p q j (omega arith))
  where
    step : (take j α ≡ take j β) ⊎ ((k : ℕ) × (k < j) × (take k α ≡ take k β) × (get_or α k 0 ≡ get_or β k 0 → ⊥))
        → (take (suc j) α ≡ take (suc j) β) ⊎ ((k : ℕ) × (k < suc j) × (take k α ≡ take k β) × (get_or α k 0 ≡ get_or β k 0 → ⊥))
    step (inl e) =
        ⊎_elim
        (λ (h : get_or α j 0 ≡ get_or β j 0). inl (rw (← add-one j) (take_more_same α β j 0 (omega arith) (omega arith) e h)))
        (λ (h : get_or α j 0 ≡ get_or β j 0 → ⊥). inr (j, omega arith, e, h))
        (cases_eq (get_or α j 0) (get_or β j 0))
    step (inr d) = inr (d.0, (let a = d.1 in omega arith), d.2, d.3)

module _ (before : ℕ → List ℕ → ℕ → ℕ → Bool) (R : IsRanking before) where
  pub row_never : (α : List ℕ) → RowBefore before α α → ⊥
  row_never α r = both_ways (before r.line (take r.line α) (get_or α r.line 0) (get_or α r.line 0)) (R.never r.line (take r.line α) (get_or α r.line 0)) r.here

  pub row_through : (α β γ : List ℕ) → length α ≡ length β → RowBefore before α β → RowBefore before β γ → RowBefore before α γ
  row_through α β γ len r s =
      ⊎_elim
      (λ (e : k ≡ m).
      record { line = k; within = r.within; above = cc; here = R.through k (take k α) (get_or α k 0) (get_or β k 0) (get_or γ k 0) r.here (cc) })
      (⊎_elim
      (λ (l : k < m).
      let front = same_front β γ m k s.above (omega arith) in
      let entry = same_entry β γ m k s.above l in
      record { line = k; within = r.within; above = cc; here = cc })
      (λ (l : m < k).
      let front = same_front α β k m r.above (omega arith) in
      let entry = same_entry α β k m r.above l in
      record { line = m; within = (let w = s.within in omega arith); above = cc; here = cc }))
      (cases_order k m)
    where
      k : ℕ
      k = r.line

      m : ℕ
      m = s.line

  -- a line where rows differ puts one of them before the other
  at_apart : (n : ℕ) (α β : List ℕ) → n ≤ 16 → is_row n α ≡ true → is_row n β ≡ true → (k : ℕ) → k < n → take k α ≡ take k β → (get_or α k 0 ≡ get_or β k 0 → ⊥)
      → RowBefore before α β ⊎ RowBefore before β α
  at_apart n α β few p q k l e ne =
      let la = row_length n α p in
      let lb = row_length n β q in
      let under = under_from k (take k α) (omega arith) (row_take n k α p (omega arith)) in
      let asked = asked_from k (take k α) (get_or α k 0) (get_or β k 0) under (row_option n α p k 0 l) (row_option n β q k 0 l) in
      let back = asked_from k (take k α) (get_or β k 0) (get_or α k 0) under (row_option n β q k 0 l) (row_option n α p k 0 l) in
      let turned = R.one k (take k α) (get_or β k 0) (get_or α k 0) back (λ h. ne (sym h)) in
      ⊎_elim
      (λ (t : before k (take k α) (get_or α k 0) (get_or β k 0) ≡ true). inl (record { line = k; within = omega arith; above = e; here = t }))
      (λ (t : before k (take k α) (get_or α k 0) (get_or β k 0) ≡ false). inr (record { line = k; within = omega arith; above = sym e; here = cc }))
      (cases_Bool (before k (take k α) (get_or α k 0) (get_or β k 0)))

  pub row_one : (n : ℕ) (α β : List ℕ) → n ≤ 16 → is_row n α ≡ true → is_row n β ≡ true → (α ≡ β) ⊎ (RowBefore before α β ⊎ RowBefore before β α)
  row_one n α β few p q = go (first_apart n α β la lb n (omega arith))
    where
      la : length α ≡ n
      la = row_length n α p

      lb : length β ≡ n
      lb = row_length n β q

      go : (take n α ≡ take n β) ⊎ ((k : ℕ) × (k < n) × (take k α ≡ take k β) × (get_or α k 0 ≡ get_or β k 0 → ⊥)) → (α ≡ β) ⊎ (RowBefore before α β ⊎ RowBefore before β α)
      go (inl e) = inl (sym (take_all n α (omega (arith, la))) ∙ e ∙ take_all n β (omega (arith, lb)))
      go (inr d) = inr (at_apart n α β few p q d.0 d.1 d.2 d.3)

pub rows_in_order : RowsInOrder
rows_in_order n before few R = record {
  never = λ α p r. row_never before R α r;
  one = λ α β p q. row_one before R n α β few p q;
  apart = λ α β p q r s. row_never before R α (row_through before R α β α (row_length n α p ∙ sym (row_length n β q)) r s);
  through = λ α β γ p q o r s. row_through before R α β γ (row_length n α p ∙ sym (row_length n β q)) r s;
}
