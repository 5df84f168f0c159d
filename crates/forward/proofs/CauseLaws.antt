-- Who is to blame for what was taken.
use Rattle.std.proofs.Common.{◌≡◌, ℕ, ◌<◌, ◌≤◌, Bool, true, false, not, ◌&&◌, ◌||◌, eqb, ltb, List, get_or, take, sym, refl, ap, ◌∙◌, inl, inr, ⊎_elim, arith}
use Rattle.std.proofs.lemmas.List.{get_or-take}
use Rattle.std.proofs.lemmas.Bool.{cases_Bool, both_ways, and_parts, and_from, or_left, or_right, or_cases, not-true, not_from_false, ltb-true, lt-ltb, eqb-true, eq-eqb}
use Rattle.masks.specs.declared.Mask.{Mask}
use Rattle.masks.specs.Members.{is_option, has}
use Rattle.rows.specs.Rows.{is_open, Agrees}
use Rattle.forward.specs.Fits.{Chosen}
use Rattle.forward.specs.Causes.{AgreesOn, Blame, Settled}

-- nothing was taken
pub blame_none : (causes before after more rest : Mask) → ((k : ℕ) → has rest k ≡ (has before k && not (has after k))) → ((k : ℕ) → has rest k ≡ false) → Blame causes before after more causes
blame_none causes before after more rest h none = record {
  old = λ i t. t;
  whose = λ i t. inl t;
  taken = inl (λ y t. ⊎_elim (λ (a : has after y ≡ true). a)
      (λ (a : has after y ≡ false). absurd (both_ways (has rest y) (none y) (h y ∙ and_from (has before y) (not (has after y)) t (ap not a))))
      (cases_Bool (has after y)));
}

-- something was taken
pub blame_more : (causes before after more r : Mask) → ((k : ℕ) → has r k ≡ (has causes k || has more k)) → Blame causes before after more r
blame_more causes before after more r h = record {
  old = λ i t. h i ∙ or_left (has causes i) (has more i) t;
  whose = λ i t. or_cases (has causes i) (has more i) (sym (h i) ∙ t);
  taken = inr (λ i t. h i ∙ or_right (has causes i) (has more i) t);
}

-- the chosen lines of a row, as a set
abbrev pub AreChosen : ℕ → List ℕ → Mask → Type 0
AreChosen n row chosen = (line : ℕ) → has chosen line ≡ (ltb line 16 && (ltb line n && not (is_open (get_or row line 0))))

chosen_parts : (n : ℕ) (row : List ℕ) (chosen : Mask) → AreChosen n row chosen → (i : ℕ) → has chosen i ≡ true → (i < n) × Chosen row i
chosen_parts n row chosen h i t =
    let p = and_parts (ltb i 16) (ltb i n && not (is_open (get_or row i 0))) (sym (h i) ∙ t) in
    let q = and_parts (ltb i n) (not (is_open (get_or row i 0))) p.1 in
    (ltb-true i n q.0, not-true (is_open (get_or row i 0)) q.1)

-- a row that has what is on every chosen line agrees with the partial row
agrees_chosen : (n : ℕ) (row β : List ℕ) (chosen is : Mask) → n ≤ 16 → AreChosen n row chosen → ((i : ℕ) → has chosen i ≡ true → has is i ≡ true) → AgreesOn is row β → Agrees n (take n row) β
agrees_chosen n row β chosen is few h sub agree k l c =
    let cut = get_or-take n row k 0 l in
    let open_not : is_open (get_or row k 0) ≡ false = ap is_open (sym cut) ∙ c in
    let t : has chosen k ≡ true = h k ∙ and_from (ltb k 16) (ltb k n && not (is_open (get_or row k 0))) (lt-ltb k 16 (omega arith)) (and_from (ltb k n) (not (is_open (get_or row k 0))) (lt-ltb k n l) (not_from_false (is_open (get_or row k 0)) open_not)) in
    agree k (sub k t) ∙ sym cut

-- rules first, then the house rule
pub settled : (passes : ℕ → List ℕ → Bool) (striking : ℕ → List ℕ → ℕ → ℕ → Bool)
    → ((n : ℕ) (partial : List ℕ) (line option : ℕ) → striking n partial line option ≡ true → (β : List ℕ) → passes n β ≡ true → Agrees n partial β → get_or β line 0 ≡ option → ⊥)
    → (n : ℕ) (row : List ℕ) (line other : ℕ) (old was ruled struck new mid one chosen is : Mask) → n ≤ 16 → line < 16
    → ((k : ℕ) → has struck k ≡ striking n (take n row) other k) → ((k : ℕ) → has new k ≡ (has ruled k && not (has struck k)))
    → ((k : ℕ) → has one k ≡ (is_option k && eqb k line)) → Blame was old ruled one mid → AreChosen n row chosen → Blame mid ruled new chosen is
    → Settled passes n row line other old was ruled new is
settled passes striking sound n row line other old was ruled struck new mid one chosen is few l hs hn ho b hc d = record {
  fewer = λ y t. (and_parts (has ruled y) (not (has struck y)) (sym (hn y) ∙ t)).0;
  more = λ i t. d.old i (b.old i t);
  whose = λ i t. ⊎_elim
      (λ (m : has mid i ≡ true). ⊎_elim (λ (w : has was i ≡ true). inl w) (λ (o : has one i ≡ true). inr (inl (eqb-true i line (and_parts (is_option i) (eqb i line) (sym (ho i) ∙ o)).1))) (b.whose i m))
      (λ (c : has chosen i ≡ true). inr (inr (chosen_parts n row chosen hc i c)))
      (d.whose i t);
  by_pair_rules = ⊎_elim (λ (h : (y : ℕ) → has old y ≡ true → has ruled y ≡ true). inl h)
      (λ (h : (i : ℕ) → has one i ≡ true → has mid i ≡ true). inr (d.old line (h line (ho line ∙ and_from (is_option line) (eqb line line) (lt-ltb line 16 l) (eq-eqb line line refl)))))
      b.taken;
  by_house = λ β p agree t. ⊎_elim
      (λ (h : (y : ℕ) → has ruled y ≡ true → has new y ≡ true). h (get_or β other 0) t)
      (λ (h : (i : ℕ) → has chosen i ≡ true → has is i ≡ true). hn (get_or β other 0) ∙ and_from (has ruled (get_or β other 0)) (not (has struck (get_or β other 0))) t (ap not (⊎_elim
      (λ (s : has struck (get_or β other 0) ≡ true).
      absurd (sound n (take n row) other (get_or β other 0) (sym (hs (get_or β other 0)) ∙ s) β p (agrees_chosen n row β chosen is few hc h agree) refl))
      (λ (s : has struck (get_or β other 0) ≡ false). s)
      (cases_Bool (has struck (get_or β other 0))))))
      d.taken;
}
