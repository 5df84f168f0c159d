-- The steps of a search: a full row, a line with nothing left, a jump, one option more.
use Rattle.std.proofs.Common.{◌≡◌, ℕ, ◌<◌, ◌≤◌, true, false, not, ◌&&◌, ◌||◌, eqb, ltb, ◌⊎◌, List, length, get_or, take, set, replicate, Err, sym, ap, ◌∙◌, subst, inl, inr, ⊎_elim, arith}
use Rattle.std.proofs.lemmas.List.{ext_get_or, get_or-take, length-take-le, get_or-set_same, get_or-set_other, get_or-replicate}
use Rattle.std.proofs.lemmas.Bool.{cases_eq, cases_Bool, both_ways, and_parts, and_from, or_cases, or_left, or_right, ltb-true, lt-ltb, eqb-true, eqb-false, eq-eqb, ne_eqb, not-true, not_from_false}
use Rattle.masks.specs.declared.Mask.{Mask}
use Rattle.masks.specs.Members.{has}
use Rattle.masks.proofs.Members.{has_option}
use Rattle.rows.specs.Rows.{is_open}
use Rattle.rows.proofs.Rows.{row_from, row_length}
use Rattle.wall.specs.Rules.{no_options}
use Rattle.forward.specs.Fits.{Rules, Leads, Leaves, Fits, Left, Chosen, Open}
use Rattle.forward.specs.Causes.{AgreesOn, Spared, Tied, Dead}
use Rattle.start.specs.Starts.{Sound}
use Rattle.choices.specs.Steps.{FitsWithin, AllChosen, Blamed, Placed, Blames, Tried, Conflict, Narrowed}
use Rattle.choices.proofs.Narrowing.{option_chosen, chosen_not_open}

module _ (r : Rules) (s : Sound r) (m causes : List Mask) (row : List ℕ) (long : length row ≡ 16) (at : Placed r m row) (blamed : Blamed r.lines causes row) where
  -- a row that is left has what is chosen
  pub shares : (c : Mask) → AllChosen r.lines row c → (β : List ℕ) → FitsWithin r m β → AgreesOn c row β
  shares c all β k i h = let a = all i h in at.single i (get_or β i 0) a.0 a.1 (k.1 i a.0)

  -- before any option of an open line is tried, and after all are
  pub untried : (Q : List ℕ → Type 0) (d : ℕ) → d < r.lines → Open row d → Tried r m causes row Q d (get_or m d no_options) (get_or causes d no_options)
  untried Q d w open' = record { chosen = blamed d w; out = λ β fits spared on. inl (spared d w open' on) }

  pub all_tried : (Q : List ℕ → Type 0) (d : ℕ) (left c : Mask) → ((x : ℕ) → has left x ≡ false) → Tried r m causes row Q d left c → Blames r m causes row Q c
  all_tried Q d left c none tried = record {
    chosen = tried.chosen;
    out = λ β fits spared on. ⊎_elim (λ h. absurd (both_ways _ (none (get_or β d 0)) h)) (λ q. q) (tried.out β fits spared on);
  }

  -- a row with every line chosen
  module _ (full : (line : ℕ) → line < r.lines → Chosen row line) where
    entry : (line : ℕ) → line < r.lines → get_or (take r.lines row) line 0 ≡ get_or row line 0
    entry line l = get_or-take r.lines row line 0 l

    long_front : length (take r.lines row) ≡ r.lines
    long_front = length-take-le r.lines row (let few = s.few in omega arith)

    pub full_fits : r.passes r.lines (take r.lines row) ≡ true → FitsWithin r m (take r.lines row)
    full_fits passed = (
      record {
        row = row_from r.lines (take r.lines row) 0 long_front (λ line l. subst (λ (o : ℕ). o < 16) (sym (entry line l)) (has_option (get_or m line no_options) (get_or row line 0) (at.held line l (full line l))));
        obeys = λ line other way l o leads. subst (λ (x : ℕ). Leaves r way x (get_or (take r.lines row) other 0)) (sym (entry line l)) (subst (Leaves r way (get_or row line 0)) (sym (entry other o))
            (at.linked line other way (get_or row line 0) (get_or row other 0) l o (inl (full line l)) leads (at.held line l (full line l)) (at.held other o (full other o))));
        passed = passed;
      },
      λ line l. subst (Left m line) (sym (entry line l)) (at.held line l (full line l)),
    )

    same_row : (β : List ℕ) → Fits r β → ((line : ℕ) → line < r.lines → get_or β line 0 ≡ get_or row line 0) → take r.lines row ≡ β
    same_row β fits same = ext_get_or 0 (take r.lines row) β (long_front ∙ sym (row_length r.lines β fits.row))
        (λ i h. let l : i < r.lines = omega (arith, long_front, h) in entry i l ∙ sym (same i l))

    pub full_only : (β : List ℕ) → FitsWithin r m β → take r.lines row ≡ β
    full_only β k = same_row β k.0 (λ line l. at.single line (get_or β line 0) l (full line l) (k.1 line l))

    pub full_blames : (Q : List ℕ → Type 0) (c : Mask) → ((line : ℕ) → has c line ≡ (ltb line 16 && (ltb line r.lines && not (is_open (get_or row line 0)))))
        → ((β : List ℕ) → Fits r β → take r.lines row ≡ β → Q β) → Blames r m causes row Q c
    full_blames Q c is this = record {
      chosen = λ i h. let p = and_parts (ltb i r.lines) (not (is_open (get_or row i 0))) (and_parts (ltb i 16) (ltb i r.lines && not (is_open (get_or row i 0))) (sym (is i) ∙ h)).1 in
          (ltb-true i r.lines p.0, not-true (is_open (get_or row i 0)) p.1);
      out = λ β fits spared on. this β fits (same_row β fits (λ line l.
          let few = s.few in
          on line (is line ∙ and_from (ltb line 16) (ltb line r.lines && not (is_open (get_or row line 0))) (lt-ltb line 16 (omega arith))
          (and_from (ltb line r.lines) (not (is_open (get_or row line 0))) (lt-ltb line r.lines l) (not_from_false (is_open (get_or row line 0)) (full line l))))));
    }

  -- option x of the open line d
  module _ (d x : ℕ) (w : d < r.lines) (open' : Open row d) (small : x < 16) where
    pub here : get_or (set row d x) d 0 ≡ x
    here = let few = s.few in get_or-set_same row d x 0 (omega arith)

    pub off : (l : ℕ) → (l ≡ d → ⊥) → get_or (set row d x) l 0 ≡ get_or row l 0
    off l ne = get_or-set_other row d l x 0 ne

    apart : (i : ℕ) → Chosen row i → i ≡ d → ⊥
    apart i c e = chosen_not_open row d (subst (Chosen row) e c) open'

    chosen_here : Chosen (set row d x) d
    chosen_here = option_chosen (set row d x) d (subst (λ (v : ℕ). v < 16) (sym here) small)

    -- chosen before is chosen now; chosen now was chosen before, or is this
    chosen_now : (i : ℕ) → Chosen row i → Chosen (set row d x) i
    chosen_now i c = subst (λ (v : ℕ). is_open v ≡ false) (sym (off i (apart i c))) c

    chosen_before : (i : ℕ) → (i ≡ d → ⊥) → Chosen (set row d x) i → Chosen row i
    chosen_before i ne c = subst (λ (v : ℕ). is_open v ≡ false) (off i ne) c

    -- no row that has the causes of a conflict is left
    module _ (Q : List ℕ → Type 0) (c : Mask) (conflict : Conflict r m causes row d x Q c) where
      before : (i : ℕ) → has c i ≡ true → (i ≡ d → ⊥) → (i < r.lines) × Chosen row i
      before i h ne = let a = conflict.chosen i h in (a.0, chosen_before i ne a.1)

      -- the choice on d is not to blame
      pub jump : has c d ≡ false → Blames r m causes row Q c
      jump without =
          let ne : (i : ℕ) → has c i ≡ true → i ≡ d → ⊥ = λ i h e. both_ways (has c d) without (subst (λ (j : ℕ). has c j ≡ true) e h) in
          record {
            chosen = λ i h. before i h (ne i h);
            out = λ β fits spared on. conflict.out β fits spared (λ i h. on i h ∙ sym (off i (ne i h)));
          }

      -- x is tried on d: of rows for which P was shown Q holds too
      pub learn : (P : List ℕ → Type 0) → ((β : List ℕ) → Fits r β → P β → Q β) → (left rest got c' more : Mask)
          → ((i : ℕ) → has c' i ≡ (has c i && not (eqb i d))) → ((i : ℕ) → has more i ≡ (has got i || has c' i)) → ((y : ℕ) → has rest y ≡ (has left y && not (eqb y x)))
          → Tried r m causes row P d left got → Tried r m causes row Q d rest more
      learn P still left rest got c' more less union is tried = record {
        chosen = λ i h. ⊎_elim (tried.chosen i)
            (λ b. let p = and_parts (has c i) (not (eqb i d)) (sym (less i) ∙ b) in before i p.0 (eqb-false i d (not-true (eqb i d) p.1)))
            (or_cases (has got i) (has c' i) (sym (union i) ∙ h));
        out = λ β fits spared on. ⊎_elim
            (λ (e : get_or β d 0 ≡ x). inr (conflict.out β fits spared (λ i h. ⊎_elim
            (λ (q : i ≡ d). ap (λ (j : ℕ). get_or β j 0) q ∙ e ∙ sym here ∙ ap (λ (j : ℕ). get_or (set row d x) j 0) (sym q))
            (λ ne. on i (union i ∙ or_right (has got i) (has c' i) (less i ∙ and_from (has c i) (not (eqb i d)) h (not_from_false (eqb i d) (ne_eqb i d ne)))) ∙ sym (off i ne))
            (cases_eq i d))))
            (λ ne. ⊎_elim
            (λ l. inl (is (get_or β d 0) ∙ and_from (has left (get_or β d 0)) (not (eqb (get_or β d 0) x)) l (not_from_false (eqb (get_or β d 0) x) (ne_eqb (get_or β d 0) x ne))))
            (λ p. inr (still β fits p))
            (tried.out β fits spared (λ i h. on i (union i ∙ or_left (has got i) (has c' i) h))))
            (cases_eq (get_or β d 0) x);
      }

    -- after x was chosen on d
    module _ (new reasons : List Mask) (narrowed : Narrowed r (set row d x) d x m causes new reasons) where
      pub blamed_now : Blamed r.lines reasons (set row d x)
      blamed_now line l i h = ⊎_elim
          (λ b. let a = blamed line l i b in (a.0, chosen_now i a.1))
          (λ a. a)
          (narrowed.whose line i h)

      carried : (β : List ℕ) → Spared r.lines m causes row β → Spared r.lines m causes (set row d x) β
      carried β spared line l open_now on =
          let ne : line ≡ d → ⊥ = λ e. chosen_not_open (set row d x) d chosen_here (subst (Open (set row d x)) e open_now) in
          spared line l (subst (λ (v : ℕ). is_open v ≡ true) (off line ne) open_now) (λ i h. on i h ∙ off i (apart i (blamed line l i h).1))

      pub conflict_of : (Q : List ℕ → Type 0) (c : Mask) → Blames r new reasons (set row d x) Q c → Conflict r m causes row d x Q c
      conflict_of Q c blames = record {
        chosen = blames.chosen;
        out = λ β fits spared on. blames.out β fits (narrowed.kept β fits (carried β spared)) on;
      }

      -- a line with nothing left
      pub dead_line : (Q : List ℕ → Type 0) (c : Mask) (dead : ℕ) → Dead r d x (set row d x) new (Err dead) → c ≡ get_or reasons dead no_options → Conflict r m causes row d x Q c
      dead_line Q c dead is e = conflict_of Q c (record {
        chosen = subst (AllChosen r.lines (set row d x)) (sym e) (blamed_now dead is.0);
        out = λ β fits spared on. absurd (both_ways (has (get_or new dead no_options) (get_or β dead 0)) (is.2 (get_or β dead 0)) (spared dead is.0 is.1 (subst (λ (lines : Mask). AgreesOn lines (set row d x) β) e on)));
      })

      module _ (left_x : Left m d x) where
        just : (y : ℕ) → Left new d y → y ≡ x
        just y h = eqb-true y x (sym (narrowed.only y) ∙ h)

        left_before : (l y : ℕ) → Left new l y → Left m l y
        left_before l y h = ⊎_elim
            (λ e. subst (λ (k : ℕ). Left m k y) (sym e) (subst (Left m d) (sym (just y (subst (λ (k : ℕ). Left new k y) e h))) left_x))
            (λ ne. narrowed.fewer l y ne h)
            (cases_eq l d)

        -- the rows that are left after the choice are those that were left and have it
        pub back : (β : List ℕ) → FitsWithin r new β → FitsWithin r m β × (get_or β d 0 ≡ x)
        back β k = ((k.0, λ line l. left_before line (get_or β line 0) (k.1 line l)), just (get_or β d 0) (k.1 d w))

        pub forth : (β : List ℕ) → FitsWithin r m β → get_or β d 0 ≡ x → FitsWithin r new β
        forth β k e = (
          k.0,
          λ line l. ⊎_elim
              (λ q. subst (λ (i : ℕ). Left new i (get_or β i 0)) (sym q) (narrowed.only (get_or β d 0) ∙ eq-eqb (get_or β d 0) x e))
              (λ ne. ⊎_elim
              (λ open_now. narrowed.kept β k.0 (λ i h _ _. k.1 i h) line l (subst (λ (v : ℕ). is_open v ≡ true) (sym (off line ne)) open_now) (agrees line l))
              (λ c. subst (λ (o : Mask). has o (get_or β line 0) ≡ true) (sym (narrowed.same line ne (chosen_now line c))) (k.1 line l))
              (cases_Bool (is_open (get_or row line 0))))
              (cases_eq line d),
        )
          where
            agrees : (line : ℕ) → line < r.lines → AgreesOn (get_or reasons line no_options) (set row d x) β
            agrees line l i h = let a = blamed_now line l i h in ⊎_elim
                (λ q. ap (λ (j : ℕ). get_or β j 0) q ∙ e ∙ sym here ∙ ap (λ (j : ℕ). get_or (set row d x) j 0) (sym q))
                (λ ne. at.single i (get_or β i 0) a.0 (chosen_before i ne a.1) (k.1 i a.0) ∙ sym (off i ne))
                (cases_eq i d)

        module _ (tied : Tied r d x (set row d x) new) where
          linked_now : (line other way a b : ℕ) → line < r.lines → other < r.lines → Chosen (set row d x) line ⊎ Chosen (set row d x) other
              → Leads r line other way → Left new line a → Left new other b → Leaves r way a b
          linked_now line other way a b l o side leads la lb =
              let old : Chosen row line ⊎ Chosen row other → Leaves r way a b = λ q. at.linked line other way a b l o q leads (left_before line a la) (left_before other b lb) in
              let open_now : (i : ℕ) → (i ≡ d → ⊥) → Open row i → Open (set row d x) i = λ i ne q. subst (λ (v : ℕ). is_open v ≡ true) (sym (off i ne)) q in
              ⊎_elim
              (λ (e : line ≡ d).
              let ne : other ≡ d → ⊥ = λ f. s.apart d way w (subst (λ (i : ℕ). Leads r i d way) e (subst (λ (i : ℕ). Leads r line i way) f leads)) in
              let is_x = just a (subst (λ (i : ℕ). Left new i a) e la) in
              ⊎_elim
              (λ (q : Open row other). subst (λ (v : ℕ). Leaves r way v b) (sym is_x) (tied other way b o (open_now other ne q) (subst (λ (i : ℕ). Leads r i other way) e leads) lb))
              (λ (q : Chosen row other). old (inr q))
              (cases_Bool (is_open (get_or row other 0))))
              (λ ne. ⊎_elim
              (λ (f : other ≡ d).
              let is_x = just b (subst (λ (i : ℕ). Left new i b) f lb) in
              let turn = s.back line d way l w (subst (λ (i : ℕ). Leads r line i way) f leads) in
              ⊎_elim
              (λ (q : Open row line). subst (Leaves r way a) (sym is_x) (turn.2 a x (has_option (get_or new line no_options) a la) small (tied line turn.0 a l (open_now line ne q) turn.1 la)))
              (λ (q : Chosen row line). old (inl q))
              (cases_Bool (is_open (get_or row line 0))))
              (λ nf. old (⊎_elim (λ q. inl (chosen_before line ne q)) (λ q. inr (chosen_before other nf q)) side))
              (cases_eq other d))
              (cases_eq line d)

          pub placed : Placed r new (set row d x)
          placed = record {
            held = λ line l c. ⊎_elim
                (λ e. subst (λ (i : ℕ). Left new i (get_or (set row d x) i 0)) (sym e) (narrowed.only (get_or (set row d x) d 0) ∙ eq-eqb (get_or (set row d x) d 0) x here))
                (λ ne. subst (Left new line) (sym (off line ne)) (subst (λ (o : Mask). has o (get_or row line 0) ≡ true) (sym (narrowed.same line ne c)) (at.held line l (chosen_before line ne c))))
                (cases_eq line d);
            single = λ line y l c left. ⊎_elim
                (λ e. just y (subst (λ (i : ℕ). Left new i y) e left) ∙ sym here ∙ ap (λ (i : ℕ). get_or (set row d x) i 0) (sym e))
                (λ ne. at.single line y l (chosen_before line ne c) (left_before line y left) ∙ sym (off line ne))
                (cases_eq line d);
            linked = linked_now;
          }

-- where nothing is chosen yet
module _ (r : Rules) (few : r.lines ≤ 16) (m : List Mask) where
  none_chosen : (line : ℕ) → line < r.lines → Chosen (replicate 16 255) line → ⊥
  none_chosen line l c = chosen_not_open (replicate 16 255) line c (ap is_open (get_or-replicate 16 line 255 0 (omega arith)))

  pub placed_none : Placed r m (replicate 16 255)
  placed_none = record {
    held = λ line l c. absurd (none_chosen line l c);
    single = λ line x l c left. absurd (none_chosen line l c);
    linked = λ line other way x y l o side leads la lb. absurd (⊎_elim (none_chosen line l) (none_chosen other o) side);
  }

  module _ (z : Mask) (empty : (k : ℕ) → has z k ≡ false) where
    pub blamed_none : Blamed r.lines (replicate 16 z) (replicate 16 255)
    blamed_none line l i h = absurd (both_ways (has z i) (empty i) (subst (λ (o : Mask). has o i ≡ true) (get_or-replicate 16 line z no_options (omega arith)) h))

    pub root : (Q : List ℕ → Type 0) (c : Mask) → Blames r m (replicate 16 z) (replicate 16 255) Q c → (β : List ℕ) → FitsWithin r m β → Q β
    root Q c blames β k = blames.out β k.0 (λ line l _ _. k.1 line l) (λ i h. let a = blames.chosen i h in absurd (none_chosen i a.0 a.1))
