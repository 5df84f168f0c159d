-- The steps of the lexical search.
use Rattle.std.proofs.Common.{◌≡◌, ℕ, ◌+◌, ◌<◌, ◌≤◌, Bool, true, false, ◌&&◌, eqb, ltb, leb, List, length, get_or, take, set, replicate, Some, Ok, Err, Result, sym, ap, ◌∙◌, subst, inl, inr, ⊎_elim, arith}
use Rattle.std.proofs.lemmas.List.{ext_get_or, get_or-take, length-take-le, length-set, length-replicate, get_or-replicate, get_or-set_same}
use Rattle.std.proofs.lemmas.Bool.{cases_eq, both_ways, and_from, lt-ltb, le-ltb, le-leb, not_from_false, eq-eqb}
use Rattle.masks.specs.declared.Mask.{Mask}
use Rattle.masks.specs.Members.{is_option, has}
use Rattle.masks.proofs.Members.{has_option}
use Rattle.rows.specs.Rows.{is_row, is_open}
use Rattle.rows.proofs.Rows.{row_from, row_length}
use Rattle.ranking.specs.Orders.{is_line, is_under, is_asked, IsRanking, ArePlacesOf}
use Rattle.places.specs.Entries.{FirstByPlace}
use Rattle.wall.specs.Rules.{no_options}
use Rattle.wall.specs.Plans.{First}
use Rattle.forward.specs.Fits.{Rules, Left, Chosen, Open}
use Rattle.forward.specs.Causes.{Tied, is_choice}
use Rattle.start.specs.Starts.{Sound}
use Rattle.forward.specs.declared.Level.{Level}
use Rattle.choices.specs.Steps.{FitsWithin, Filled, Tried, Narrowed, Stuck}
use Rattle.choices.proofs.Jumping.{shares, full_fits, full_only, full_blames, here, off, blamed_now, conflict_of, dead_line, back, forth, placed, placed_none, blamed_none}
use Rattle.choices.proofs.Levels.{rest_filled}
use Rattle.choices.proofs.Narrowing.{option_chosen}
use Rattle.lexical.specs.Ends.{Reached, Never, Judged, Ends, Followed}

module _ (r : Rules) (s : Sound r) (before : ℕ → List ℕ → ℕ → ℕ → Bool) (d : ℕ) (level : Level) (row : List ℕ) (reached : Reached r d level row) where
  long : length row ≡ 16
  long = reached.long

  -- a row with every line chosen
  filled : r.lines ≤ d → d ≤ r.lines → Filled r.lines row
  filled low high = rest_filled r.lines row s.few long (λ line l h. reached.below line (omega arith) h)

  pub judged_ends : d ≡ r.lines → (o : Result (List ℕ) Mask) → Judged r.passes r.lines row o → Ends r before level row o
  judged_ends e (Ok α) j =
      let full : (line : ℕ) → line < r.lines → Chosen row line = λ line l. reached.above line (omega arith) in
      subst (λ (a : List ℕ). Ends r before level row (Ok a)) (sym j.1) (
        (
          full_fits r s level.masks level.causes row long reached.placed reached.blamed full j.0,
          (λ β k. inl (full_only r s level.masks level.causes row long reached.placed reached.blamed full β k)),
        ),
        filled (omega arith) (omega arith),
      )
  judged_ends e (Err lines) j =
      let full : (line : ℕ) → line < r.lines → Chosen row line = λ line l. reached.above line (omega arith) in
      full_blames r s level.masks level.causes row long reached.placed reached.blamed full Never lines j.1
      (λ β fits is. both_ways (r.passes r.lines β) (ap (r.passes r.lines) (sym is) ∙ j.0) fits.passed)

  module _ (w : d < r.lines) where
    pub line_is_open : Open row d
    line_is_open = let few = s.few in ap is_open (reached.below d (omega arith) (omega arith))

    -- the entries above are those of every row that is left
    pub row_above : is_row d (take d row) ≡ true
    row_above = let few = s.few in row_from d (take d row) 0 (length-take-le d row (omega arith))
        (λ k l. subst (λ (o : ℕ). o < 16) (sym (get_or-take d row k 0 l)) (has_option (get_or level.masks k no_options) (get_or row k 0) (reached.placed.held k (omega arith) (reached.above k l))))

    same_above : (β : List ℕ) → FitsWithin r level.masks β → take d row ≡ take d β
    same_above β k =
        let few = s.few in
        let n = row_length r.lines β k.0.row in
        let a = length-take-le d row (omega arith) in
        ext_get_or 0 (take d row) (take d β) (a ∙ sym (length-take-le d β (omega arith)))
        (λ i h. let l : i < d = omega (arith, h, a) in
        get_or-take d row i 0 l ∙ sym (reached.placed.single i (get_or β i 0) (omega arith) (reached.above i l) (k.1 i (omega arith))) ∙ sym (get_or-take d β i 0 l))

    module _ (x : ℕ) where
      -- the first row with x on the line is the first of all, where x goes before what else is left
      first_of_all : (α : List ℕ) → ((β : List ℕ) → FitsWithin r level.masks β → (get_or β d 0 ≡ x → ⊥) → before d (take d row) x (get_or β d 0) ≡ true)
          → First before (λ β. FitsWithin r level.masks β × (get_or β d 0 ≡ x)) α → First before (FitsWithin r level.masks) α
      first_of_all α ahead first = (
        first.0.0,
        λ β k. ⊎_elim
            (λ e. first.1 β (k, e))
            (λ ne. inr (record {
              line = d;
              within = (let n = row_length r.lines α first.0.0.0.row in omega arith);
              above = sym (same_above α first.0.0) ∙ same_above β k;
              here = subst (λ (front : List ℕ). before d front (get_or α d 0) (get_or β d 0) ≡ true) (same_above α first.0.0) (subst (λ (o : ℕ). before d (take d row) o (get_or β d 0) ≡ true) (sym first.0.1) (ahead β k ne));
            }))
            (cases_eq (get_or β d 0) x),
      )

      -- so it is for the first by the ranking's places of what is still to be tried
      pub found_first : IsRanking before → (places : List ℕ) → ArePlacesOf before d (take d row) places → (left blame : Mask) → FirstByPlace places (has left) (Some x)
          → Tried r level.masks level.causes row Never d left blame → (α : List ℕ) → Followed r before level row d x (Ok α) → Ends r before level row (Ok α)
      found_first ranks places are left blame picked tried α followed =
          (first_of_all (take r.lines α) ahead followed.0, followed.1)
        where
          asked : (a b : ℕ) → a < 16 → b < 16 → is_asked d (take d row) a b ≡ true
          asked a b i j = let few = s.few in and_from (is_under d (take d row)) (is_option a && is_option b) (and_from (is_line d) (is_row d (take d row)) (lt-ltb d 16 (omega arith)) row_above) (and_from (is_option a) (is_option b) (lt-ltb a 16 i) (lt-ltb b 16 j))

          ahead : (β : List ℕ) → FitsWithin r level.masks β → (get_or β d 0 ≡ x → ⊥) → before d (take d row) x (get_or β d 0) ≡ true
          ahead β k ne =
              let y = get_or β d 0 in
              let still : has left y ≡ true = ⊎_elim (λ h. h) (λ q. absurd q) (tried.out β k.0 (λ line l _ _. k.1 line l) (shares r s level.masks level.causes row long reached.placed reached.blamed blame tried.chosen β k)) in
              let i = has_option left x picked.0 in
              let j = has_option left y still in
              let later : get_or places x 0 ≤ get_or places y 0 = ⊎_elim (λ l. omega arith) (λ q. let f = q.0 in omega arith) (picked.1 y still) in
              let rise = are.rise in
              ranks.one d (take d row) x y (asked x y i j) (λ q. ne (sym q))
              ∙ not_from_false (before d (take d row) y x) (rise y x (asked y x j i) ∙ le-ltb (get_or places y 0) (get_or places x 0) later)

      pub chosen_option : Left level.masks d x → is_choice r.lines (set row d x) d x ≡ true
      chosen_option left_x =
          let few = s.few in
          let small = has_option (get_or level.masks d no_options) x left_x in
          and_from (leb r.lines 16 && ltb d r.lines) (is_option x && eqb (get_or (set row d x) d 0) x)
          (and_from (leb r.lines 16) (ltb d r.lines) (le-leb r.lines 16 few) (lt-ltb d r.lines w))
          (and_from (is_option x) (eqb (get_or (set row d x) d 0) x) (lt-ltb x 16 small) (eq-eqb (get_or (set row d x) d 0) x (get_or-set_same row d x 0 (omega (arith, few, w, long)))))

      -- after x was chosen on the line
      module _ (left_x : Left level.masks d x) (new : Level) (narrowed : Narrowed r (set row d x) d x level.masks level.causes new.masks new.causes) where
        small : x < 16
        small = has_option (get_or level.masks d no_options) x left_x

        pub goes_on : Tied r d x (set row d x) new.masks → Reached r (d + 1) new (set row d x)
        goes_on tied = record {
          placed = placed r s level.masks level.causes row long reached.placed reached.blamed d x w line_is_open small new.masks new.causes narrowed left_x tied;
          long = length-set row d x ∙ long;
          blamed = blamed_now r s level.masks level.causes row long reached.placed reached.blamed d x w line_is_open small new.masks new.causes narrowed;
          above = λ line l. ⊎_elim
              (λ e. subst (Chosen (set row d x)) (sym e) (option_chosen (set row d x) d (subst (λ (o : ℕ). o < 16) (sym (here r s level.masks level.causes row long reached.placed reached.blamed d x w line_is_open small)) small)))
              (λ ne. subst (λ (v : ℕ). is_open v ≡ false) (sym (off r s level.masks level.causes row long reached.placed reached.blamed d x w line_is_open small line ne)) (reached.above line (omega arith)))
              (cases_eq line d);
          below = λ line l h. off r s level.masks level.causes row long reached.placed reached.blamed d x w line_is_open small line (λ e. omega arith) ∙ reached.below line (omega arith) h;
        }

        pub ends_followed : (o : Result (List ℕ) Mask) → Ends r before new (set row d x) o → Followed r before level row d x o
        ends_followed (Ok α) ends = (
          (
            back r s level.masks level.causes row long reached.placed reached.blamed d x w line_is_open small new.masks new.causes narrowed left_x (take r.lines α) ends.0.0,
            (λ β k. ends.0.1 β (forth r s level.masks level.causes row long reached.placed reached.blamed d x w line_is_open small new.masks new.causes narrowed left_x β k.0 k.1)),
          ),
          ends.1,
        )
        ends_followed (Err lines) ends = conflict_of r s level.masks level.causes row long reached.placed reached.blamed d x w line_is_open small new.masks new.causes narrowed Never lines ends

        pub stuck_followed : (lines : Mask) → Stuck r d x (set row d x) new.masks new.causes (Err lines) → Followed r before level row d x (Err lines)
        stuck_followed lines stuck = dead_line r s level.masks level.causes row long reached.placed reached.blamed d x w line_is_open small new.masks new.causes narrowed Never lines stuck.0 stuck.1 stuck.2

-- where nothing is chosen yet
pub reached_none : (r : Rules) → r.lines ≤ 16 → (masks : List Mask) (z : Mask) → ((k : ℕ) → has z k ≡ false) → Reached r 0 (record { masks = masks; causes = replicate 16 z }) (replicate 16 255)
reached_none r few masks z empty = record {
  long = length-replicate {A = ℕ} 16 255;
  placed = placed_none r few masks;
  blamed = blamed_none r few masks z empty;
  above = λ line l. absurd (omega (arith, l));
  below = λ line l h. get_or-replicate 16 line 255 0 h;
}
