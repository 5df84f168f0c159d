-- The sweep over the open lines, way by way and line by line.
use Rattle.std.proofs.Common.{◌≡◌, ℕ, ◌+◌, ◌<◌, ◌≤◌, true, false, not, ◌&&◌, ◌||◌, eqb, ltb, List, [], length, get_or, set, Ok, Err, sym, refl, ap, ◌∙◌, inl, inr, ⊎_elim, arith}
use Rattle.std.proofs.lemmas.List.{get_or-set_same, get_or-set_other, length-set}
use Rattle.std.proofs.lemmas.Bool.{cases_eq, cases_Bool, both_ways, and_parts, and_from, eq-eqb, ne_eqb, eqb-true, lt-ltb, or_cases, or_left, or_right, not_from_false}
use Rattle.masks.specs.declared.Mask.{Mask}
use Rattle.masks.specs.Members.{is_option, has}
use Rattle.rows.specs.Rows.{is_open}
use Rattle.wall.specs.Rules.{no_options}
use Rattle.network.specs.declared.ways.WaySet.{WaySet}
use Rattle.network.specs.Ways.{has_way, no_ways}
use Rattle.network.proofs.WayLaws.{way_below}
use Rattle.forward.specs.Fits.{Rules, Leads, Leaves, Fits, Left, Chosen, Open}
use Rattle.forward.specs.Causes.{AgreesOn, Swept, Dead, Ruled, Settled, Shrunk}

-- what the ways that are done leave of the options of another line
pub record Ruling (r : Rules) (line x other : ℕ) (old left : Mask) (todo : WaySet) : Type 0 where
  pub fewer : (y : ℕ) → has left y ≡ true → has old y ≡ true
  pub ahead : (way : ℕ) → has_way todo way ≡ true → Leads r line other way
  pub done : (way y : ℕ) → Leads r line other way → has_way todo way ≡ false → has left y ≡ true → Leaves r way x y
  pub kept : (β : List ℕ) → Fits r β → get_or β line 0 ≡ x → has old (get_or β other 0) ≡ true → has left (get_or β other 0) ≡ true

module _ (r : Rules) (line x other : ℕ) (l : line < r.lines) (o : other < r.lines) (few : r.lines ≤ 16) (small : x < 16) (old : Mask) where
  -- none is done yet
  pub ruling_none : (ways : WaySet) → ((way : ℕ) → has_way ways way ≡ ((ltb line 16 && ltb other 16) && has_way (get_or (get_or r.ways line []) other no_ways) way)) → Ruling r line x other old old ways
  ruling_none ways h = record {
    fewer = λ y t. t;
    ahead = λ way t. (and_parts (ltb line 16 && ltb other 16) (has_way (get_or (get_or r.ways line []) other no_ways) way) (sym (h way) ∙ t)).1;
    done = λ way y leads not_todo t. absurd (both_ways (has_way ways way) not_todo
        (h way ∙ and_from (ltb line 16 && ltb other 16) (has_way (get_or (get_or r.ways line []) other no_ways) way) (and_from (ltb line 16) (ltb other 16) (lt-ltb line 16 (omega arith)) (lt-ltb other 16 (omega arith))) leads));
    kept = λ β f e t. t;
  }

  -- one way more
  pub ruling_more : (left new allowed : Mask) (todo rest : WaySet) (way : ℕ) → Ruling r line x other old left todo → has_way todo way ≡ true
      → ((k : ℕ) → has_way rest k ≡ (has_way todo k && not (eqb k way)))
      → ((y : ℕ) → has allowed y ≡ ((ltb way 48 && is_option x) && has (get_or (get_or r.tables way []) x no_options) y))
      → ((y : ℕ) → has new y ≡ (has left y && has allowed y)) → Ruling r line x other old new rest
  ruling_more left new allowed todo rest way h t hr ha hn = record {
    fewer = λ y s. h.fewer y (and_parts (has left y) (has allowed y) (sym (hn y) ∙ s)).0;
    ahead = λ k s. h.ahead k (and_parts (has_way todo k) (not (eqb k way)) (sym (hr k) ∙ s)).0;
    done = λ k y leads gone s.
        let p = and_parts (has left y) (has allowed y) (sym (hn y) ∙ s) in
        ⊎_elim
        (λ (e : k ≡ way). rw e (and_parts (ltb way 48 && is_option x) (has (get_or (get_or r.tables way []) x no_options) y) (sym (ha y) ∙ p.1)).1)
        (λ (e : k ≡ way → ⊥). h.done k y leads (before k e gone) p.0)
        (cases_eq k way);
    kept = λ β f e s.
        hn (get_or β other 0) ∙ and_from (has left (get_or β other 0)) (has allowed (get_or β other 0)) (h.kept β f e s)
        (ha (get_or β other 0) ∙ and_from (ltb way 48 && is_option x) (has (get_or (get_or r.tables way []) x no_options) (get_or β other 0)) in_range
        (ap (λ (a : ℕ). has (get_or (get_or r.tables way []) a no_options) (get_or β other 0)) (sym e) ∙ f.obeys line other way l o (h.ahead way t)));
  }
    where
      in_range : (ltb way 48 && is_option x) ≡ true
      in_range = and_from (ltb way 48) (is_option x) (lt-ltb way 48 (way_below todo way t)) (lt-ltb x 16 small)

      before : (k : ℕ) → (k ≡ way → ⊥) → has_way rest k ≡ false → has_way todo k ≡ false
      before k e gone = ⊎_elim
          (λ (s : has_way todo k ≡ true). absurd (both_ways (has_way rest k) gone (hr k ∙ and_from (has_way todo k) (not (eqb k way)) s (not_from_false (eqb k way) (ne_eqb k way e)))))
          (λ (s : has_way todo k ≡ false). s)
          (cases_Bool (has_way todo k))

  -- all are done
  pub ruling_all : (left : Mask) (todo : WaySet) → Ruling r line x other old left todo → ((k : ℕ) → has_way todo k ≡ false) → Ruled r line x other old left
  ruling_all left todo h none = record { fewer = h.fewer; tied = λ way y leads t. h.done way y leads (none way) t; kept = h.kept }

  module _ (row : List ℕ) (here : get_or row line 0 ≡ x) where
    -- the chosen line itself
    chosen_here : Chosen row line
    chosen_here = ap is_open here ∙ ne_eqb x 255 (omega arith)

    -- rules and then the house rule
    pub shrunk_settled : (was ruled new is : Mask) → Ruled r line x other old ruled → Settled r.passes r.lines row line other old was ruled new is → Shrunk r line x row other old was new is
    shrunk_settled was ruled new is h g = record {
      fewer = λ y t. h.fewer y (g.fewer y t);
      tied = λ way y leads t. h.tied way y leads (g.fewer y t);
      more = g.more;
      whose = λ i t. ⊎_elim (λ (w : has was i ≡ true). inl w) (⊎_elim (λ (e : i ≡ line). inr (rw e (l, chosen_here))) (λ (c : (i < r.lines) × Chosen row i). inr c)) (g.whose i t);
      why = λ β f agree t. g.by_house β f.passed agree (⊎_elim
          (λ (s : (y : ℕ) → has old y ≡ true → has ruled y ≡ true). s (get_or β other 0) t)
          (λ (s : has is line ≡ true). h.kept β f (agree line s ∙ here) t)
          g.by_pair_rules);
    }

    -- the rules alone leave nothing
    pub shrunk_empty : (was ruled is : Mask) (todo : WaySet) → Ruling r line x other old ruled todo → ((y : ℕ) → has ruled y ≡ false) → ((i : ℕ) → has is i ≡ (has was i || (is_option i && eqb i line)))
        → Shrunk r line x row other old was ruled is
    shrunk_empty was ruled is todo h none hi = record {
      fewer = h.fewer;
      tied = λ way y leads t. absurd (both_ways (has ruled y) (none y) t);
      more = λ i t. hi i ∙ or_left (has was i) (is_option i && eqb i line) t;
      whose = λ i t. ⊎_elim (λ (w : has was i ≡ true). inl w)
          (λ (c : (is_option i && eqb i line) ≡ true). let e : i ≡ line = eqb-true i line (and_parts (is_option i) (eqb i line) c).1 in inr (rw e (l, chosen_here)))
          (or_cases (has was i) (is_option i && eqb i line) (sym (hi i) ∙ t));
      why = λ β f agree t. h.kept β f (agree line blamed ∙ here) t;
    }
      where
        blamed : has is line ≡ true
        blamed = hi line ∙ or_right (has was line) (is_option line && eqb line line) (and_from (is_option line) (eqb line line) (lt-ltb line 16 (omega arith)) (eq-eqb line line refl))

-- the lines above k are swept, and the others are as they were
pub record SweptTo (r : Rules) (line x : ℕ) (row : List ℕ) (k : ℕ) (old was new is : List Mask) : Type 0 where
  pub masks_long : length new ≡ 16
  pub causes_long : length is ≡ 16
  pub masks_rest : (l : ℕ) → k ≤ l → get_or new l no_options ≡ get_or old l no_options
  pub causes_rest : (l : ℕ) → k ≤ l → get_or is l no_options ≡ get_or was l no_options
  pub swept : Swept r row old was new is
  pub tied : (other way y : ℕ) → other < k → Open row other → Leads r line other way → Left new other y → Leaves r way x y
  pub alive : (other : ℕ) → other < k → Open row other → (y : ℕ) × Left new other y

-- open and chosen exclude each other
open_chosen : {X : Type 0} (row : List ℕ) (l : ℕ) → Open row l → Chosen row l → X
open_chosen row l o c = absurd (both_ways (is_open (get_or row l 0)) c o)

module _ (r : Rules) (line x : ℕ) (row : List ℕ) (old was : List Mask) (few : r.lines ≤ 16) where
  -- no line is swept yet
  pub swept_none : length old ≡ 16 → length was ≡ 16 → SweptTo r line x row 0 old was old was
  swept_none n m = record {
    masks_long = n;
    causes_long = m;
    masks_rest = λ l h. refl;
    causes_rest = λ l h. refl;
    swept = record { same = λ l c. refl; fewer = λ l y t. t; whose = λ l i t. inl t; kept = λ β f s. s };
    tied = λ other way y l. absurd (omega arith);
    alive = λ other l. absurd (omega arith);
  }

  module _ (k : ℕ) (l : k < r.lines) (new is : List Mask) (h : SweptTo r line x row k old was new is) where
    -- a chosen line is passed over
    pub swept_chosen : Chosen row k → SweptTo r line x row (k + 1) old was new is
    swept_chosen c = record {
      masks_long = h.masks_long;
      causes_long = h.causes_long;
      masks_rest = λ j m. h.masks_rest j (omega arith);
      causes_rest = λ j m. h.causes_rest j (omega arith);
      swept = h.swept;
      tied = λ other way y m o. ⊎_elim (λ (e : other ≡ k). open_chosen row k (rw e at o) c) (λ (e : other ≡ k → ⊥). h.tied other way y (omega arith) o) (cases_eq other k);
      alive = λ other m o. ⊎_elim (λ (e : other ≡ k). open_chosen row k (rw e at o) c) (λ (e : other ≡ k → ⊥). h.alive other (omega arith) o) (cases_eq other k);
    }

    module _ (o : Open row k) (mask cause : Mask) (s : Shrunk r line x row k (get_or old k no_options) (get_or was k no_options) mask cause) where
      mask_here : get_or (set new k mask) k no_options ≡ mask
      mask_here = get_or-set_same new k mask no_options (let a = h.masks_long in omega arith)

      cause_here : get_or (set is k cause) k no_options ≡ cause
      cause_here = get_or-set_same is k cause no_options (let a = h.causes_long in omega arith)

      mask_other : (j : ℕ) → (j ≡ k → ⊥) → get_or (set new k mask) j no_options ≡ get_or new j no_options
      mask_other j e = get_or-set_other new k j mask no_options e

      cause_other : (j : ℕ) → (j ≡ k → ⊥) → get_or (set is k cause) j no_options ≡ get_or is j no_options
      cause_other j e = get_or-set_other is k j cause no_options e

      -- one open line more
      pub swept_open : Swept r row old was (set new k mask) (set is k cause)
      swept_open = record {
        same = λ j c. ⊎_elim (λ (e : j ≡ k). open_chosen row k o (rw e at c)) (λ (e : j ≡ k → ⊥). mask_other j e ∙ h.swept.same j c) (cases_eq j k);
        fewer = λ j y t. ⊎_elim
            (λ (e : j ≡ k). rw e (s.fewer y (ap (λ (m : Mask). has m y) (sym mask_here) ∙ ap (λ (i : ℕ). has (get_or (set new k mask) i no_options) y) (sym e) ∙ t)))
            (λ (e : j ≡ k → ⊥). h.swept.fewer j y (ap (λ (m : Mask). has m y) (sym (mask_other j e)) ∙ t))
            (cases_eq j k);
        whose = λ j i t. ⊎_elim
            (λ (e : j ≡ k). rw e (s.whose i (ap (λ (c : Mask). has c i) (sym cause_here) ∙ ap (λ (a : ℕ). has (get_or (set is k cause) a no_options) i) (sym e) ∙ t)))
            (λ (e : j ≡ k → ⊥). h.swept.whose j i (ap (λ (c : Mask). has c i) (sym (cause_other j e)) ∙ t))
            (cases_eq j k);
        kept = λ β f spared j m open' agree. ⊎_elim
            (λ (e : j ≡ k).
            let agree' : AgreesOn cause row β = rw cause_here at (rw e at agree) in
            let before : has (get_or old k no_options) (get_or β k 0) ≡ true = spared k l o (λ i t. agree' i (s.more i t)) in
            rw (e, mask_here) (s.why β f agree' before))
            (λ (e : j ≡ k → ⊥). rw (mask_other j e) (h.swept.kept β f spared j m open' (rw (cause_other j e) at agree)))
            (cases_eq j k);
      }

      -- something is left of it
      pub swept_more : (y : ℕ) → has mask y ≡ true → SweptTo r line x row (k + 1) old was (set new k mask) (set is k cause)
      swept_more y t = record {
        masks_long = length-set new k mask ∙ h.masks_long;
        causes_long = length-set is k cause ∙ h.causes_long;
        masks_rest = λ j m. mask_other j (λ e. omega (arith, e)) ∙ h.masks_rest j (omega arith);
        causes_rest = λ j m. cause_other j (λ e. omega (arith, e)) ∙ h.causes_rest j (omega arith);
        swept = swept_open;
        tied = λ other way z m open' leads left. ⊎_elim
            (λ (e : other ≡ k). s.tied way z (rw e at leads) (ap (λ (c : Mask). has c z) (sym mask_here) ∙ rw e at left))
            (λ (e : other ≡ k → ⊥). h.tied other way z (omega arith) open' leads (ap (λ (c : Mask). has c z) (sym (mask_other other e)) ∙ left))
            (cases_eq other k);
        alive = λ other m open'. ⊎_elim
            (λ (e : other ≡ k). (y, rw (e, mask_here) t))
            (λ (e : other ≡ k → ⊥). let a = h.alive other (omega arith) open' in (a.0, rw (mask_other other e) a.1))
            (cases_eq other k);
      }

      -- nothing is left of it: it is the first such line
      pub swept_dead : ((y : ℕ) → has mask y ≡ false) → Dead r line x row (set new k mask) (Err k)
      swept_dead none = (
        l,
        o,
        (λ y. rw mask_here (none y)),
        λ other m open'. (let a = h.alive other m open' in let e : other ≡ k → ⊥ = omega arith in (a.0, rw (mask_other other e) a.1)),
      )

      -- and the sweep ends there
      pub swept_stop : ((y : ℕ) → has mask y ≡ false) → (masks causes : List Mask) → (masks ≡ set new k mask) × (causes ≡ set is k cause) → Swept r row old was masks causes × Dead r line x row masks (Err k)
      swept_stop none masks causes put = rw (put.0, put.1) (swept_open, swept_dead none)

      -- it goes on
      pub swept_on : (y : ℕ) → has mask y ≡ true → (masks causes : List Mask) → (masks ≡ set new k mask) × (causes ≡ set is k cause) → SweptTo r line x row (k + 1) old was masks causes
      swept_on y t masks causes put = rw (put.0, put.1) (swept_more y t)

  -- all lines are swept
  pub swept_all : (k : ℕ) (new is : List Mask) → SweptTo r line x row k old was new is → r.lines ≤ k → Dead r line x row new (Ok tt)
  swept_all k new is h m = (λ other way y l o. h.tied other way y (omega arith) o, λ other l o. h.alive other (omega arith) o)
