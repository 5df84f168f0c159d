-- A choice put on its line, and the forward check after it.
use Rattle.std.proofs.Common.{◌≡◌, ℕ, ◌<◌, ◌≤◌, true, false, ◌&&◌, eqb, ltb, leb, List, length, get_or, set, Ok, Err, Result, MatchResult, refl, sym, ap, ◌∙◌, subst, ⊎_elim, arith}
use Rattle.std.proofs.lemmas.List.{get_or-set_same, get_or-set_other}
use Rattle.std.proofs.lemmas.Bool.{both_ways, and_parts, and_from, and_right, cases_Bool, leb-true, ltb-true, lt-ltb, eqb-true, ne_eqb}
use Rattle.masks.specs.declared.Mask.{Mask}
use Rattle.masks.specs.Members.{is_option, has}
use Rattle.rows.specs.Rows.{is_open}
use Rattle.wall.specs.Rules.{no_options}
use Rattle.forward.specs.Fits.{Rules, Chosen, Open}
use Rattle.forward.specs.Causes.{Swept, Dead, is_choice}
use Rattle.choices.specs.Steps.{Narrowed, Stuck}

-- an option is not open
pub option_chosen : (row : List ℕ) (line : ℕ) → get_or row line 0 < 16 → Chosen row line
option_chosen row line small = ne_eqb (get_or row line 0) 255 (λ e. omega arith)

pub chosen_not_open : (row : List ℕ) (line : ℕ) → Chosen row line → Open row line → ⊥
chosen_not_open row line c o = both_ways (is_open (get_or row line 0)) c o

-- what a choice is
pub choice_parts : (n : ℕ) (row : List ℕ) (line x : ℕ) → is_choice n row line x ≡ true → (n ≤ 16) × (line < n) × (x < 16) × (get_or row line 0 ≡ x)
choice_parts n row line x h =
    let p = and_parts (leb n 16 && ltb line n) (is_option x && eqb (get_or row line 0) x) h in
    let a = and_parts (leb n 16) (ltb line n) p.0 in
    let b = and_parts (is_option x) (eqb (get_or row line 0) x) p.1 in
    (leb-true n 16 a.0, ltb-true line n a.1, ltb-true x 16 b.0, eqb-true (get_or row line 0) x b.1)

module _ (r : Rules) (row : List ℕ) (line x : ℕ) (o : Mask) (old was new is : List Mask) (choice : is_choice r.lines row line x ≡ true) (long : length old ≡ 16)
    (one : (y : ℕ) → has o y ≡ (is_option y && eqb y x)) (swept : Swept r row (set old line o) was new is) where
  here : Chosen row line
  here = let c = choice_parts r.lines row line x choice in option_chosen row line (omega (arith, c.2, c.3))

  at_line : get_or new line no_options ≡ o
  at_line = let c = choice_parts r.lines row line x choice in swept.same line here ∙ get_or-set_same old line o no_options (omega (arith, c.0, c.1, long))

  off : (l : ℕ) → (l ≡ line → ⊥) → get_or (set old line o) l no_options ≡ get_or old l no_options
  off l ne = get_or-set_other old line l o no_options ne

  only : (y : ℕ) → has (get_or new line no_options) y ≡ eqb y x
  only y = ap (λ (m : Mask). has m y) at_line ∙ one y ∙ small
    where
      small : (is_option y && eqb y x) ≡ eqb y x
      small = ⊎_elim
          (λ (e : eqb y x ≡ true). let c = choice_parts r.lines row line x choice in and_from (is_option y) (eqb y x) (lt-ltb y 16 (omega (arith, c.2, eqb-true y x e))) e ∙ sym e)
          (λ (e : eqb y x ≡ false). and_right (is_option y) (eqb y x) e ∙ sym e)
          (cases_Bool (eqb y x))

  pub narrowed : Narrowed r row line x old was new is
  narrowed = record {
    only = only;
    same = λ l ne c. swept.same l c ∙ off l ne;
    fewer = λ l y ne left. subst (λ (m : Mask). has m y ≡ true) (off l ne) (swept.fewer l y left);
    whose = swept.whose;
    kept = λ β fits spared. swept.kept β fits (λ l h open' on.
        subst (λ (m : Mask). has m (get_or β l 0) ≡ true) (sym (off l (λ e. chosen_not_open row line here (subst (Open row) e open')))) (spared l h open' on));
  }

-- the causes of the dead line as the error
pub stuck_by : (r : Rules) (line x : ℕ) (row : List ℕ) (masks causes : List Mask) (a : Result (Unit {0}) ℕ) (b : Result (Unit {0}) Mask)
    → MatchResult a (λ _. b ≡ Ok tt) (λ dead. b ≡ Err (get_or causes dead no_options)) → Dead r line x row masks a → Stuck r line x row masks causes b
stuck_by r line x row masks causes (Ok _) b e h = rw e h
stuck_by r line x row masks causes (Err dead) b e h = rw e (dead, h, refl)
