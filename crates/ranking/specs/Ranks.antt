-- Lists in which no option is missing make a ranking.
use Rattle.std.specs.Prelude.{◌≡◌, ℕ, ◌<◌, ◌≤◌, Bool, true, false, not, ◌&&◌, ltb, List, ◌≢◌, nat_lt, slice_index_or}
use Rattle.std.proofs.Common.{sym, ap, ap₂, ◌∙◌, ⊎_elim, arith}
use Rattle.std.proofs.lemmas.List.{get_or_past}
use Rattle.std.proofs.lemmas.Bool.Decides.{nat_tests}
use Rattle.std.proofs.lemmas.Bool.{cases_lt, both_ways, ltb-true, and_parts, and_from, and_right, le-ltb, lt-ltb}
use Rattle.masks.specs.Members.{is_option}
use Rattle.rows.specs.Rows.{is_row}
use Rattle.rows.proofs.Rows.{row_length, row_option}
use Rattle.ranking.specs.declared.condition.Parent.{Parent}
use Rattle.ranking.specs.declared.condition.Parent.TheVariants.{Unsettled, Alone, Line}
use Rattle.ranking.specs.Conditions.{option_under, slot}
use Rattle.ranking.specs.Lists.{is_permutation, place_in, are_places}
use Rattle.ranking.specs.Orders.{is_line, is_under, is_asked, IsRanking, ArePlacesOf, by_lists}
use Rattle.ranking.specs.Permutations.{place_same, place_below, places_at}

-- what is asked: a line below sixteen, the entries above it, and two options
pub asked_parts : (line : ℕ) (above : List ℕ) (a b : ℕ) → is_asked line above a b ≡ true → (is_under line above ≡ true) × (a < 16) × (b < 16)
asked_parts line above a b h =
    let p = and_parts (is_under line above) (is_option a && is_option b) h in
    let q = and_parts (is_option a) (is_option b) p.1 in
    (p.0, ltb-true a 16 q.0, ltb-true b 16 q.1)

pub asked_from : (line : ℕ) (above : List ℕ) (a b : ℕ) → is_under line above ≡ true → a < 16 → b < 16 → is_asked line above a b ≡ true
asked_from line above a b u l m = and_from (is_under line above) (is_option a && is_option b) u (and_from (is_option a) (is_option b) (lt-ltb a 16 l) (lt-ltb b 16 m))

pub under_parts : (line : ℕ) (above : List ℕ) → is_under line above ≡ true → (line < 16) × (is_row line above ≡ true)
under_parts line above h = let p = and_parts (is_line line) (is_row line above) h in (ltb-true line 16 p.0, p.1)

pub under_from : (line : ℕ) (above : List ℕ) → line < 16 → is_row line above ≡ true → is_under line above ≡ true
under_from line above l h = and_from (is_line line) (is_row line above) (lt-ltb line 16 l) h

pub ranks_by_lists : (in_force : ℕ → List ℕ → List ℕ) → ((line : ℕ) (above : List ℕ) → is_under line above ≡ true → is_permutation (in_force line above) ≡ true) → IsRanking (by_lists in_force)
ranks_by_lists in_force whole = record { asked = asked'; never = never'; one = one'; through = through' }
  where
    place : ℕ → List ℕ → ℕ → ℕ
    place line above o = place_in o (in_force line above)

    asked' : (line : ℕ) (above : List ℕ) (a b : ℕ) → by_lists in_force line above a b ≡ true → is_asked line above a b ≡ true
    asked' line above a b h = (and_parts (is_asked line above a b) (nat_lt (place line above a) (place line above b)) h).0

    never' : (line : ℕ) (above : List ℕ) (a : ℕ) → by_lists in_force line above a a ≡ false
    never' line above a = and_right (is_asked line above a a) (nat_lt (place line above a) (place line above a)) (le-ltb _ _ (omega arith))

    one' : (line : ℕ) (above : List ℕ) (a b : ℕ) → is_asked line above a b ≡ true → (a ≢ b) → by_lists in_force line above a b ≡ not (by_lists in_force line above b a)
    one' line above a b h ne =
        let p = asked_parts line above a b h in
        let back : is_asked line above b a ≡ true = asked_from line above b a p.0 p.2 p.1 in
        let apart : place line above a ≡ place line above b → ⊥ = λ e. ne (place_same (in_force line above) a b (whole line above p.0) p.1 p.2 e) in
        let turned : ltb (place line above a) (place line above b) ≡ not (nat_lt (place line above b) (place line above a)) = grind (arith, nat_tests) in
        ap (λ (t : Bool). t && nat_lt (place line above a) (place line above b)) h ∙ turned
        ∙ sym (ap (λ (t : Bool). not (t && nat_lt (place line above b) (place line above a))) back)

    through' : (line : ℕ) (above : List ℕ) (a b c : ℕ) → by_lists in_force line above a b ≡ true → by_lists in_force line above b c ≡ true → by_lists in_force line above a c ≡ true
    through' line above a b c h g =
        let p = and_parts (is_asked line above a b) (nat_lt (place line above a) (place line above b)) h in
        let q = and_parts (is_asked line above b c) (nat_lt (place line above b) (place line above c)) g in
        let s = asked_parts line above a b p.0 in
        let t = asked_parts line above b c q.0 in
        let u = ltb-true _ _ p.1 in
        let v = ltb-true _ _ q.1 in
        and_from (is_asked line above a c) (nat_lt (place line above a) (place line above c)) (asked_from line above a c s.0 s.1 t.2) (lt-ltb _ _ (omega arith))

-- the places in the list in force rise as the ranking orders the options
pub places_by_lists : (in_force : ℕ → List ℕ → List ℕ) (line : ℕ) (above places : List ℕ) → is_under line above ≡ true → is_permutation (in_force line above) ≡ true → are_places 16 places (in_force line above) ≡ true
    → ArePlacesOf (by_lists in_force) line above places
places_by_lists in_force line above places u h p =
    let row = in_force line above in
    let at = places_at 16 places row p in
    record {
      rise = λ a b q. (let s = asked_parts line above a b q in ap (λ (t : Bool). t && nat_lt (place_in a row) (place_in b row)) q ∙ sym (ap₂ ltb (at a s.1) (at b s.2)));
      small = λ a l. rw (at a l) (place_below row a h l);
      none = λ a q. absurd (both_ways (is_under line above) q u);
    }

-- the parent's entry is an option
pub option_under_small : (parent : Parent) (line : ℕ) (above : List ℕ) → is_row line above ≡ true → option_under parent above < 16
option_under_small Unsettled line above h = omega arith
option_under_small Alone line above h = omega arith
option_under_small (Line p) line above h =
    let n = row_length line above h in
    ⊎_elim (λ (l : p < line). row_option line above h p 0 l)
    (λ (l : line ≤ p). let z : slice_index_or above p 0 ≡ 0 = get_or_past above p 0 (omega arith) in omega arith)
    (cases_lt p line)

-- the list in force is one of the 256
pub slot_below : (parent : Parent) (line : ℕ) (above : List ℕ) → is_under line above ≡ true → slot line (option_under parent above) < 256
slot_below parent line above h = let p = under_parts line above h in let o = option_under_small parent line above p.1 in omega arith
