-- Rule-keeping rows of a wall are the rows that fit its network and have free options.
use Rattle.std.proofs.Common.{◌≡◌, ℕ, ◌-◌, ◌<◌, ◌≤◌, Bool, true, false, List, length, get_or, take, Some, None, Option, sym, refl, ap, ◌∙◌, ⊎_elim, arith}
use Rattle.std.proofs.lemmas.Bool.{cases_lt}
use Rattle.std.proofs.lemmas.Bool.Decides.{nat_tests}
use Rattle.std.proofs.lemmas.List.{get_or-take, get_or_past, length-take-le}
use Rattle.masks.specs.declared.Mask.{Mask}
use Rattle.masks.specs.Members.{has}
use Rattle.rows.specs.Rows.{is_row}
use Rattle.rows.proofs.Rows.{row_from, row_length, row_option}
use Rattle.wall.specs.declared.bars.Bars.{Bars}
use Rattle.wall.specs.declared.rule.PairRule.{PairRule}
use Rattle.wall.specs.declared.wall.Wall.{Wall}
use Rattle.wall.specs.Rules.{no_options, is_filed, joins, is_allowed, is_barred}
use Rattle.wall.specs.Plans.{task_of, Keeps}
use Rattle.network.specs.declared.Network.{Network}
use Rattle.network.specs.Ways.{is_from, allows_at, IsNetwork}
use Rattle.forward.specs.Fits.{Leads, Leaves, Fits, rules_of}
use Rattle.start.specs.Starts.{AreFree}

-- a rule that goes from one line to another allows what a row has there
from_allows : (rule : Option PairRule) (β : List ℕ) (line other : ℕ) → is_from rule line other ≡ true → is_allowed rule β ≡ true → allows_at rule (get_or β line 0) (get_or β other 0) ≡ true
from_allows None β line other f a = absurd (cc)
from_allows (Some r) β line other f a =
    let e : r.first ≡ line = grind (arith, nat_tests) in
    let g : r.second ≡ other = grind (arith, nat_tests) in
    cc

module _ (wall : Wall) (bars : Bars) (net : Network) (passes : ℕ → List ℕ → Bool) (before : ℕ → List ℕ → ℕ → ℕ → Bool) (is : IsNetwork wall.rules net.ways net.tables) where
  few : wall.lines ≤ 16
  few = wall.few

  lines : length (take wall.lines wall.counts) ≡ wall.lines
  lines = length-take-le wall.lines wall.counts (let n : length wall.counts ≡ 16 = wall.sixteen in let f = few in omega arith)

  count_at : (line : ℕ) → line < wall.lines → get_or (take wall.lines wall.counts) line 0 ≡ get_or wall.counts line 0
  count_at line l = get_or-take wall.lines wall.counts line 0 l

  small : (line : ℕ) → line < wall.lines → get_or wall.counts line 0 ≤ 16
  small line l = let c = wall.counted line l in grind (arith, nat_tests)

  -- a rule-keeping row fits
  pub keeps_row : (β : List ℕ) → Keeps (task_of wall bars passes before) β → is_row wall.lines β ≡ true
  keeps_row β k = row_from wall.lines β 0 (k.long ∙ lines) (λ line l.
      let a = k.fits line (let e = lines in omega arith) in
      let c = count_at line l in
      let s = small line l in
      omega arith)

  obeys : (β : List ℕ) → Keeps (task_of wall bars passes before) β → (line other way : ℕ) → line < wall.lines → other < wall.lines
      → Leads (rules_of wall.lines net passes) line other way → Leaves (rules_of wall.lines net passes) way (get_or β line 0) (get_or β other 0)
  obeys β k line other way l o h =
      let f = few in
      let row = keeps_row β k in
      let x = row_option wall.lines β row line 0 l in
      let y = row_option wall.lines β row other 0 o in
      let j = is.joined line other way (omega arith) (omega arith) in
      let m : way < 48 = grind (arith, nat_tests) in
      let t = is.left way (get_or β line 0) (get_or β other 0) m x in
      let there = λ (g : is_from (get_or wall.rules way None) line other ≡ true). from_allows (get_or wall.rules way None) β line other g (k.paired way) in
      let back = λ (g : is_from (get_or wall.rules (way - 24) None) other line ≡ true). from_allows (get_or wall.rules (way - 24) None) β other line g (k.paired (way - 24)) in
      grind (arith, nat_tests)

  pub keeps_fits : (β : List ℕ) → Keeps (task_of wall bars passes before) β → Fits (rules_of wall.lines net passes) β
  keeps_fits β k = record { row = keeps_row β k; obeys = obeys β k; passed = ap (λ (n : ℕ). passes n β) (sym lines) ∙ k.passed }

  -- and has free options
  pub keeps_free : (masks : List Mask) → AreFree wall bars masks → (β : List ℕ) → Keeps (task_of wall bars passes before) β → (line : ℕ) → line < wall.lines → has (get_or masks line no_options) (get_or β line 0) ≡ true
  keeps_free masks free β k line l =
      let f = few in
      let e = lines in
      let c = count_at line l in
      let a = k.fits line (omega arith) in
      let b = k.free line (omega arith) in
      let x = row_option wall.lines β (keeps_row β k) line 0 l in
      let g = free line (get_or β line 0) (omega arith) in
      grind (arith, nat_tests)

  -- a row that fits and has free options keeps the rules
  pub fits_keeps : (masks : List Mask) → AreFree wall bars masks → (β : List ℕ) → Fits (rules_of wall.lines net passes) β
      → ((line : ℕ) → line < wall.lines → has (get_or masks line no_options) (get_or β line 0) ≡ true) → Keeps (task_of wall bars passes before) β
  fits_keeps masks free β f within = record {
    long = row_length wall.lines β f.row ∙ sym lines;
    fits = λ line l. (let e = lines in let q = parts line (omega arith) in let c = count_at line (omega arith) in omega (arith, q.0, c));
    free = λ line l. (let e = lines in (parts line (omega arith)).1);
    paired = λ i. paired' i (get_or wall.rules i None) refl;
    passed = ap (λ (n : ℕ). passes n β) lines ∙ f.passed;
  }
    where
      parts : (line : ℕ) → line < wall.lines → (get_or β line 0 < get_or wall.counts line 0) × (is_barred bars.masks line (get_or β line 0) ≡ false)
      parts line l =
          let g = few in
          let h = within line l in
          let p = free line (get_or β line 0) (omega arith) in
          (grind (arith, nat_tests), grind (arith, nat_tests))

      -- a filed rule has a number below 24
      numbered : (i : ℕ) (rule : PairRule) → get_or wall.rules i None ≡ Some rule → i < 24
      numbered i rule e = ⊎_elim (λ (l : i < 24). l)
          (λ (l : 24 ≤ i).
          let n : length wall.rules ≡ 24 = wall.numbers in
          let z = get_or_past wall.rules i None (omega arith) in
          cc)
          (cases_lt i 24)

      paired' : (i : ℕ) (rule : Option PairRule) → get_or wall.rules i None ≡ rule → is_allowed rule β ≡ true
      paired' i None e = refl
      paired' i (Some rule) e =
          let g = few in
          let s = numbered i rule e in
          let j : joins wall.lines rule ≡ true = ap (is_filed wall.lines) (sym e) ∙ wall.filed i in
          let a : rule.first < wall.lines = grind (arith, nat_tests) in
          let b : rule.second < wall.lines = grind (arith, nat_tests) in
          let x = row_option wall.lines β f.row rule.first 0 a in
          let there = is.joined rule.first rule.second i (omega arith) (omega arith) in
          let left = f.obeys rule.first rule.second i a b in
          let perm = is.left i (get_or β rule.first 0) (get_or β rule.second 0) (omega arith) x in
          grind (arith, nat_tests)
