-- The network of a wall's rules, one rule after another.
use Rattle.std.proofs.Common.{◌≡◌, ℕ, ◌+◌, ◌-◌, ◌<◌, ◌≤◌, Bool, true, false, cond, ◌&&◌, ◌||◌, eqb, ltb, List, [], length, get_or, take, set, replicate, Some, None, Option, refl, ⊎_elim, arith}
use Rattle.std.proofs.lemmas.Bool.{cases_eq, cases_lt}
use Rattle.std.proofs.lemmas.Bool.Decides.{nat_tests}
use Rattle.std.proofs.lemmas.Grind.{common_steps}
use Rattle.std.proofs.lemmas.List.{get_or-set_same, get_or-set_other, get_or-replicate, get_or-take, get_or_past, length-take}
use Rattle.masks.specs.declared.Mask.{Mask}
use Rattle.masks.specs.Members.{is_option, has}
use Rattle.masks.proofs.Members.{has_option}
use Rattle.wall.specs.declared.rule.PairRule.{PairRule}
use Rattle.wall.specs.Rules.{no_options, is_number, is_filed}
use Rattle.network.specs.declared.ways.WaySet.{WaySet}
use Rattle.network.specs.Ways.{has_way, no_ways, is_from, allows_at, by_way, leads, permits, IsNetwork, RulePut}

-- one way more, between two lines
abbrev pub Marked : ℕ → ℕ → ℕ → List (List WaySet) → List (List WaySet) → Type 0
Marked from to way was is = (line other k : ℕ)
    → has_way (get_or (get_or is line []) other no_ways) k ≡ (has_way (get_or (get_or was line []) other no_ways) k || ((eqb line from && eqb other to) && (ltb k 48 && eqb k way)))

-- one entry of a list written: it has the new facts there, and the old ones elsewhere
pub entry_set : {X : Type 0} (test : X → Bool) (xs : List X) (i : ℕ) (v d : X) (more : Bool) → i < length xs → test v ≡ (test (get_or xs i d) || more)
    → (j : ℕ) → test (get_or (set xs i v) j d) ≡ (test (get_or xs j d) || (eqb j i && more))
entry_set test xs i v d more l h j = grind (arith, nat_tests, common_steps, get_or-set_same, get_or-set_other)

-- a way marked between two lines
pub marked : (ways : List (List WaySet)) (from to way : ℕ) (row : List WaySet) → from < length ways
    → ((m k : ℕ) → has_way (get_or row m no_ways) k ≡ (has_way (get_or (get_or ways from []) m no_ways) k || (eqb m to && (ltb k 48 && eqb k way))))
    → Marked from to way ways (set ways from row)
marked ways from to way row l h line other k = let e = h other k in grind (arith, nat_tests, common_steps, get_or-set_same, get_or-set_other)

-- one way more, from one line to another
pub way_put : (ways : List (List WaySet)) (a b way : ℕ) (w : WaySet) → a < length ways → b < length (get_or ways a [])
    → ((i : ℕ) → has_way w i ≡ (has_way (get_or (get_or ways a []) b no_ways) i || (ltb i 48 && eqb i way)))
    → Marked a b way ways (set ways a (set (get_or ways a []) b w))
way_put ways a b way w l m h = marked ways a b way _ l (λ other i. entry_set (λ (s : WaySet). has_way s i) (get_or ways a []) b w no_ways (ltb i 48 && eqb i way) m (h i) other)

-- both ways of a rule marked
pub both_marked : (k : ℕ) (rule : PairRule) (was mid is : List (List WaySet)) → k < 24 → Marked rule.first rule.second k was mid → Marked rule.second rule.first (24 + k) mid is
    → (line other way : ℕ) → has_way (get_or (get_or is line []) other no_ways) way
    ≡ (has_way (get_or (get_or was line []) other no_ways) way || ((is_from (Some rule) line other && eqb way k) || (is_from (Some rule) other line && eqb way (24 + k))))
both_marked k rule was mid is l h g line other way = let f = h line other way in let b = g line other way in grind (arith, nat_tests)

-- a rule's two ways are in the network
pub rule_put : (k : ℕ) (rule : PairRule) (was mid is : List (List WaySet)) (tables : List (List Mask)) (turned : List Mask) → k < 24 → length tables ≡ 48
    → Marked rule.first rule.second k was mid → Marked rule.second rule.first (24 + k) mid is
    → ((y x : ℕ) → y < 16 → has (get_or turned y no_options) x ≡ (is_option x && has (get_or rule.table x no_options) y))
    → RulePut k rule was is tables (set (set tables k rule.table) (24 + k) turned)
rule_put k rule was mid is tables turned l n h g t = record {
  joined = both_marked k rule was mid is l h g;
  there = λ x. grind (arith, common_steps);
  back = λ x y s. (let e = t x y s in grind (arith, common_steps));
  others = λ way p q. grind (arith, common_steps);
}

-- both ways of a rule more, written one after the other
pub ways_put : (k : ℕ) (rule : PairRule) (ways there : List (List WaySet)) (w v : WaySet) → k < 24 → rule.first < 16 → rule.second < 16 → length ways ≡ 16 → ((line : ℕ) → line < 16 → length (get_or ways line []) ≡ 16)
    → there ≡ set ways rule.first (set (get_or ways rule.first []) rule.second w)
    → ((i : ℕ) → has_way w i ≡ (has_way (get_or (get_or ways rule.first []) rule.second no_ways) i || (ltb i 48 && eqb i k)))
    → ((i : ℕ) → has_way v i ≡ (has_way (get_or (get_or there rule.second []) rule.first no_ways) i || (ltb i 48 && eqb i (24 + k))))
    → Marked rule.first rule.second k ways there × Marked rule.second rule.first (24 + k) there (set there rule.second (set (get_or there rule.second []) rule.first v))
ways_put k rule ways there w v l m n all rows e h g =
    let first = rows rule.first m in
    let second = rows rule.second n in
    let long : length there ≡ 16 = grind (arith, common_steps) in
    let row : length (get_or there rule.second []) ≡ 16 = grind (arith, common_steps) in (
      rw e (way_put ways rule.first rule.second k w (omega arith) (omega arith) h),
      way_put there rule.second rule.first (24 + k) v (omega arith) (omega arith) g,
    )

-- the network of no rules
pub net_none : (w : WaySet) (m : Mask) → ((k : ℕ) → has_way w k ≡ false) → ((k : ℕ) → has m k ≡ false) → IsNetwork [] (replicate 16 (replicate 16 w)) (replicate 48 (replicate 16 m))
net_none w m hw hm = record {
  joined = λ line other way l o. rw (get_or-replicate 16 line (replicate 16 w) [] l, get_or-replicate 16 other w no_ways o) (let e = hw way in grind arith);
  left = λ way x y l s. rw (get_or-replicate 48 way (replicate 16 m) [] l, get_or-replicate 16 x m no_options s) (let e = hm y in grind arith);
}

-- a network knows its rules by their indices
pub net_same : (rs us : List (Option PairRule)) (ways : List (List WaySet)) (tables : List (List Mask)) → ((i : ℕ) → get_or rs i None ≡ get_or us i None) → IsNetwork rs ways tables → IsNetwork us ways tables
net_same rs us ways tables e net = record {
  joined = λ line other way l o. (let h = net.joined line other way l o in let a = e way in let b = e (way - 24) in cc);
  left = λ way x y l s. (let h = net.left way x y l s in let a = e way in let b = e (way - 24) in cc);
}

-- what stands under the first indices
at_front : (rules : List (Option PairRule)) (n i : ℕ) → get_or (take n rules) i None ≡ cond (ltb i n) (get_or rules i None) None
at_front rules n i = grind (arith, nat_tests, common_steps, get_or-take, get_or_past, length-take)

-- one index on, where no rule stands
pub net_skip : (rules : List (Option PairRule)) (k : ℕ) (ways : List (List WaySet)) (tables : List (List Mask)) → get_or rules k None ≡ None → IsNetwork (take k rules) ways tables → IsNetwork (take (k + 1) rules) ways tables
net_skip rules k ways tables e net = net_same (take k rules) (take (k + 1) rules) ways tables same net
  where
    same : (i : ℕ) → get_or (take k rules) i None ≡ get_or (take (k + 1) rules) i None
    same i = grind (arith, nat_tests, at_front)

-- one rule more, and its two ways mean something where they meant nothing
more_by_way : (meaning : Option PairRule → ℕ → ℕ → Bool) → ((a b : ℕ) → meaning None a b ≡ false) → (rules : List (Option PairRule)) (k : ℕ) (rule : PairRule) → k < 24 → get_or rules k None ≡ Some rule → (way a b : ℕ)
    → by_way meaning (take (k + 1) rules) way a b ≡ (by_way meaning (take k rules) way a b || ((meaning (Some rule) a b && eqb way k) || (meaning (Some rule) b a && eqb way (24 + k))))
more_by_way meaning nothing rules k rule l here way a b =
    let n = nothing a b in
    let m = nothing b a in
    ⊎_elim (λ (e : way < 24). grind (arith, nat_tests, at_front)) (λ (e : 24 ≤ way). let i : 24 + (way - 24) ≡ way = omega arith in grind (arith, nat_tests, at_front)) (cases_lt way 24)

-- a set has only options
only_options : (m : Mask) (y : ℕ) → has m y ≡ (is_option y && has m y)
only_options m y = let e = has_option m y in grind (arith, nat_tests)

-- one index on, where a rule stands
pub net_more : (rules : List (Option PairRule)) (k : ℕ) (rule : PairRule) (ways ways' : List (List WaySet)) (tables tables' : List (List Mask)) → k < 24 → get_or rules k None ≡ Some rule
    → IsNetwork (take k rules) ways tables → RulePut k rule ways ways' tables tables' → IsNetwork (take (k + 1) rules) ways' tables'
net_more rules k rule ways ways' tables tables' l here net put = record {
  joined = λ line other way p q.
      rw (put.joined line other way, net.joined line other way p q, more_by_way is_from (λ a b. refl) rules k rule l here way line other)
      (more_in_range way k (leads (take k rules) way line other) (is_from (Some rule) line other) (is_from (Some rule) other line) l);
  left = λ way x y p q. ⊎_elim (at_k way x y) (λ (ne : way ≡ k → ⊥). ⊎_elim (at_back way x y q) (other way x y p q ne) (cases_eq way (24 + k))) (cases_eq way k);
}
  where
    more_in_range : (way k : ℕ) (was a b : Bool) → k < 24 → ((ltb way 48 && was) || ((a && eqb way k) || (b && eqb way (24 + k)))) ≡ (ltb way 48 && (was || ((a && eqb way k) || (b && eqb way (24 + k)))))
    more_in_range way k was a b l = grind (arith, nat_tests)

    at_k : (way x y : ℕ) → way ≡ k → has (get_or (get_or tables' way []) x no_options) y ≡ (is_option y && permits (take (k + 1) rules) way x y)
    at_k way x y e = let h = put.there x in let o = only_options (get_or rule.table x no_options) y in let f = at_front rules (k + 1) k in grind (arith, nat_tests)

    at_back : (way x y : ℕ) → x < 16 → way ≡ 24 + k → has (get_or (get_or tables' way []) x no_options) y ≡ (is_option y && permits (take (k + 1) rules) way x y)
    at_back way x y q e = let h = put.back x y q in let f = at_front rules (k + 1) k in grind (arith, nat_tests)

    other : (way x y : ℕ) → way < 48 → x < 16 → (way ≡ k → ⊥) → (way ≡ 24 + k → ⊥) → has (get_or (get_or tables' way []) x no_options) y ≡ (is_option y && permits (take (k + 1) rules) way x y)
    other way x y p q ne nb = let h = put.others way ne nb in let n = net.left way x y p q in let m = more_by_way allows_at (λ a b. refl) rules k rule l here way x y in grind (arith, nat_tests)

-- the rule that a wall has under an index joins two of its lines
pub rule_lines : (n : ℕ) (rules : List (Option PairRule)) (k : ℕ) (rule : PairRule) → n ≤ 16 → ((i : ℕ) → is_filed n (get_or rules i None) ≡ true) → get_or rules k None ≡ Some rule
    → (rule.first < 16) × (rule.second < 16)
rule_lines n rules k rule few filed e = let f = filed k in (grind (arith, nat_tests), grind (arith, nat_tests))

-- what is asked for under number k + 1 stands at index k
pub at_number : (rules : List (Option PairRule)) (k : ℕ) (r : Option PairRule) → k < 24 → (is_number (k + 1) ≡ true → r ≡ get_or rules (k + 1 - 1) None) → get_or rules k None ≡ r
at_number rules k r l h = let n : is_number (k + 1) ≡ true = grind (arith, nat_tests) in let e = h n in grind arith
