use Rattle.std.proofs.Common.{◌≡◌, ℕ, ◌<◌, ◌≤◌, List, length, take, get_or, set, sym, ◌∙◌, arith}
use Rattle.std.proofs.lemmas.List.{length-take-le, get_or-take}
use Rattle.std.proofs.lemmas.Bool.{eq-eqb, ne_eqb, both_ways}
use Rattle.masks.specs.declared.Mask.{Mask}
use Rattle.masks.proofs.Members.{some_option}
use Rattle.wall.specs.Rules.{no_options}
use Rattle.forward.specs.Fits.{Rules, Open, Chosen, rules_of}
use Rattle.forward.specs.declared.Level.{Level}
use Rattle.forward.specs.declared.Share.{Share}
use Rattle.forward.specs.Causes.{Shrunk}
use Rattle.forward.proofs.Sweeping.{SweptTo, ruling_more, ruling_all, shrunk_settled, shrunk_empty, swept_chosen, swept_on, swept_stop}
use Rattle.forward.proofs.Rulebook.sweep.Goals as goal
use Rattle.forward.proofs.Rulebook.sweep.Goals.{then-entry+in-None+else-is_empty-2, else-entry}

-- what is left of an open line, told of the masks and causes as they were at first
at_first : (r : Rules) (line x : ℕ) (row : List ℕ) (k : ℕ) (was new : Level) (left causes mask cause : Mask) → SweptTo r line x row k was.masks was.causes new.masks new.causes
    → (left ≡ get_or new.masks k no_options) × (causes ≡ get_or new.causes k no_options)
    → Shrunk r line x row k left causes mask cause → Shrunk r line x row k (get_or was.masks k no_options) (get_or was.causes k no_options) mask cause
at_first r line x row k was new left causes mask cause h e s = rw (← h.masks_rest k (omega arith), ← h.causes_rest k (omega arith), ← e.0, ← e.1) s

-- what is written is told of the level before the loop over the ways
written : (now' before : Level) (masks causes : List Mask) (k : ℕ) (share : Share) → now' ≡ before → (masks ≡ set now'.masks k share.left) × (causes ≡ set now'.causes k share.causes)
    → (masks ≡ set before.masks k share.left) × (causes ≡ set before.causes k share.causes)
written now' before masks causes k share e h = rw e at h

-- a line that the loop comes to
line_of : (n k : ℕ) (row : List ℕ) → n ≤ 16 → length row ≡ 16 → k < length (take n row) → k < n
line_of n k row few sixteen l = let e = length-take-le n row (omega arith) in omega arith

open_at : (n k : ℕ) (row : List ℕ) → k < n → get_or (take n row) k 0 ≡ 255 → Open row k
open_at n k row l h = eq-eqb (get_or row k 0) 255 (sym (get_or-take n row k 0 l) ∙ h)

chosen_at : (n k : ℕ) (row : List ℕ) → k < n → (get_or (take n row) k 0 ≡ 255 → ⊥) → Chosen row k
chosen_at n k row l h = ne_eqb (get_or row k 0) 255 (λ e. h (get_or-take n row k 0 l ∙ e))

pub loop-way-preserved : goal.loop-way-preserved
loop-way-preserved g c =
    let self = c.args.self.now in
    let r = rules_of self.lines self.net.now (g.H.HouseRule.passing self.house.now) in
    let l = line_of self.lines c.loop-other.other c.args.row.now c.requires.few c.told-row c.loop-other-test.true in
    let h = c.loop-way.invariant in
    let s = c.in-Some.ensures.steps in (
      h.0,
      ruling_more r c.args.choice.line c.args.choice.option c.loop-other.other c.requires.line l c.requires.few c.requires.option c.share-was.result.left
          c.loop-way.ruled c.both-ruled.result c.left.result c.loop-way.way-iterator.rest c.next.new.self.rest c.in-Some.way h.1 s.0 s.1 c.left.ensures c.both-ruled.ensures,
    )

pub loop-other-preserved : goal.loop-other-preserved
loop-other-preserved g c =
    let self = c.args.self.now in
    let r = rules_of self.lines self.net.now (g.H.HouseRule.passing self.house.now) in
    let line = c.args.choice.line in
    let row = c.args.row.now in
    let x = c.args.choice.option in
    let was = c.args.level.now in
    let k = c.loop-other.other in
    let l = line_of self.lines k row c.requires.few c.told-row c.loop-other-test.true in
    let new = c.loop-other.level in
    let h = c.loop-other.invariant in
    elim c.if-entry.branch [
      | then-entry+in-None+else-is_empty-2 w ↦
          let share = w.settle-share.result in
          let ruled = ruling_all r line x k c.requires.line l c.requires.few c.requires.option w.share-was.result.left w.loop-way.ruled w.loop-way.way-iterator.rest w.loop-way.invariant.1 w.in-None.ensures.steps.0 in
          let s = at_first r line x row k was new w.share-was.result.left w.share-was.result.causes share.left share.causes h w.share-was.ensures
          (shrunk_settled r line x k c.requires.line l c.requires.few c.requires.option w.share-was.result.left row c.requires.chosen w.share-was.result.causes w.loop-way.ruled share.left share.causes ruled w.settle-share.ensures) in
          let some = some_option share.left (λ f. both_ways w.is_empty-then-entry.result w.if-is_empty-2.false (w.is_empty-then-entry.ensures.1 f)) in
          rw w.level-is (swept_on r line x row was.masks was.causes c.requires.few k l new.masks new.causes h (open_at self.lines k row l w.if-entry.true) share.left share.causes s some.0 some.1 _ _
          (written w.loop-way.level new _ _ k share w.loop-way.invariant.0 w.put-then-entry.ensures))
      | else-entry w ↦
          rw w.level-is (swept_chosen r line x row was.masks was.causes c.requires.few k l new.masks new.causes h (chosen_at self.lines k row l w.if-entry.false))
    ]

pub returns-then-is_empty : goal.returns-then-is_empty
returns-then-is_empty g c =
    let self = c.args.self.now in
    let r = rules_of self.lines self.net.now (g.H.HouseRule.passing self.house.now) in
    let line = c.args.choice.line in
    let row = c.args.row.now in
    let x = c.args.choice.option in
    let was = c.args.level.now in
    let k = c.loop-other.other in
    let l = line_of self.lines k row c.requires.few c.told-row c.loop-other-test.true in
    let new = c.loop-other.level in
    let h = c.loop-other.invariant in
    let d = c.in-Some.ensures.steps in
    let left = c.share-was.result.left in
    let none = c.is_empty.ensures.0 c.if-is_empty.true in
    let more = ruling_more r line x k c.requires.line l c.requires.few c.requires.option left c.loop-way.ruled c.both-ruled.result c.left.result c.loop-way.way-iterator.rest c.next.new.self.rest c.in-Some.way
    c.loop-way.invariant.1 d.0 d.1 c.left.ensures c.both-ruled.ensures in
    let s = at_first r line x row k was new left c.share-was.result.causes c.both-ruled.result c.with-causes.result h c.share-was.ensures
    (shrunk_empty r line x k c.requires.line l c.requires.few c.requires.option left row c.requires.chosen c.share-was.result.causes c.both-ruled.result c.with-causes.result c.next.new.self.rest more none c.with-causes.ensures) in
    swept_stop r line x row was.masks was.causes c.requires.few k l new.masks new.causes h (open_at self.lines k row l c.if-entry.true) c.both-ruled.result c.with-causes.result s none _ _
    (written c.loop-way.level new _ _ k (record { left = c.both-ruled.result; causes = c.with-causes.result }) c.loop-way.invariant.0 c.put.ensures)

pub returns-then-is_empty-2 : goal.returns-then-is_empty-2
returns-then-is_empty-2 g c =
    let self = c.args.self.now in
    let r = rules_of self.lines self.net.now (g.H.HouseRule.passing self.house.now) in
    let line = c.args.choice.line in
    let row = c.args.row.now in
    let x = c.args.choice.option in
    let was = c.args.level.now in
    let k = c.loop-other.other in
    let l = line_of self.lines k row c.requires.few c.told-row c.loop-other-test.true in
    let new = c.loop-other.level in
    let h = c.loop-other.invariant in
    let share = c.settle-share.result in
    let left = c.share-was.result.left in
    let ruled = ruling_all r line x k c.requires.line l c.requires.few c.requires.option left c.loop-way.ruled c.loop-way.way-iterator.rest c.loop-way.invariant.1 c.in-None.ensures.steps.0 in
    let s = at_first r line x row k was new left c.share-was.result.causes share.left share.causes h c.share-was.ensures
    (shrunk_settled r line x k c.requires.line l c.requires.few c.requires.option left row c.requires.chosen c.share-was.result.causes c.loop-way.ruled share.left share.causes ruled c.settle-share.ensures) in
    swept_stop r line x row was.masks was.causes c.requires.few k l new.masks new.causes h (open_at self.lines k row l c.if-entry.true) share.left share.causes s (c.is_empty-then-entry.ensures.0 c.if-is_empty-2.true) _ _
    (written c.loop-way.level new _ _ k share c.loop-way.invariant.0 c.put-then-entry.ensures)
