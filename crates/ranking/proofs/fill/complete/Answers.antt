use Rattle.std.proofs.Common.{◌≡◌, ℕ, ◌<◌, true, false, List, ◌++◌, length, take, sym, ap, ◌∙◌, arith, rules}
use Rattle.std.proofs.lemmas.List.{append-nil, length-set, length-take-le}
use Rattle.ranking.specs.Lists.{stands, missing}
use Rattle.ranking.specs.ListLaws.{missing_none, room}
use Rattle.ranking.proofs.Filling.{complete_old, complete_new, complete_all}
use Rattle.ranking.proofs.fill.complete.Goals as goal
use Rattle.ranking.proofs.fill.complete.Goals.{then-not-has, else-not-has}

pub loop-option-init : goal.loop-option-init
loop-option-init c =
    let xs = take c.args.count c.args.row in
    let none : length (missing 0 xs) ≡ 0 = ap length (missing_none xs) in
    (search rules, omega arith, sym (ap (λ (t : List ℕ). xs ++ t) (missing_none xs) ∙ append-nil xs))

pub bounds-row-end : goal.bounds-row-end
bounds-row-end c =
    let xs = take c.args.count c.args.row in
    let new : stands c.loop-option.option xs ≡ false = sym (c.requires.all c.loop-option.option) ∙ sym c.if-not-has.ensures in
    let len : length xs ≡ c.args.count = length-take-le c.args.count c.args.row (search rules) in
    let r = room xs c.loop-option.option c.requires.list c.loop-option-test.true new in
    let e = c.loop-option.invariant.1 in
    omega arith

pub overflow_add-end : goal.overflow_add-end
overflow_add-end c = let h = bounds-row-end c in search rules

pub loop-option-preserved : goal.loop-option-preserved
loop-option-preserved c =
    let xs = take c.args.count c.args.row in
    let o = c.loop-option.option in
    let row = c.loop-option.row in
    let end = c.loop-option.end in
    let h = c.loop-option.invariant in
    elim c.if-not-has.branch [
      | then-not-has w ↦
          let new : stands o xs ≡ false = sym (c.requires.all o) ∙ sym w.if-not-has.ensures in
          let len : length xs ≡ c.args.count = length-take-le c.args.count c.args.row (search rules) in
          let r = room xs o c.requires.list c.loop-option-test.true new in
          let e = h.1 in
          let n = h.0 in
          let within : end < length row = omega arith in
          let s = complete_new xs row o c.args.count end within new h.1 h.2 in
          rw (w.row-is, w.end-is) (length-set row end o ∙ h.0, s.0, s.1)
      | else-not-has w ↦
          let old : stands o xs ≡ true = sym (c.requires.all o) ∙ sym w.if-not-has.ensures in
          let s = complete_old xs row o c.args.count end old h.1 h.2 in
          rw (w.row-is, w.end-is) (h.0, s.0, s.1)
    ]

pub returns : goal.returns
returns c =
    let xs = take c.args.count c.args.row in
    let len : length xs ≡ c.args.count = length-take-le c.args.count c.args.row (search rules) in
    let all : c.loop-option.option ≡ 16 = omega arith in
    let h = c.loop-option.invariant in
    complete_all xs c.loop-option.row c.args.count c.loop-option.end c.requires.list h.0 len (rw all at h.1) (rw all at h.2)
