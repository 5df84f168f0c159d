use Rattle.std.proofs.Common.{◌≡◌, ◌+◌, ◌<◌, ◌≤◌, length, get_or, sym, ◌∙◌, ap, arith}
use Rattle.std.specs.Ordering.{is_lt, is_some_and}
use Rattle.std.proofs.lemmas.List.{get_or_read}
use Rattle.order.specs.Firsts.{before_by}
use Rattle.order.proofs.Firsts.{takes, keeps, first_whole, behind_head}
use Rattle.order.proofs.Laws.{never, asym, ahead}
use Rattle.order.proofs.first_of.Goals as goal
use Rattle.order.proofs.first_of.Goals.{then-lt, else-lt}

pub loop-i-preserved : goal.loop-i-preserved
loop-i-preserved g c =
    let o = g.met.T.Ord.total in
    let b = before_by g.T.Ord.cmp in
    let group = c.args.group.now in
    let i = c.loop-i.i in
    let f = c.loop-i.first in
    let x = c.index-rest-i.result in
    let y = c.loop-i.best.now in
    let parts = c.in_ok-best.ensures.cases in
    let within : i + 1 < length group = (let m = parts.1 in let l = c.loop-i-test.true in omega arith) in
    let here : (d : _) → x ≡ get_or group (i + 1) d = λ d. behind_head group c.in_ok-best.rest.now c.in_ok-best.best.now x d i parts.0 (get_or_read c.in_ok-best.rest.now i x c.loop-i-test.true c.index-rest-i.is d) in
    let less = ap (is_some_and is_lt) (sym (g.met.T.Ord.matches_partial_cmp x y)) ∙ sym c.lt.ensures in
    elim c.if-lt.branch [
      | then-lt w ↦
          record { found = rw w.first-is (takes b (never o) (asym o) (ahead o) group (i + 1) f x y within (here x) (c.loop-i.invariant.best y) c.loop-i.invariant.found (less ∙ w.if-lt.true)); best = λ d. rw (w.best-is, w.first-is) (here d) }
      | else-lt w ↦
          record { found = rw w.first-is (keeps b (never o) (asym o) (ahead o) group (i + 1) f x y within (here x) (c.loop-i.invariant.best y) c.loop-i.invariant.found (less ∙ w.if-lt.false)); best = λ d. rw (w.best-is, w.first-is) (c.loop-i.invariant.best d) }
    ]

pub returns : goal.returns
returns g c =
    let o = g.met.T.Ord.total in
    let group = c.args.group.now in
    let parts = c.in_ok-best.ensures.cases in
    let some : length group ≤ c.loop-i.i + 1 = (let m = parts.1 in let l = c.loop-i-test.false in omega arith) in
    let all : c.loop-i.i + 1 ≤ length group = (let m = parts.1 in let l = c.loop-i.auto.i-end in omega arith) in
    first_whole (before_by g.T.Ord.cmp) (never o) (asym o) (ahead o) group (c.loop-i.i + 1) c.loop-i.first some all c.loop-i.invariant.found
