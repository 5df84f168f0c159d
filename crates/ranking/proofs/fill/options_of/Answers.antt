use Rattle.std.proofs.Common.{get_or, refl, sym, ◌∙◌}
use Rattle.ranking.specs.ListLaws.{list_nil, stands_none}
use Rattle.ranking.proofs.Filling.{no_option, twice, list_more, set_more}
use Rattle.ranking.proofs.fill.options_of.Goals as goal
use Rattle.ranking.proofs.fill.options_of.Goals.{then-number-ge16-via-then-number-ge16, then-number-ge16-via-else-number-ge16+then-has}

pub loop-number-init : goal.loop-number-init
loop-number-init c = (list_nil, λ o. c.none-options.ensures o ∙ sym (stands_none o))

pub returns-then-number-ge16-clause-refused : goal.returns-then-number-ge16-clause-refused
returns-then-number-ge16-clause-refused c =
    let list = c.args.list.now in
    let i = c.loop-number.number-index in
    elim c.then-number-ge16.branch [
      | then-number-ge16-via-then-number-ge16 w ↦ (no_option list i c.loop-number-test.true w.if-number-ge16.true, refl)
      | then-number-ge16-via-else-number-ge16+then-has w ↦ (twice list i c.loop-number-test.true (sym (c.loop-number.invariant.1 _) ∙ sym w.if-has.ensures), refl)
    ]

pub loop-number-preserved : goal.loop-number-preserved
loop-number-preserved c =
    let list = c.args.list.now in
    let i = c.loop-number.number-index in
    let new = sym (c.loop-number.invariant.1 (get_or list i 0)) ∙ sym c.if-has.ensures in (
      list_more list i c.loop-number-test.true c.loop-number.invariant.0 c.if-number-ge16.false new,
      set_more list i c.loop-number-test.true c.loop-number.options c.with-options.result c.loop-number.invariant.1 c.with-options.ensures c.if-number-ge16.false,
    )
