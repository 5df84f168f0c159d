use Rattle.std.proofs.Common.{rules, Bool, ◌&&◌, sym, ap, ◌∙◌, length}
use Rattle.std.specs.List.{list_all}
use Rattle.std.proofs.lemmas.Bool.{eq-eqb}
use Rattle.std.proofs.lemmas.Iterator.{YieldsList-from_slice}
use Rattle.std.proofs.lemmas.Iterator.Search.{all_from_yields_List}
use Rattle.masks.specs.Members.{is_option}
use Rattle.rows.proofs.is_row.Goals as goal

pub returns-then-row-n : goal.returns-then-row-n
returns-then-row-n c =
    all_from_yields_List is_option _ _ _ c.all.ensures.ran (YieldsList-from_slice c.args.row.now cc) (λ x b q k. search rules)
    ∙ sym (ap (λ (b : Bool). b && list_all is_option c.args.row.now) (eq-eqb (length c.args.row.now) c.args.n c.if-row-n.true))
