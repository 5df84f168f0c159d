use Rattle.std.proofs.Common.{◌≡◌, ◌∷◌, [], ◌++◌, List, ℕ, get_or, length, take, sym, ap, ◌∙◌, arith}
use Rattle.std.proofs.lemmas.List.{length-set, take_more, take_more_set, take_all}
use Rattle.ranking.specs.Lists.{stands, is_list, is_permutation, filled}
use Rattle.ranking.specs.ListLaws.{list_short, list_option}
use Rattle.ranking.specs.Permutations.{filled_permutation}
use Rattle.ranking.proofs.fill.fill_up.Goals as goal
use Rattle.ranking.proofs.fill.fill_up.Goals.{After-loop-place}

pub overflow_cast-row : goal.overflow_cast-row
overflow_cast-row c = let o = list_option c.args.list.now c.requires.list c.loop-place.place 0 c.loop-place-test.true in omega arith

pub bounds-row-place : goal.bounds-row-place
bounds-row-place c = let s = list_short c.args.list.now c.requires.list in omega (arith, c.loop-place-test.true)

pub loop-place-preserved : goal.loop-place-preserved
loop-place-preserved c =
    let list = c.args.list.now in
    let row = c.loop-place.row in
    let place = c.loop-place.place in
    let option = get_or list place 0 in
    let h = c.loop-place.invariant in
    let s = list_short list c.requires.list in (
      length-set row place option ∙ h.0,
      take_more_set row place option (omega (arith, h.0, c.loop-place-test.true)) ∙ ap (λ (ys : List ℕ). ys ++ (option ∷ [])) h.1 ∙ sym (take_more list place 0 c.loop-place-test.true),
    )

-- the row begins with the list
front : (c : After-loop-place) → take (length c.args.list.now) c.loop-place.row ≡ c.args.list.now
front c =
    let list = c.args.list.now in
    let all : c.loop-place.place ≡ length list = omega arith in
    ap (λ (n : ℕ). take n c.loop-place.row) (sym all) ∙ c.loop-place.invariant.1 ∙ take_all c.loop-place.place list (omega arith)

pub complete-requires : goal.complete-requires
complete-requires c =
    record { short = list_short c.args.list.now c.requires.list; list = ap is_list (front c) ∙ c.requires.list; all = λ o. c.requires.all o ∙ ap (stands o) (sym (front c)) }

pub returns : goal.returns
returns c =
    let listed = c.requires.list in
    let same = c.complete.ensures ∙ ap filled (front (goal.at.returns c).After-loop-place) in
    record { row = same; whole = ap is_permutation same ∙ filled_permutation c.args.list.now listed }
