use Rattle.std.proofs.Common.{◌∙◌, arith}
use Rattle.std.proofs.lemmas.List.{length-set}
use Rattle.ranking.specs.Permutations.{option_at}
use Rattle.ranking.proofs.Filling.{place_more, place_all}
use Rattle.ranking.proofs.fill.places_in.Goals as goal

pub bounds-places-from : goal.bounds-places-from
bounds-places-from c = rw c.from.ensures (option_at c.args.row.now c.loop-place.place c.requires c.loop-place-test.true)

pub loop-place-preserved : goal.loop-place-preserved
loop-place-preserved c =
    let h = c.loop-place.invariant in
    rw c.from.ensures (length-set c.loop-place.places _ c.loop-place.place ∙ h.0, place_more c.args.row.now c.loop-place.places c.loop-place.place c.requires h.0 c.loop-place-test.true h.1)

pub returns : goal.returns
returns c = place_all c.args.row.now c.loop-place.places c.requires (λ j l. c.loop-place.invariant.1 j (omega arith))
