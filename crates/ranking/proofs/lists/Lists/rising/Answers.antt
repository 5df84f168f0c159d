use Rattle.std.proofs.Common.{refl}
use Rattle.std.proofs.lemmas.List.{get_or-replicate}
use Rattle.ranking.specs.Lists.{stands, is_list, is_permutation, missing, filled, place_in, are_places}
use Rattle.ranking.proofs.lists.Lists.rising.Goals as goal

pub invariant_of-result : goal.invariant_of-result
unfolding stands is_list is_permutation missing filled place_in are_places
invariant_of-result g c = record { whole = λ k l. rw (get_or-replicate g.row.N k _ _ l) refl; placed = λ k l. rw (get_or-replicate g.row.N k _ _ l) refl }

pub returns : goal.returns
unfolding stands is_list is_permutation missing filled place_in
returns g c k l = get_or-replicate g.row.N k _ _ l
