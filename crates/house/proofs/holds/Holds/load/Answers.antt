-- A chosen line adds the holds of its card, of which there are few, and an open line nothing.
use Rattle.std.proofs.Common.{◌≡◌, ℕ, ◌+◌, List, slice_index, refl, add-one, arith}
use Rattle.std.proofs.lemmas.Bool.Decides.{nat_tests}
use Rattle.house.specs.Loads.{share, load}
use Rattle.house.proofs.holds.Holds.load.Goals as goal

-- one line more
load_more : (counts : List (List ℕ)) (row : List ℕ) (k : ℕ) → load counts row (k + 1) ≡ load counts row k + share counts row k
unfolding load
load_more counts row k = rw add-one refl

pub loop-line-init : goal.loop-line-init
unfolding load
loop-line-init c = (refl, omega arith)

pub loop-line-preserved : goal.loop-line-preserved
loop-line-preserved c =
    let x = c.args.self.now in
    let more = load_more x.counts c.args.row.now c.loop-line.line in
    let few = x.few c.loop-line.line (slice_index c.args.row.now c.loop-line.line) in
    grind (arith, nat_tests)
