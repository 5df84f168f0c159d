-- Tables of the holds of cards. Assumes nothing.
use Rattle.std.proofs.Common.{◌≡◌, ℕ, ◌<◌, List, [], length, get_or, set, replicate, arith}
use Rattle.std.proofs.lemmas.List.{get_or-replicate, get_or_past}
use Rattle.std.proofs.lemmas.Bool.Decides.{nat_tests}
use Rattle.std.proofs.lemmas.Grind.{common_steps}
use Rattle.house.specs.Loads.{holds_of, OneChanged}

-- no card of a new table needs holds
pub none_held : (n m line option : ℕ) → holds_of (replicate n (replicate m 0)) line option ≡ 0
none_held n m line option = grind (arith, common_steps, get_or-replicate, get_or_past)

-- one figure of a table written
pub one_changed : (counts : List (List ℕ)) (line option figure : ℕ) → line < length counts → option < length (get_or counts line [])
    → OneChanged counts (set counts line (set (get_or counts line []) option figure)) line option figure
one_changed counts line option figure in_lines in_options l o = grind (arith, nat_tests, common_steps)
