-- What a search begins with: the options of each line that are not barred.
use Rattle.std.specs.Prelude.{◌≡◌, ℕ, ◌<◌, ◌≤◌, Bool, not, ◌&&◌, List, nat_lt, slice_index, slice_index_or}
use Rattle.masks.specs.declared.Mask.{Mask}
use Rattle.masks.specs.Members.{is_option, has}
use Rattle.wall.specs.declared.bars.Bars.{Bars}
use Rattle.wall.specs.declared.wall.Wall.{Wall}
use Rattle.wall.specs.Rules.{no_options, is_barred}
use Rattle.network.specs.Ways.{IsNetwork}
use Rattle.forward.specs.Fits.{Rules, Leads, Leaves}
use Rattle.start.specs.declared.problem.Problem.{Problem}

-- an option of a line of the wall that is not barred
abbrev pub is_free : Wall → Bars → ℕ → ℕ → Bool
is_free wall bars line o = (nat_lt line wall.lines && (is_option o && nat_lt o (slice_index wall.counts line))) && not (is_barred bars.masks line o)

-- the free options of each line
abbrev pub AreFree : Wall → Bars → List Mask → Type 0
AreFree wall bars masks = (line o : ℕ) → line < 16 → has (slice_index_or masks line no_options) o ≡ is_free wall bars line o

-- the problem of a wall and its bars: its lines, their free options, and its pair rules as ways
abbrev pub IsProblem : Wall → Bars → Problem → Type 0
IsProblem wall bars p = (p.lines ≡ wall.lines) × AreFree wall bars p.free × IsNetwork wall.rules p.net.ways p.net.tables

-- rules that can be followed either way: at most sixteen lines, none joined to itself, and to each way one back that leaves no more
pub record Sound (r : Rules) : Type 0 where
  pub few : r.lines ≤ 16
  pub apart : (line way : ℕ) → line < r.lines → Leads r line line way → ⊥
  pub back : (line other way : ℕ) → line < r.lines → other < r.lines → Leads r line other way
      → (turn : ℕ) × Leads r other line turn × ((x y : ℕ) → x < 16 → y < 16 → Leaves r turn y x → Leaves r way x y)
