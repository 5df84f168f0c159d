-- Why options are gone: the chosen lines that took them.
use Rattle.std.specs.Prelude.{◌≡◌, ℕ, ◌<◌, Bool, true, false, ◌&&◌, ◌⊎◌, List, Ok, Err, Result, ◌==◌, nat_le, nat_lt, slice_index, slice_index_or}
use Rattle.masks.specs.declared.Mask.{Mask}
use Rattle.masks.specs.Members.{is_option, has}
use Rattle.wall.specs.Rules.{no_options}
use Rattle.forward.specs.declared.Choice.{Choice}
use Rattle.forward.specs.declared.Level.{Level}
use Rattle.forward.specs.Fits.{Rules, Leads, Leaves, Fits, Left, Chosen, Open}

-- β has what is chosen on each line of a set of lines
abbrev pub AgreesOn : Mask → List ℕ → List ℕ → Type 0
AgreesOn lines row β = (i : ℕ) → has lines i ≡ true → slice_index β i ≡ slice_index row i

-- on each open line, a row that has what its causes have has an option that is left
abbrev pub Spared : ℕ → List Mask → List Mask → List ℕ → List ℕ → Type 0
Spared n masks causes row β = (line : ℕ) → line < n → Open row line → AgreesOn (slice_index_or causes line no_options) row β → Left masks line (slice_index β line)

-- what a sweep over the open lines leaves: nothing is added, chosen lines are as they were, only chosen lines are blamed anew, and no row that fits is lost
pub record Swept (r : Rules) (row : List ℕ) (old was new is : List Mask) : Type 0 where
  pub same : (line : ℕ) → Chosen row line → slice_index_or new line no_options ≡ slice_index_or old line no_options
  pub fewer : (line x : ℕ) → Left new line x → Left old line x
  pub whose : (line i : ℕ) → has (slice_index_or is line no_options) i ≡ true → (has (slice_index_or was line no_options) i ≡ true) ⊎ ((i < r.lines) × Chosen row i)
  pub kept : (β : List ℕ) → Fits r β → Spared r.lines old was row β → Spared r.lines new is row β

-- whatever is left on the open lines goes with option x of a line
abbrev pub Tied : Rules → ℕ → ℕ → List ℕ → List Mask → Type 0
Tied r line x row masks = (other way y : ℕ) → other < r.lines → Open row other → Leads r line other way → Left masks other y → Leaves r way x y

-- the first open line with nothing left as the error; none if each has something left, and then all that is left goes with the choice
abbrev pub Dead : Rules → ℕ → ℕ → List ℕ → List Mask → Result (Unit {0}) ℕ → Type 0
Dead r line x row masks (Ok _) = Tied r line x row masks × ((other : ℕ) → other < r.lines → Open row other → (y : ℕ) × Left masks other y)
Dead r line x row masks (Err dead) =
    (dead < r.lines) × Open row dead × ((y : ℕ) → has (slice_index_or masks dead no_options) y ≡ false) × ((other : ℕ) → other < dead → Open row other → (y : ℕ) × Left masks other y)

-- a choice: an option of a line of the wall, which the row has there
abbrev pub is_choice : ℕ → List ℕ → ℕ → ℕ → Bool
is_choice n row line option = (nat_le n 16 && nat_lt line n) && (is_option option && slice_index row line == option)

-- what the sweep after a choice leaves and answers
abbrev pub Sweeps : Rules → List ℕ → Choice → Level → Level → Result (Unit {0}) ℕ → Type 0
Sweeps r row choice was is answer = Swept r row was.masks was.causes is.masks is.causes × Dead r choice.line choice.option row is.masks answer

-- what the forward check of a choice leaves and answers; of what is no choice nothing is changed
abbrev pub Checked : Rules → List ℕ → Choice → Level → Level → Result (Unit {0}) ℕ → Type 0
Checked r row choice was is answer =
    (is_choice r.lines row choice.line choice.option ≡ true → Sweeps r row choice was is answer)
    × (is_choice r.lines row choice.line choice.option ≡ false → (is ≡ was) × (answer ≡ Ok tt))

-- the causes of a line after something may have been taken from it: the same, with the lines that took it
pub record Blame (causes before after more r : Mask) : Type 0 where
  pub old : (i : ℕ) → has causes i ≡ true → has r i ≡ true
  pub whose : (i : ℕ) → has r i ≡ true → (has causes i ≡ true) ⊎ (has more i ≡ true)
  pub taken : ((y : ℕ) → has before y ≡ true → has after y ≡ true) ⊎ ((i : ℕ) → has more i ≡ true → has r i ≡ true)

-- what a choice leaves of one open line
pub record Shrunk (r : Rules) (line x : ℕ) (row : List ℕ) (other : ℕ) (old was new is : Mask) : Type 0 where
  pub fewer : (y : ℕ) → has new y ≡ true → has old y ≡ true
  pub tied : (way y : ℕ) → Leads r line other way → has new y ≡ true → Leaves r way x y
  pub more : (i : ℕ) → has was i ≡ true → has is i ≡ true
  pub whose : (i : ℕ) → has is i ≡ true → (has was i ≡ true) ⊎ ((i < r.lines) × Chosen row i)
  pub why : (β : List ℕ) → Fits r β → AgreesOn is row β → has old (slice_index β other) ≡ true → has new (slice_index β other) ≡ true

-- what the pair rules leave of the options of another line where a line has option x
pub record Ruled (r : Rules) (line x other : ℕ) (old new : Mask) : Type 0 where
  pub fewer : (y : ℕ) → has new y ≡ true → has old y ≡ true
  pub tied : (way y : ℕ) → Leads r line other way → has new y ≡ true → Leaves r way x y
  pub kept : (β : List ℕ) → Fits r β → slice_index β line ≡ x → has old (slice_index β other) ≡ true → has new (slice_index β other) ≡ true

-- what the house rule leaves of that, with the causes: the line of the choice if the rules took something, all chosen lines if the house rule did
pub record Settled (passes : ℕ → List ℕ → Bool) (n : ℕ) (row : List ℕ) (line other : ℕ) (old was ruled new is : Mask) : Type 0 where
  pub fewer : (y : ℕ) → has new y ≡ true → has ruled y ≡ true
  pub more : (i : ℕ) → has was i ≡ true → has is i ≡ true
  pub whose : (i : ℕ) → has is i ≡ true → (has was i ≡ true) ⊎ ((i ≡ line) ⊎ ((i < n) × Chosen row i))
  pub by_pair_rules : ((y : ℕ) → has old y ≡ true → has ruled y ≡ true) ⊎ (has is line ≡ true)
  pub by_house : (β : List ℕ) → passes n β ≡ true → AgreesOn is row β → has ruled (slice_index β other) ≡ true → has new (slice_index β other) ≡ true
