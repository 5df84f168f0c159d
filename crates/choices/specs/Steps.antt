-- What holds on the way of a search: rows that are left, choices, and who is to blame.
use Rattle.std.specs.Prelude.{◌≡◌, ℕ, ◌-◌, ◌<◌, ◌≤◌, Bool, true, false, ◌⊎◌, List, [], drop, replicate, Ok, Err, Result, ◌==◌, ◌≢◌, slice_index, slice_index_or, slice_set}
use Rattle.masks.specs.declared.Mask.{Mask}
use Rattle.masks.specs.Members.{has}
use Rattle.wall.specs.Rules.{no_options}
use Rattle.forward.specs.Fits.{Rules, Leads, Leaves, Fits, Left, Chosen, rules_of}
use Rattle.forward.specs.Causes.{AgreesOn, Spared, Dead, is_choice}
use Rattle.start.specs.declared.problem.Problem.{Problem}
use Rattle.forward.specs.declared.Choice.{Choice}
use Rattle.forward.specs.declared.Level.{Level}

-- the rules that a problem and a house rule make
abbrev pub rules_in : Problem → (ℕ → List ℕ → Bool) → Rules
rules_in problem passes = rules_of problem.lines problem.net passes

-- a row that fits and has an option that is left on each line
abbrev pub FitsWithin : Rules → List Mask → List ℕ → Type 0
FitsWithin r masks β = Fits r β × ((line : ℕ) → line < r.lines → Left masks line (slice_index β line))

-- behind the entries of n lines a row has 255
abbrev pub Filled : ℕ → List ℕ → Type 0
Filled n row = drop n row ≡ replicate (16 - n) 255

-- the level of no choices and no options
abbrev pub no_level : Level
no_level = record { masks = []; causes = [] }

-- the levels up to a depth are as they were
abbrev pub Unmoved : ℕ → List Level → List Level → Type 0
Unmoved depth was is = (k : ℕ) → k ≤ depth → slice_index_or is k no_level ≡ slice_index_or was k no_level

-- each line of a set is chosen
abbrev pub AllChosen : ℕ → List ℕ → Mask → Type 0
AllChosen n row lines = (i : ℕ) → has lines i ≡ true → (i < n) × Chosen row i

-- the causes of each line are chosen lines
abbrev pub Blamed : ℕ → List Mask → List ℕ → Type 0
Blamed n causes row = (line : ℕ) → line < n → AllChosen n row (slice_index_or causes line no_options)

-- a chosen line has just its option left, and what is left elsewhere goes with it
pub record Placed (r : Rules) (masks : List Mask) (row : List ℕ) : Type 0 where
  pub held : (line : ℕ) → line < r.lines → Chosen row line → Left masks line (slice_index row line)
  pub single : (line x : ℕ) → line < r.lines → Chosen row line → Left masks line x → x ≡ slice_index row line
  pub linked : (line other way x y : ℕ) → line < r.lines → other < r.lines → Chosen row line ⊎ Chosen row other
      → Leads r line other way → Left masks line x → Left masks other y → Leaves r way x y

-- the lines of a set are chosen, and Q holds of every row that fits, is left, and has what is chosen on them
pub record Blames (r : Rules) (masks causes : List Mask) (row : List ℕ) (Q : List ℕ → Type 0) (lines : Mask) : Type 0 where
  pub chosen : AllChosen r.lines row lines
  pub out : (β : List ℕ) → Fits r β → Spared r.lines masks causes row β → AgreesOn lines row β → Q β

-- the same of the rows that have none of the options in `left` on a line
abbrev pub Tried : Rules → List Mask → List Mask → List ℕ → (List ℕ → Type 0) → ℕ → Mask → Mask → Type 0
Tried r masks causes row Q line left lines = Blames r masks causes row (λ β. (has left (slice_index β line) ≡ true) ⊎ Q β) lines

-- the same of the rows that have what is chosen on the lines of a set after option x was chosen on a line
pub record Conflict (r : Rules) (masks causes : List Mask) (row : List ℕ) (line x : ℕ) (Q : List ℕ → Type 0) (lines : Mask) : Type 0 where
  pub chosen : AllChosen r.lines (slice_set row line x) lines
  pub out : (β : List ℕ) → Fits r β → Spared r.lines masks causes row β → AgreesOn lines (slice_set row line x) β → Q β

-- what a choice leaves: its line just the option, other chosen lines what they had, open lines no more than they had; only chosen lines are blamed anew, and no row that fits is lost
pub record Narrowed (r : Rules) (row : List ℕ) (line x : ℕ) (old was new is : List Mask) : Type 0 where
  pub only : (y : ℕ) → has (slice_index_or new line no_options) y ≡ (y == x)
  pub same : (l : ℕ) → (l ≢ line) → Chosen row l → slice_index_or new l no_options ≡ slice_index_or old l no_options
  pub fewer : (l y : ℕ) → (l ≢ line) → Left new l y → Left old l y
  pub whose : (l i : ℕ) → has (slice_index_or is l no_options) i ≡ true → (has (slice_index_or was l no_options) i ≡ true) ⊎ ((i < r.lines) × Chosen row i)
  pub kept : (β : List ℕ) → Fits r β → Spared r.lines old was row β → Spared r.lines new is row β

-- the causes of the first open line that has nothing left as the error, if there is one
abbrev pub Stuck : Rules → ℕ → ℕ → List ℕ → List Mask → List Mask → Result (Unit {0}) Mask → Type 0
Stuck r line x row masks causes (Ok _) = Dead r line x row masks (Ok tt)
Stuck r line x row masks causes (Err lines) = (dead : ℕ) × Dead r line x row masks (Err dead) × (lines ≡ slice_index_or causes dead no_options)

-- what a choice leaves and answers; what is no choice changes nothing
abbrev pub Chose : Rules → List ℕ → Choice → Level → Level → Result (Unit {0}) Mask → Type 0
Chose r row choice was is answer =
    (is_choice r.lines row choice.line choice.option ≡ true → Narrowed r row choice.line choice.option was.masks was.causes is.masks is.causes × Stuck r choice.line choice.option row is.masks is.causes answer)
    × (is_choice r.lines row choice.line choice.option ≡ false → (is ≡ was) × (answer ≡ Ok tt))
