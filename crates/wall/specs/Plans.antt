-- Plans: rows that keep the rules, in their order.
use Rattle.std.specs.Prelude.{◌≡◌, ◌≢◌, ℕ, ◌+◌, ◌-◌, ◌<◌, Bool, true, false, ◌⊎◌, List, length, take, drop, replicate, None, Option, MatchOption, slice_index, slice_index_or, All, AllPairs, Contains}
use Rattle.masks.specs.declared.Mask.{Mask}
use Rattle.ranking.specs.Orders.{RowBefore}
use Rattle.wall.specs.declared.bars.Bars.{Bars}
use Rattle.wall.specs.declared.rule.PairRule.{PairRule}
use Rattle.wall.specs.declared.wall.Wall.{Wall}
use Rattle.wall.specs.Rules.{is_allowed, is_barred}

-- a wall to be planned: how many options each line has, the pair rules by their numbers, the barred options of each line,
-- which rows the house rule passes, and which of two options the ranking puts first
pub record Task : Type 0 where
  pub counts : List ℕ
  pub rules : List (Option PairRule)
  pub bars : List Mask
  pub passes : ℕ → List ℕ → Bool
  pub before : ℕ → List ℕ → ℕ → ℕ → Bool

abbrev pub lines_of : Task → ℕ
lines_of t = length t.counts

-- the task that a wall, its bars, a house rule and a ranking make
abbrev pub task_of : Wall → Bars → (ℕ → List ℕ → Bool) → (ℕ → List ℕ → ℕ → ℕ → Bool) → Task
task_of wall bars passes before = record { counts = take wall.lines wall.counts; rules = wall.rules; bars = bars.masks; passes = passes; before = before }

-- a row keeps the rules: an option of each line, none barred, every pair rule allows it, and the house rule passes it
pub record Keeps (t : Task) (row : List ℕ) : Type 0 where
  pub long : length row ≡ lines_of t
  pub fits : (line : ℕ) → line < lines_of t → slice_index row line < slice_index t.counts line
  pub free : (line : ℕ) → line < lines_of t → is_barred t.bars line (slice_index row line) ≡ false
  pub paired : (k : ℕ) → is_allowed (slice_index_or t.rules k None) row ≡ true
  pub passed : t.passes (lines_of t) row ≡ true

-- the rows that keep the rules and come after a given row
abbrev pub KeepsAfter : Task → List ℕ → List ℕ → Type 0
KeepsAfter t given β = Keeps t β × RowBefore t.before given β

-- the rows that keep the rules and go before a given row
abbrev pub KeepsBefore : Task → List ℕ → List ℕ → Type 0
KeepsBefore t given β = Keeps t β × RowBefore t.before β given

-- α is one of the rows that P picks, and goes before every other one, by an order
abbrev pub First : (ℕ → List ℕ → ℕ → ℕ → Bool) → (List ℕ → Type 0) → List ℕ → Type 0
First before P α = P α × ((β : List ℕ) → P β → (α ≡ β) ⊎ RowBefore before α β)

-- the best of the rows that P picks, by the ranking of a task
abbrev pub Best : Task → (List ℕ → Type 0) → List ℕ → Type 0
Best t P α = First t.before P α

-- what a search among the rows of n lines that P picks answers: the first, filled up with 255, or none where there is none
abbrev pub Finds : ℕ → (ℕ → List ℕ → ℕ → ℕ → Bool) → (List ℕ → Type 0) → Option (List ℕ) → Type 0
Finds n before P r = MatchOption r ((β : List ℕ) → P β → ⊥) (λ row. First before P (take n row) × (drop n row ≡ replicate (16 - n) 255))

-- what a search among the rows that P picks answers: the best, filled up with 255, or none where there is none
abbrev pub Answers : Task → (List ℕ → Type 0) → Option (List ℕ) → Type 0
Answers t P r = Finds (lines_of t) t.before P r

-- the place of a row: one more than the number of rule-keeping rows that go before it
pub record Place (t : Task) (α : List ℕ) (place : ℕ) : Type 0 where
  -- the rows before it, none of them twice
  pub ahead : List (List ℕ)
  pub once : AllPairs (λ β γ. β ≢ γ) ahead
  pub keep : All (KeepsBefore t α) ahead
  pub all : (β : List ℕ) → KeepsBefore t α β → Contains ahead β
  pub count : place ≡ length ahead + 1
