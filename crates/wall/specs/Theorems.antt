-- What holds of the order of plans on every wall, for every ranking and every house rule.
use Rattle.std.specs.Prelude.{◌≡◌, ℕ, ◌<◌, ◌≤◌, Bool, true, ◌⊎◌, List, slice_index}
use Rattle.rows.specs.Rows.{is_row}
use Rattle.ranking.specs.Orders.{IsRanking, RowBefore}
use Rattle.wall.specs.Plans.{Task, lines_of, Keeps, Best, Place}

-- the task has at most sixteen lines of at most sixteen options, and its ranking is one
pub record Proper (t : Task) : Type 0 where
  pub few : lines_of t ≤ 16
  pub small : (line : ℕ) → line < lines_of t → slice_index t.counts line ≤ 16
  pub ranks : IsRanking t.before

-- goes-before is a strict total order on the rows of n lines
pub record StrictTotal (n : ℕ) (before : ℕ → List ℕ → ℕ → ℕ → Bool) : Type 0 where
  pub never : (α : List ℕ) → is_row n α ≡ true → RowBefore before α α → ⊥
  pub one : (α β : List ℕ) → is_row n α ≡ true → is_row n β ≡ true → (α ≡ β) ⊎ (RowBefore before α β ⊎ RowBefore before β α)
  pub apart : (α β : List ℕ) → is_row n α ≡ true → is_row n β ≡ true → RowBefore before α β → RowBefore before β α → ⊥
  pub through : (α β γ : List ℕ) → is_row n α ≡ true → is_row n β ≡ true → is_row n γ ≡ true → RowBefore before α β → RowBefore before β γ → RowBefore before α γ

abbrev pub RowsInOrder : Type 0
RowsInOrder = (n : ℕ) (before : ℕ → List ℕ → ℕ → ℕ → Bool) → n ≤ 16 → IsRanking before → StrictTotal n before

-- the best row is unique, among whatever rule-keeping rows are picked
abbrev pub OneBest : Type 0
OneBest = (t : Task) → Proper t → (picks : List ℕ → Bool) (α β : List ℕ) → Best t (λ γ. Keeps t γ × (picks γ ≡ true)) α → Best t (λ γ. Keeps t γ × (picks γ ≡ true)) β → α ≡ β

-- a row has one place, and two different rule-keeping rows have different places
abbrev pub OnePlace : Type 0
OnePlace = (t : Task) → Proper t → (α : List ℕ) (p q : ℕ) → Place t α p → Place t α q → p ≡ q

abbrev pub OwnPlace : Type 0
OwnPlace = (t : Task) → Proper t → (α β : List ℕ) (p : ℕ) → Keeps t α → Keeps t β → Place t α p → Place t β p → α ≡ β
