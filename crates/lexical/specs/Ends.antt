-- What holds on the way of the lexical search, and how it ends.
use Rattle.std.specs.Prelude.{◌≡◌, ℕ, ◌<◌, ◌≤◌, Bool, true, false, not, ◌&&◌, List, length, take, Ok, Err, Result, nat_lt, slice_index}
use Rattle.masks.specs.declared.Mask.{Mask}
use Rattle.masks.specs.Members.{has}
use Rattle.rows.specs.Rows.{is_open}
use Rattle.wall.specs.Plans.{First}
use Rattle.forward.specs.Fits.{Rules, Chosen}
use Rattle.forward.specs.declared.Level.{Level}
use Rattle.choices.specs.Steps.{FitsWithin, Filled, Blamed, Placed, Blames, Conflict}

-- the lines above a depth are chosen, the others are open, and the level says what that leaves
pub record Reached (r : Rules) (depth : ℕ) (level : Level) (row : List ℕ) : Type 0 where
  pub long : length row ≡ 16
  pub placed : Placed r level.masks row
  pub blamed : Blamed r.lines level.causes row
  pub above : (line : ℕ) → line < depth → Chosen row line
  pub below : (line : ℕ) → depth ≤ line → line < 16 → slice_index row line ≡ 255

-- no row is meant
abbrev pub Never : List ℕ → Type 0
Never β = ⊥

-- a full row that passes, or all chosen lines
abbrev pub Judged : (ℕ → List ℕ → Bool) → ℕ → List ℕ → Result (List ℕ) Mask → Type 0
Judged passes n row (Ok α) = (passes n (take n row) ≡ true) × (α ≡ row)
Judged passes n row (Err lines) = (passes n (take n row) ≡ false) × ((line : ℕ) → has lines line ≡ (nat_lt line 16 && (nat_lt line n && not (is_open (slice_index row line)))))

-- the first of the rows that are left, or the chosen lines that leave none
abbrev pub Ends : Rules → (ℕ → List ℕ → ℕ → ℕ → Bool) → Level → List ℕ → Result (List ℕ) Mask → Type 0
Ends r before level row (Ok α) = First before (FitsWithin r level.masks) (take r.lines α) × Filled r.lines α
Ends r before level row (Err lines) = Blames r level.masks level.causes row Never lines

-- the same of the rows with option x on a line
abbrev pub Followed : Rules → (ℕ → List ℕ → ℕ → ℕ → Bool) → Level → List ℕ → ℕ → ℕ → Result (List ℕ) Mask → Type 0
Followed r before level row line x (Ok α) = First before (λ β. FitsWithin r level.masks β × (slice_index β line ≡ x)) (take r.lines α) × Filled r.lines α
Followed r before level row line x (Err lines) = Conflict r level.masks level.causes row line x Never lines
