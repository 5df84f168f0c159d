-- The best plan is unique, a plan has one place, and no two plans share one.
use Rattle.std.proofs.Common.{◌≡◌, ◌≢◌, ℕ, ◌<◌, ◌≤◌, true, ◌⊎◌, List, [], ◌∷◌, ◌++◌, length, get_or, sym, ◌∙◌, inl, inr, ⊎_elim, arith}
use Rattle.std.specs.List.{Contains}
use Rattle.std.proofs.lemmas.List.{length_push}
use Rattle.std.proofs.lemmas.List.Elements.{All-contains, Contains-push_cases}
use Rattle.std.proofs.lemmas.List.Quantifiers.{all_pairs_push}
use Rattle.rows.specs.Rows.{is_row}
use Rattle.rows.proofs.Rows.{row_from}
use Rattle.ranking.specs.Orders.{IsRanking, RowBefore}
use Rattle.wall.specs.Plans.{Task, lines_of, Keeps, KeepsBefore, Best, Place}
use Rattle.wall.specs.Theorems.{Proper, OneBest, OnePlace, OwnPlace}
use Rattle.wall.proofs.RowOrder.{row_never, row_through, row_one}
use Rattle.wall.proofs.Pigeons.{rows_no_longer}

-- a rule-keeping row is a row of the wall
pub keeps_row : (t : Task) → Proper t → (α : List ℕ) → Keeps t α → is_row (lines_of t) α ≡ true
keeps_row t p α k = row_from (lines_of t) α 0 k.long (λ line l. let a = k.fits line l in let b = p.small line l in omega arith)

same_length : (t : Task) (α β : List ℕ) → Keeps t α → Keeps t β → length α ≡ length β
same_length t α β a b = a.long ∙ sym b.long

-- the best of the rows that P picks is unique
pub one_best_of : (t : Task) → Proper t → (P : List ℕ → Type 0) → ((α : List ℕ) → P α → Keeps t α) → (α β : List ℕ) → Best t P α → Best t P β → α ≡ β
one_best_of t p P keeps α β a b = both (a.1 β b.0) (b.1 α a.0)
  where
    both : (α ≡ β) ⊎ RowBefore t.before α β → (β ≡ α) ⊎ RowBefore t.before β α → α ≡ β
    both (inl e) r = e
    both (inr l) (inl e) = sym e
    both (inr l) (inr m) = absurd (row_never t.before p.ranks α (row_through t.before p.ranks α β α (same_length t α β (keeps α a.0) (keeps β b.0)) l m))

pub one_best : OneBest
one_best t p picks α β a b = one_best_of t p (λ γ. Keeps t γ × (picks γ ≡ true)) (λ γ k. k.0) α β a b

-- the rows before a row, counted twice
fewer : (t : Task) (α : List ℕ) (p q : ℕ) → Place t α p → Place t α q → p ≤ q
fewer t α p q a b =
    let l = rows_no_longer a.ahead b.ahead a.once (λ β h. b.all β (All-contains (KeepsBefore t α) a.ahead β a.keep h)) in
    let e = a.count in
    let f = b.count in
    omega arith

pub one_place : OnePlace
one_place t proper α p q a b = let l = fewer t α p q a b in let m = fewer t α q p b a in omega arith

-- what goes before has the smaller place
pub place_less : (t : Task) → Proper t → (α β : List ℕ) (p q : ℕ) → Keeps t α → Keeps t β → RowBefore t.before α β → Place t α p → Place t β q → p < q
place_less t proper α β p q ka kb r a b =
    let l = rows_no_longer (a.ahead ++ α ∷ []) b.ahead (all_pairs_push (λ x y. x ≢ y) a.ahead α a.once apart) (λ γ h. ⊎_elim (before γ) (λ (e : α ≡ γ). rw (← e) (b.all α (ka, r))) (Contains-push_cases a.ahead α γ h)) in
    let n = length_push a.ahead α in
    let e = a.count in
    let f = b.count in
    omega arith
  where
    R : IsRanking t.before
    R = proper.ranks

    -- α is none of the rows before it
    apart : (i : ℕ) (d : List ℕ) → i < length a.ahead → get_or a.ahead i d ≢ α
    apart i d l e = row_never t.before R α (rw e at (a.keep i d l).1)

    before : (γ : List ℕ) → Contains a.ahead γ → Contains b.ahead γ
    before γ h =
        let k = All-contains (KeepsBefore t α) a.ahead γ a.keep h in
        b.all γ (k.0, row_through t.before R γ α β (same_length t γ α k.0 ka) k.1 r)

pub own_place : OwnPlace
own_place t proper α β p ka kb a b =
    ⊎_elim (λ (e : α ≡ β). e)
    (⊎_elim
    (λ (r : RowBefore t.before α β). let l = place_less t proper α β p p ka kb r a b in absurd (omega arith))
    (λ (r : RowBefore t.before β α). let l = place_less t proper β α p p kb ka r b a in absurd (omega arith)))
    (row_one t.before proper.ranks (lines_of t) α β proper.few (keeps_row t proper α ka) (keeps_row t proper β kb))
