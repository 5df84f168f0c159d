-- As many things as places: a list without repeats whose entries all stand in another is no longer than that one.
use Rattle.std.proofs.Common.{◌≡◌, ◌≢◌, ℕ, zero, suc, ◌-◌, ◌<◌, ◌≤◌, cond, ltb, List, [], length, get_or, sym, ◌∙◌, ⊎_elim, arith}
use Rattle.std.specs.List.{AllPairs, Contains}
use Rattle.std.proofs.lemmas.Bool.{cases_lt, cases_order, lt-ltb, le-ltb, cond-true, cond-false}
use Rattle.std.proofs.lemmas.List.{get_or_default}
use Rattle.std.proofs.lemmas.List.Elements.{Contains-get_or}

-- the numbers other than j, counted through, and back
skip : ℕ → ℕ → ℕ
skip j k = cond (ltb k j) k (suc k)

unskip : ℕ → ℕ → ℕ
unskip j x = cond (ltb x j) x (x - 1)

skip_unskip : (j x : ℕ) → (x ≡ j → ⊥) → skip j (unskip j x) ≡ x
unfolding skip unskip
skip_unskip j x ne =
    ⊎_elim
    (λ (l : x < j). rw (cond-true (ltb x j) x (x - 1) (lt-ltb x j l)) (cond-true (ltb x j) x (suc x) (lt-ltb x j l)))
    (λ (l : j ≤ x).
    let a = cond-false (ltb x j) x (x - 1) (le-ltb x j l) in
    let e : suc (x - 1) ≡ x = omega arith in
    rw a (cond-false (ltb (x - 1) j) (x - 1) (suc (x - 1)) (le-ltb (x - 1) j (omega arith)) ∙ e))
    (cases_lt x j)

unskip_less : (j x n : ℕ) → (x ≡ j → ⊥) → j < n → x < n → unskip j x < n - 1
unfolding unskip
unskip_less j x n ne l m =
    ⊎_elim
    (λ (h : x < j). rw (cond-true (ltb x j) x (x - 1) (lt-ltb x j h)) (omega arith))
    (λ (h : j ≤ x). rw (cond-false (ltb x j) x (x - 1) (le-ltb x j h)) (omega arith))
    (cases_lt x j)

pigeons : (m n : ℕ) (R : ℕ → ℕ → Type 0) → ((i : ℕ) → i < m → (j : ℕ) × (j < n) × R i j) → ((i k j : ℕ) → R i j → R k j → i ≡ k) → m ≤ n
pigeons zero n R f g = omega arith
pigeons (suc m) n R f g =
    let last = f m (omega arith) in
    let j = last.0 in
    let j_in = last.1 in
    let ih : m ≤ n - 1 =
    pigeons m (n - 1) (λ i k. R i (skip j k))
    (λ i l.
    let w = f i (omega arith) in
    let apart : w.0 ≡ j → ⊥ = λ e. (let q : i ≡ m = g i m j (rw e at w.2) last.2 in omega arith) in
    (unskip j w.0, unskip_less j w.0 n apart j_in w.1, rw (skip_unskip j w.0 apart) w.2))
    (λ i k x a b. g i k (skip j x) a b) in
    omega arith

pub no_longer : {X : Type 0} (xs ys : List X) (d : X) → ((i k : ℕ) → i < length xs → k < length xs → get_or xs i d ≡ get_or xs k d → i ≡ k)
    → ((i : ℕ) → i < length xs → (j : ℕ) × (j < length ys) × (get_or ys j d ≡ get_or xs i d)) → length xs ≤ length ys
no_longer xs ys d once all =
    pigeons (length xs) (length ys) (λ i j. (i < length xs) × (get_or ys j d ≡ get_or xs i d))
    (λ i l. let w = all i l in (w.0, w.1, (l, w.2)))
    (λ i k j a b. once i k a.0 b.0 (sym a.1 ∙ b.1))

-- the same of rows, in the words of plans
pub rows_no_longer : (xs ys : List (List ℕ)) → AllPairs (λ x y. x ≢ y) xs → ((x : List ℕ) → Contains xs x → Contains ys x) → length xs ≤ length ys
rows_no_longer xs ys once all = no_longer xs ys [] same there
  where
    same : (i k : ℕ) → i < length xs → k < length xs → get_or xs i [] ≡ get_or xs k [] → i ≡ k
    same i k l m e = ⊎_elim (λ (q : i ≡ k). q) (⊎_elim (λ (q : i < k). absurd (once i k [] q m e)) (λ (q : k < i). absurd (once k i [] q l (sym e)))) (cases_order i k)

    there : (i : ℕ) → i < length xs → (j : ℕ) × (j < length ys) × (get_or ys j [] ≡ get_or xs i [])
    there i l = let c = all (get_or xs i []) (Contains-get_or xs i [] l) in (c.0, c.1, get_or_default ys c.0 [] (get_or xs i []) c.1 ∙ c.2)
