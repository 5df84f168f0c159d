-- How many numbers below a bound pass a test. Assumes nothing.
use Rattle.std.proofs.Common.{◌≡◌, ℕ, zero, suc, ◌+◌, ◌<◌, ◌≤◌, Bool, true, false, cond, refl, ap, ⊎_elim, add-one, arith}
use Rattle.std.proofs.lemmas.Bool.{cases_eq, cases_Bool}
use Rattle.masks.specs.Members.{how_many}

-- one number, counted
count_one : (b : Bool) → b ≡ true → ◌≡◌ {A = ℕ} (cond b 1 0) 1
count_one b e = rw e refl

count_none : (b : Bool) → b ≡ false → ◌≡◌ {A = ℕ} (cond b 1 0) 0
count_none b e = rw e refl

count_le : (b : Bool) → cond b 1 0 ≤ 1
count_le true = omega arith
count_le false = omega arith

-- at most all of them
pub how_many_le : (test : ℕ → Bool) (n : ℕ) → how_many test n ≤ n
unfolding how_many
how_many_le test zero = omega arith
how_many_le test (suc n) = let a = how_many_le test n in let b = count_le (test n) in omega arith

-- the lowest of the numbers counted apart
pub how_many_low : (test : ℕ → Bool) (n : ℕ) → how_many test (suc n) ≡ cond (test 0) 1 0 + how_many (λ k. test (suc k)) n
unfolding how_many
how_many_low test zero = omega arith
how_many_low test (suc n) = let e = how_many_low test n in omega arith

-- tests that agree count the same
pub how_many_same : (f g : ℕ → Bool) (n : ℕ) → ((k : ℕ) → k < n → f k ≡ g k) → how_many f n ≡ how_many g n
unfolding how_many
how_many_same f g zero h = refl
how_many_same f g (suc n) h =
    let e = how_many_same f g n (λ k l. h k (omega arith)) in
    let t : ◌≡◌ {A = ℕ} (cond (f n) 1 0) (cond (g n) 1 0) = ap (λ (b : Bool). cond b 1 0) (h n (omega arith)) in
    omega arith

-- what passes the narrower test passes the wider one: it counts no more
pub how_many_mono : (f g : ℕ → Bool) (n : ℕ) → ((k : ℕ) → k < n → f k ≡ true → g k ≡ true) → how_many f n ≤ how_many g n
unfolding how_many
how_many_mono f g zero h = omega arith
how_many_mono f g (suc n) h =
    let e = how_many_mono f g n (λ k l. h k (omega arith)) in
    let t : cond (f n) 1 0 ≤ cond (g n) 1 0 =
    ⊎_elim
    (λ (p : f n ≡ true). let a = count_one (f n) p in let b = count_one (g n) (h n (omega arith) p) in omega arith)
    (λ (p : f n ≡ false). let a = count_none (f n) p in omega arith)
    (cases_Bool (f n)) in
    omega arith

-- and fewer, if one number passes the wider test alone
pub how_many_less : (f g : ℕ → Bool) (n o : ℕ) → ((k : ℕ) → k < n → f k ≡ true → g k ≡ true) → o < n → f o ≡ false → g o ≡ true → how_many f n < how_many g n
unfolding how_many
how_many_less f g zero o h l p q = absurd (omega arith)
how_many_less f g (suc n) o h l p q =
    let up : (k : ℕ) → k < n → f k ≡ true → g k ≡ true = λ k m. h k (omega arith) in
    ⊎_elim
    (λ (e : o ≡ n).
    let a = count_none (f n) (rw e at p) in
    let b = count_one (g n) (rw e at q) in
    let m = how_many_mono f g n up in
    omega arith)
    (λ (e : o ≡ n → ⊥).
    let m = how_many_less f g n o up (omega arith) p q in
    let t : cond (f n) 1 0 ≤ cond (g n) 1 0 = ⊎_elim
    (λ (r : f n ≡ true). let a = count_one (f n) r in let b = count_one (g n) (h n (omega arith) r) in omega arith)
    (λ (r : f n ≡ false). let a = count_none (f n) r in omega arith)
    (cases_Bool (f n)) in
    omega arith)
    (cases_eq o n)

-- none is counted where none passes
pub how_many_none : (f : ℕ → Bool) (n : ℕ) → ((k : ℕ) → k < n → f k ≡ false) → how_many f n ≡ 0
unfolding how_many
how_many_none f zero h = refl
how_many_none f (suc n) h = let e = how_many_none f n (λ k l. h k (omega arith)) in let t = count_none (f n) (h n (omega arith)) in omega arith

-- one number on
pub how_many_more : (test : ℕ → Bool) (n : ℕ) → how_many test (n + 1) ≡ how_many test n + cond (test n) 1 0
unfolding how_many
how_many_more test n = ap (how_many test) (add-one n)

pub how_many_in : (test : ℕ → Bool) (n : ℕ) → test n ≡ true → how_many test (n + 1) ≡ how_many test n + 1
how_many_in test n h = let e = how_many_more test n in let t = count_one (test n) h in omega arith

pub how_many_out : (test : ℕ → Bool) (n : ℕ) → test n ≡ false → how_many test (n + 1) ≡ how_many test n
how_many_out test n h = let e = how_many_more test n in let t = count_none (test n) h in omega arith

pub how_many_zero : (test : ℕ → Bool) → how_many test 0 ≡ 0
unfolding how_many
how_many_zero test = refl
