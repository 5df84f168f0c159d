-- The bits of a figure, one after another from the lowest. Assumes nothing.
use Rattle.std.proofs.Common.{◌≡◌, ℕ, zero, suc, ◌+◌, ◌-◌, ◌/◌, ◌%◌, ◌^◌, ◌<◌, ◌≤◌, min, max, Bool, true, false, cond, not, ◌&&◌, ◌||◌, eqb, ltb, sym, refl, ap, ap₂, ◌∙◌, ⊎_elim, pow-suc, arith}
use lib.Bits.{bit_and, bit_or, bit_xor, and_step, and_shr, or_step, or_shr, xor_add_and, xor_shr}
use lib.Count.{ones, ones_step, count_trailing_zeros, under}
use Rattle.std.proofs.lemmas.Nat.{pow_pos, shr-shr}
use Rattle.std.proofs.lemmas.Bool.Decides.{nat_tests}
use Rattle.std.proofs.lemmas.Bool.{cases_eq}
use Rattle.masks.specs.Members.{bit_of, how_many}
use Rattle.masks.proofs.Counts.{how_many_low, how_many_same}

-- the lowest bit
pub bit_of_zero : (m : ℕ) → bit_of m 0 ≡ eqb (m % 2) 1
unfolding bit_of
bit_of_zero m = let e : m / 1 ≡ m = omega arith in ap (λ n. eqb (n % 2) 1) e

-- a higher bit is a bit of the half
pub bit_of_suc : (m k : ℕ) → bit_of m (suc k) ≡ bit_of (m / 2) k
unfolding bit_of
bit_of_suc m k = ap (λ n. eqb (n % 2) 1) (sym (shr-shr m 1 k ∙ ap (λ n. m / 2 ^ n) e))
  where
    e : 1 + k ≡ suc k
    e = omega arith

-- a figure of no bits
pub bit_of_none : (k : ℕ) → bit_of 0 k ≡ false
bit_of_none zero = bit_of_zero 0
bit_of_none (suc k) = bit_of_suc 0 k ∙ bit_of_none k

-- the half and the lowest bit of a power of two, and of all ones
half_pow : (n : ℕ) → (2 ^ suc n / 2 ≡ 2 ^ n) × (2 ^ suc n % 2 ≡ 0)
half_pow n = let e = pow-suc 2 n in (omega arith, omega arith)

half_ones : (n : ℕ) → ((2 ^ suc n - 1) / 2 ≡ 2 ^ n - 1) × ((2 ^ suc n - 1) % 2 ≡ 1)
half_ones n = let e = pow-suc 2 n in let p = pow_pos n in (omega arith, omega arith)

-- a power of two has the one bit
pub bit_of_pow : (n k : ℕ) → bit_of (2 ^ n) k ≡ eqb k n
bit_of_pow zero zero = bit_of_zero 1
bit_of_pow zero (suc k) = bit_of_suc 1 k ∙ bit_of_none k ∙ grind (arith, nat_tests)
bit_of_pow (suc n) zero = bit_of_zero (2 ^ suc n) ∙ (let e = (half_pow n).1 in grind (arith, nat_tests))
bit_of_pow (suc n) (suc k) = bit_of_suc (2 ^ suc n) k ∙ ap (λ m. bit_of m k) (half_pow n).0 ∙ bit_of_pow n k ∙ grind (arith, nat_tests)

-- all ones below n
pub bit_of_ones : (n k : ℕ) → bit_of (2 ^ n - 1) k ≡ ltb k n
bit_of_ones zero k = bit_of_none k ∙ grind (arith, nat_tests)
bit_of_ones (suc n) zero = bit_of_zero (2 ^ suc n - 1) ∙ (let e = (half_ones n).1 in grind (arith, nat_tests))
bit_of_ones (suc n) (suc k) = bit_of_suc (2 ^ suc n - 1) k ∙ ap (λ m. bit_of m k) (half_ones n).0 ∙ bit_of_ones n k ∙ grind (arith, nat_tests)

and_parity : (a b : ℕ) → bit_and a b % 2 ≡ min (a % 2) (b % 2)
and_parity a b = let e = and_step a b in omega arith

or_parity : (a b : ℕ) → bit_or a b % 2 ≡ max (a % 2) (b % 2)
or_parity a b = let e = or_step a b in omega arith

xor_parity : (a b : ℕ) → bit_xor a b % 2 ≡ (a % 2 + b % 2) % 2
xor_parity a b = omega (arith, xor_add_and a b)

pub bit_of_and : (a b k : ℕ) → bit_of (bit_and a b) k ≡ (bit_of a k && bit_of b k)
unfolding bit_of
bit_of_and a b k =
    let e : bit_and a b / 2 ^ k % 2 ≡ min (a / 2 ^ k % 2) (b / 2 ^ k % 2) = ap (λ x. x % 2) (and_shr a b k) ∙ and_parity (a / 2 ^ k) (b / 2 ^ k) in
    grind (arith, nat_tests)

pub bit_of_or : (a b k : ℕ) → bit_of (bit_or a b) k ≡ (bit_of a k || bit_of b k)
unfolding bit_of
bit_of_or a b k =
    let e : bit_or a b / 2 ^ k % 2 ≡ max (a / 2 ^ k % 2) (b / 2 ^ k % 2) = ap (λ x. x % 2) (or_shr a b k) ∙ or_parity (a / 2 ^ k) (b / 2 ^ k) in
    grind (arith, nat_tests)

-- what is left of a without what it shares with b
pub bit_of_minus : (a b k : ℕ) → bit_of (bit_xor a (bit_and a b)) k ≡ (bit_of a k && not (bit_of b k))
unfolding bit_of
bit_of_minus a b k =
    let e : bit_and a b / 2 ^ k % 2 ≡ min (a / 2 ^ k % 2) (b / 2 ^ k % 2) = ap (λ x. x % 2) (and_shr a b k) ∙ and_parity (a / 2 ^ k) (b / 2 ^ k) in
    let f : bit_xor a (bit_and a b) / 2 ^ k % 2 ≡ (a / 2 ^ k % 2 + bit_and a b / 2 ^ k % 2) % 2 = ap (λ x. x % 2) (xor_shr a (bit_and a b) k) ∙ xor_parity (a / 2 ^ k) (bit_and a b / 2 ^ k) in
    grind (arith, nat_tests)

-- a figure is known by its bits
pub bits_same : (w a b : ℕ) → a < 2 ^ w → b < 2 ^ w → ((k : ℕ) → k < w → bit_of a k ≡ bit_of b k) → a ≡ b
bits_same zero a b p q h = omega arith
bits_same (suc w) a b p q h =
    let e = pow-suc 2 w in
    let half : a / 2 ≡ b / 2 = bits_same w (a / 2) (b / 2) (omega arith) (omega arith) (λ k l. sym (bit_of_suc a k) ∙ h (suc k) (omega arith) ∙ bit_of_suc b k) in
    let low : eqb (a % 2) 1 ≡ eqb (b % 2) 1 = sym (bit_of_zero a) ∙ h 0 (omega arith) ∙ bit_of_zero b in
    let par : a % 2 ≡ b % 2 = grind (arith, nat_tests) in
    omega arith

-- the ones of a figure are its bits that are 1
pub ones_bits : (w m : ℕ) → m < 2 ^ w → ones m ≡ how_many (bit_of m) w
unfolding ones how_many
ones_bits zero m h = let e : m ≡ 0 = omega arith in rw e refl
ones_bits (suc w) m h =
    let e = pow-suc 2 w in
    let ih : ones (m / 2) ≡ how_many (bit_of (m / 2)) w = ones_bits w (m / 2) (omega arith) in
    let up : how_many (λ k. bit_of m (suc k)) w ≡ how_many (bit_of (m / 2)) w = how_many_same _ _ w (λ k l. bit_of_suc m k) in
    let low : cond (bit_of m 0) 1 0 ≡ m % 2 = ap (λ (b : Bool). cond b 1 0) (bit_of_zero m) ∙ grind (arith, nat_tests) in
    let s = ones_step m in
    let l = how_many_low (bit_of m) w in
    omega arith

-- the zeros below the lowest 1: how many there are, by the lowest bit and by those of the half
under_even : (d t : ℕ) → d ≡ 0 → under d t ≡ suc t
under_even zero t e = refl
under_even (suc d) t e = absurd (omega arith)

under_odd : (d t : ℕ) → d ≡ 1 → under d t ≡ 0
under_odd zero t e = absurd (omega arith)
under_odd (suc d) t e = refl

-- bit n is the lowest 1 of m
LowestAt : ℕ → ℕ → Type 0
LowestAt m n = (bit_of m n ≡ true) × ((k : ℕ) → k < n → bit_of m k ≡ false)

lowest_up : (m n : ℕ) → m % 2 ≡ 0 → LowestAt (m / 2) n → LowestAt m (suc n)
unfolding LowestAt
lowest_up m n e h = (bit_of_suc m n ∙ h.0, below)
  where
    below : (k : ℕ) → k < suc n → bit_of m k ≡ false
    below zero l = bit_of_zero m ∙ grind (arith, nat_tests)
    below (suc k) l = bit_of_suc m k ∙ h.1 k (omega arith)

lowest_zeros : (w m : ℕ) → 0 < m → m < 2 ^ w → LowestAt m (count_trailing_zeros w m)
unfolding LowestAt count_trailing_zeros
lowest_zeros zero m p h = absurd (omega arith)
lowest_zeros (suc w) m p h =
    let e = pow-suc 2 w in
    ⊎_elim
    (λ (d : m % 2 ≡ 0). rw (under_even (m % 2) (count_trailing_zeros w (m / 2)) d) (lowest_up m (count_trailing_zeros w (m / 2)) d (lowest_zeros w (m / 2) (omega arith) (omega arith))))
    (λ (d : m % 2 ≡ 0 → ⊥). rw (under_odd (m % 2) (count_trailing_zeros w (m / 2)) (omega arith)) (bit_of_zero m ∙ grind (arith, nat_tests), λ k l. absurd (omega arith)))
    (cases_eq (m % 2) 0)

pub zeros_bits : (w m : ℕ) → 0 < m → m < 2 ^ w → (bit_of m (count_trailing_zeros w m) ≡ true) × ((k : ℕ) → k < count_trailing_zeros w m → bit_of m k ≡ false)
unfolding LowestAt
zeros_bits w m p h = lowest_zeros w m p h

-- one less than a figure has the same bits above its lowest 1, and not that one
pub bit_of_rest : (m n k : ℕ) → bit_of m n ≡ true → ((j : ℕ) → j < n → bit_of m j ≡ false) → (bit_of m k && bit_of (m - 1) k) ≡ (bit_of m k && not (eqb k n))
bit_of_rest m zero zero h below =
    let low = sym (bit_of_zero m) ∙ h in
    let less = bit_of_zero (m - 1) in
    grind (arith, nat_tests)
bit_of_rest m zero (suc k) h below =
    let low = sym (bit_of_zero m) ∙ h in
    let odd : m % 2 ≡ 1 = grind (arith, nat_tests) in
    let half : (m - 1) / 2 ≡ m / 2 = omega arith in
    let same : bit_of (m - 1) (suc k) ≡ bit_of m (suc k) = bit_of_suc (m - 1) k ∙ ap (λ (x : ℕ). bit_of x k) half ∙ sym (bit_of_suc m k) in
    ap (λ (b : Bool). bit_of m (suc k) && b) same ∙ grind (arith, nat_tests)
bit_of_rest m (suc n) zero h below =
    let none = below 0 (omega arith) in
    ap (λ (b : Bool). b && bit_of (m - 1) 0) none ∙ sym (ap (λ (b : Bool). b && not (eqb 0 (suc n))) none)
bit_of_rest m (suc n) (suc k) h below =
    let none = sym (bit_of_zero m) ∙ below 0 (omega arith) in
    let even : m % 2 ≡ 0 = grind (arith, nat_tests) in
    let half : (m - 1) / 2 ≡ m / 2 - 1 = omega arith in
    let here = bit_of_suc m k in
    let there : bit_of (m - 1) (suc k) ≡ bit_of (m / 2 - 1) k = bit_of_suc (m - 1) k ∙ ap (λ (x : ℕ). bit_of x k) half in
    let next : eqb k n ≡ eqb (suc k) (suc n) = grind (arith, nat_tests) in
    ap₂ (λ (a b : Bool). a && b) here there ∙ bit_of_rest (m / 2) n k (sym (bit_of_suc m n) ∙ h) (λ j l. sym (bit_of_suc m j) ∙ below (suc j) (omega arith)) ∙ ap₂ (λ (a b : Bool). a && not b) (sym here) next

-- a figure of w bits has none from w on
pub bit_past : (w m k : ℕ) → m < 2 ^ w → w ≤ k → bit_of m k ≡ false
bit_past zero m k h l = let e : m ≡ 0 = omega arith in rw e (bit_of_none k)
bit_past (suc w) m zero h l = absurd (omega arith)
bit_past (suc w) m (suc k) h l = let e = pow-suc 2 w in bit_of_suc m k ∙ bit_past w (m / 2) k (omega arith) (omega arith)
