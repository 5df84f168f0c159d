-- The laws of sets of options. Assumes nothing.
use Rattle.std.proofs.Common.{◌≡◌, ℕ, zero, suc, ◌-◌, ◌*◌, ◌%◌, ◌^◌, ◌<◌, ◌≤◌, Bool, true, false, cond, not, ◌&&◌, ◌||◌, eqb, ltb, ◌⊎◌, Some, Decides, sym, zero-mul, refl, ap, ◌∙◌, inl, inr, ⊎_elim, arith}
use lib.Bits.{bit_and, bit_or, bit_xor}
use lib.Count.{ones, count_trailing_zeros}
use Rattle.std.proofs.lemmas.Nat.{one_shl}
use Rattle.std.proofs.lemmas.Bool.Decides.{nat_tests}
use Rattle.std.proofs.lemmas.Bool.{cases_eq, cases_lt, cases_Bool, both_ways, and_parts, and_from, and_right, ltb-true, lt-ltb, le-ltb, eq-eqb, eqb-true, not_from_true}
use Rattle.masks.specs.declared.Mask.{Mask}
use Rattle.masks.specs.Members.{is_option, bit_of, has, size, Least, SplitLeast, SameMembers}
use Rattle.masks.proofs.Bits.{bit_of_none, bit_of_pow, bit_of_ones, bit_of_and, bit_of_or, bit_of_minus, bit_of_rest, bits_same, ones_bits, zeros_bits, bit_past}
use Rattle.masks.proofs.Counts.{how_many_same, how_many_less}

-- what is in a set is an option
pub has_option : (m : Mask) (k : ℕ) → has m k ≡ true → k < 16
unfolding has
has_option m k h = ltb-true k 16 (and_parts (is_option k) (bit_of m.bits k) h).0

-- the set of a figure's bits
pub has_bits : (n k : ℕ) → has (record { bits = n }) k ≡ (is_option k && bit_of n k)
unfolding has
has_bits n k = refl

pub has_none : (k : ℕ) → has (record { bits = 0 }) k ≡ false
unfolding has
has_none k = and_right (is_option k) (bit_of 0 k) (bit_of_none k)

-- the figure of one option, or none
pub has_only : (o n k : ℕ) → n ≡ cond (is_option o) (2 ^ o) 0 → has (record { bits = n }) k ≡ (is_option k && eqb k o)
unfolding has
has_only o n k e =
    ⊎_elim
    (λ (l : o < 16). let f : n ≡ 2 ^ o = e ∙ ap (λ (b : Bool). cond b (2 ^ o) 0) (lt-ltb o 16 l) in ap (λ x. is_option k && bit_of x k) f ∙ ap (λ (b : Bool). is_option k && b) (bit_of_pow o k))
    (λ (l : 16 ≤ o).
    let f : n ≡ 0 = e ∙ ap (λ (b : Bool). cond b (2 ^ o) 0) (le-ltb o 16 l) in
    ap (λ x. is_option k && bit_of x k) f ∙ and_right (is_option k) (bit_of 0 k) (bit_of_none k) ∙ grind (arith, nat_tests))
    (cases_lt o 16)

pub has_first : (n k : ℕ) → has (record { bits = 2 ^ n - 1 }) k ≡ (is_option k && ltb k n)
unfolding has
has_first n k = ap (λ (b : Bool). is_option k && b) (bit_of_ones n k)

share : (p x y : Bool) → (p && (x && y)) ≡ ((p && x) && (p && y))
share true x y = refl
share false x y = refl

spread : (p x y : Bool) → (p && (x || y)) ≡ ((p && x) || (p && y))
spread true x y = refl
spread false x y = refl

less : (p x y : Bool) → (p && (x && not y)) ≡ ((p && x) && not (p && y))
less true x y = refl
less false x y = refl

apart : (p x y : Bool) → (p && (x && not y)) ≡ ((p && x) && not y)
apart true x y = refl
apart false x y = refl

pub has_both : (a b : Mask) (k : ℕ) → has (record { bits = bit_and a.bits b.bits }) k ≡ (has a k && has b k)
unfolding has
has_both a b k = ap (λ (t : Bool). is_option k && t) (bit_of_and a.bits b.bits k) ∙ share (is_option k) _ _

pub has_either : (a b : Mask) (k : ℕ) → has (record { bits = bit_or a.bits b.bits }) k ≡ (has a k || has b k)
unfolding has
has_either a b k = ap (λ (t : Bool). is_option k && t) (bit_of_or a.bits b.bits k) ∙ spread (is_option k) _ _

pub has_minus : (a b : Mask) (k : ℕ) → has (record { bits = bit_xor a.bits (bit_and a.bits b.bits) }) k ≡ (has a k && not (has b k))
unfolding has
has_minus a b k = ap (λ (t : Bool). is_option k && t) (bit_of_minus a.bits b.bits k) ∙ less (is_option k) _ _

-- a set less one of its options is smaller
pub size_without : (m r : Mask) (o : ℕ) → ((k : ℕ) → has r k ≡ (has m k && not (eqb k o))) → has m o ≡ true → size r < size m
size_without m r o h t =
    how_many_less (has r) (has m) 16 o (λ k l p. (and_parts (has m k) (not (eqb k o)) (sym (h k) ∙ p)).0) (has_option m o t)
    (h o ∙ and_right (has m o) (not (eqb o o)) (not_from_true (eqb o o) (eq-eqb o o refl))) t

-- how many ones a figure has is how many options its set has
pub size_ones : (m : Mask) → m.bits < 2 ^ 16 → ones m.bits ≡ size m
unfolding has
size_ones m h = ones_bits 16 m.bits h ∙ how_many_same _ _ 16 (λ k l. sym (ap (λ (b : Bool). b && bit_of m.bits k) (lt-ltb k 16 l)))

-- the lowest option of a set that has one
pub least_zeros : (m : Mask) → m.bits < 2 ^ 16 → (m.bits ≡ 0 → ⊥)
    → (has m (count_trailing_zeros 16 m.bits) ≡ true) × ((k : ℕ) → k < count_trailing_zeros 16 m.bits → has m k ≡ false)
unfolding has
least_zeros m h ne =
    let z = zeros_bits 16 m.bits (omega arith) h in
    let n = count_trailing_zeros 16 m.bits in
    let in16 : n < 16 = ⊎_elim (λ (l : n < 16). l) (λ (l : 16 ≤ n). absurd (both_ways (bit_of m.bits n) (bit_past 16 m.bits n h l) z.0)) (cases_lt n 16) in
    (and_from (is_option n) (bit_of m.bits n) (lt-ltb n 16 in16) z.0, λ k l. and_right (is_option k) (bit_of m.bits k) (z.1 k l))

-- a set that has an option has a 1 among its bits
pub bits_some : (m : Mask) (n : ℕ) → has m n ≡ true → 0 < m.bits
unfolding has
bits_some m n h = ⊎_elim (λ (e : m.bits ≡ 0). absurd (both_ways (has m n) (ap (λ (b : ℕ). is_option n && bit_of b n) e ∙ and_right (is_option n) (bit_of 0 n) (bit_of_none n)) h))
    (λ (e : m.bits ≡ 0 → ⊥). omega arith)
    (cases_eq m.bits 0)

-- a set without its least option
pub split_least : (m : Mask) (n : ℕ) → Least (has m) (Some n) → SplitLeast m (Some (n, record { bits = bit_and m.bits (m.bits - 1) }))
unfolding has
split_least m n least = (least, members, size_without m rest n members least.0)
  where
    rest : Mask
    rest = record { bits = bit_and m.bits (m.bits - 1) }

    bit : (k : ℕ) → k < 16 → has m k ≡ bit_of m.bits k
    bit k l = ap (λ (b : Bool). b && bit_of m.bits k) (lt-ltb k 16 l)

    n16 : n < 16
    n16 = has_option m n least.0

    members : (k : ℕ) → has rest k ≡ (has m k && not (eqb k n))
    members k = ap (λ (b : Bool). is_option k && b) (bit_of_and m.bits (m.bits - 1) k ∙ bit_of_rest m.bits n k (sym (bit n n16) ∙ least.0) (λ j l. sym (bit j (omega (arith, n16))) ∙ least.1 j l)) ∙ apart (is_option k) (bit_of m.bits k) (eqb k n)

-- a set is known by its options
pub same_members : SameMembers
unfolding has
same_members a b p q h = ap (λ (n : ℕ). mask n) (bits_same 16 a.bits b.bits p q (λ k l.
    let t = lt-ltb k 16 l in
    sym (ap (λ (x : Bool). x && bit_of a.bits k) t) ∙ h k ∙ ap (λ (x : Bool). x && bit_of b.bits k) t))
  where
    mask : ℕ → Mask
    mask n = record { bits = n }

-- what is left without one option
pub without_only : (m one r : Mask) (o : ℕ) → ((k : ℕ) → has one k ≡ (is_option k && eqb k o)) → ((k : ℕ) → has r k ≡ (has m k && not (has one k)))
    → (k : ℕ) → has r k ≡ (has m k && not (eqb k o))
without_only m one r o h g k =
    g k ∙ ap (λ (b : Bool). has m k && not b) (h k) ∙ ⊎_elim
    (λ (t : has m k ≡ true). let s = lt-ltb k 16 (has_option m k t) in ap (λ (b : Bool). has m k && not (b && eqb k o)) s)
    (λ (t : has m k ≡ false). ap (λ (b : Bool). b && not (is_option k && eqb k o)) t ∙ sym (ap (λ (b : Bool). b && not (eqb k o)) t))
    (cases_Bool (has m k))

-- a figure of no bits is the empty set, and no other is
pub empty_bits : (m : Mask) → m.bits < 2 ^ 16 → Decides (eqb m.bits 0) ((k : ℕ) → has m k ≡ false)
unfolding has
empty_bits m h = (to, from)
  where
    to : eqb m.bits 0 ≡ true → (k : ℕ) → has m k ≡ false
    to e k = ap (λ (n : ℕ). is_option k && bit_of n k) (eqb-true m.bits 0 e) ∙ and_right (is_option k) (bit_of 0 k) (bit_of_none k)

    from : ((k : ℕ) → has m k ≡ false) → eqb m.bits 0 ≡ true
    from f = ⊎_elim (λ (e : m.bits ≡ 0). eq-eqb m.bits 0 e)
        (λ (e : m.bits ≡ 0 → ⊥). let l = least_zeros m h e in absurd (both_ways (has m (count_trailing_zeros 16 m.bits)) (f _) l.0))
        (cases_eq m.bits 0)

-- a set that is not empty has an option
found_below : (test : ℕ → Bool) (n : ℕ) → ((k : ℕ) × (test k ≡ true)) ⊎ ((k : ℕ) → k < n → test k ≡ false)
found_below test zero = inr (λ k l. absurd (omega arith))
found_below test (suc n) = ⊎_elim (λ (f : (k : ℕ) × (test k ≡ true)). inl f)
    (λ (f : (k : ℕ) → k < n → test k ≡ false). ⊎_elim (λ (t : test n ≡ true). inl (n, t))
    (λ (t : test n ≡ false). inr (λ k l. ⊎_elim (λ (e : k ≡ n). ap test e ∙ t) (λ (e : k ≡ n → ⊥). f k (omega arith)) (cases_eq k n)))
    (cases_Bool (test n)))
    (found_below test n)

pub some_option : (m : Mask) → (((k : ℕ) → has m k ≡ false) → ⊥) → (k : ℕ) × (has m k ≡ true)
some_option m some = ⊎_elim (λ (f : (k : ℕ) × (has m k ≡ true)). f)
    (λ (f : (k : ℕ) → k < 16 → has m k ≡ false). absurd (some (λ k. ⊎_elim (λ (t : has m k ≡ true). absurd (both_ways (has m k) (f k (has_option m k t)) t)) (λ (t : has m k ≡ false). t) (cases_Bool (has m k)))))
    (found_below (has m) 16)

-- one option more where a test says so
pub has_bit : (n : ℕ) (b : Bool) (o k : ℕ) → o < 16 → has (record { bits = bit_or n ((cond b 1 0 * 2 ^ o) % 2 ^ 16) }) k ≡ (has (record { bits = n }) k || (b && (is_option k && eqb k o)))
has_bit n true o k l = has_either (record { bits = n }) (record { bits = (1 * 2 ^ o) % 2 ^ 16 }) k ∙ ap (λ (t : Bool). has (record { bits = n }) k || t) (has_only o ((1 * 2 ^ o) % 2 ^ 16) k (one_shl o 16 l ∙ sym (ap (λ (t : Bool). cond t (2 ^ o) 0) (lt-ltb o 16 l))))
has_bit n false o k l = has_either (record { bits = n }) (record { bits = (0 * 2 ^ o) % 2 ^ 16 }) k ∙ ap (λ (t : Bool). has (record { bits = n }) k || t) (ap (λ (z : ℕ). has (record { bits = z % 2 ^ 16 }) k) (zero-mul (2 ^ o)) ∙ has_none k)
