-- The laws of sets of ways. Assumes nothing.
use Rattle.std.proofs.Common.{◌≡◌, ℕ, ◌*◌, ◌%◌, ◌^◌, ◌<◌, ◌≤◌, Bool, true, false, Some, not, ◌&&◌, ◌||◌, eqb, ltb, sym, refl, ap, ◌∙◌, ⊎_elim, arith}
use lib.Bits.{bit_and, bit_or, bit_xor}
use lib.Count.{count_trailing_zeros, trailing_of_zero}
use Rattle.std.proofs.lemmas.Nat.{one_shl}
use Rattle.std.proofs.lemmas.Bool.{cases_eq, cases_lt, and_parts, and_from, and_left, and_right, ltb-true, lt-ltb, le-ltb, eq-eqb, not_from_true}
use Rattle.masks.specs.Members.{bit_of, how_many}
use Rattle.masks.proofs.Bits.{bit_of_none, bit_of_pow, bit_of_or, bit_of_minus, zeros_bits}
use Rattle.masks.proofs.Counts.{how_many_less}
use Rattle.network.specs.declared.ways.WaySet.{WaySet}
use Rattle.network.specs.Ways.{has_way, no_ways, SplitOff}

pub way_none : (k : ℕ) → has_way no_ways k ≡ false
unfolding has_way
way_none k = and_right (ltb k 48) (bit_of 0 k) (bit_of_none k)

pub way_below : (s : WaySet) (k : ℕ) → has_way s k ≡ true → k < 48
unfolding has_way
way_below s k h = ltb-true k 48 (and_parts (ltb k 48) (bit_of s.bits k) h).0

spread : (p x y : Bool) → (p && (x || y)) ≡ ((p && x) || (p && y))
spread true x y = refl
spread false x y = refl

less : (p x y : Bool) → (p && (x && not y)) ≡ ((p && x) && not y)
less true x y = refl
less false x y = refl

-- one way more
pub way_with : (s : WaySet) (o k : ℕ) → o < 48 → has_way (record { bits = bit_or s.bits ((1 * 2 ^ o) % 2 ^ 64) }) k ≡ (has_way s k || (ltb k 48 && eqb k o))
unfolding has_way
way_with s o k l =
    ap (λ (b : ℕ). ltb k 48 && bit_of (bit_or s.bits b) k) (one_shl o 64 (omega arith)) ∙ ap (λ (b : Bool). ltb k 48 && b) (bit_of_or s.bits (2 ^ o) k ∙ ap (λ (b : Bool). bit_of s.bits k || b) (bit_of_pow o k))
    ∙ spread (ltb k 48) (bit_of s.bits k) (eqb k o)

-- one way less
pub way_less : (s : WaySet) (o k : ℕ) → o < 48 → has_way (record { bits = bit_xor s.bits (bit_and s.bits ((1 * 2 ^ o) % 2 ^ 64)) }) k ≡ (has_way s k && not (eqb k o))
unfolding has_way
way_less s o k l =
    ap (λ (b : ℕ). ltb k 48 && bit_of (bit_xor s.bits (bit_and s.bits b)) k) (one_shl o 64 (omega arith))
    ∙ ap (λ (b : Bool). ltb k 48 && b) (bit_of_minus s.bits (2 ^ o) k ∙ ap (λ (b : Bool). bit_of s.bits k && not b) (bit_of_pow o k))
    ∙ less (ltb k 48) (bit_of s.bits k) (eqb k o)

pub fewer_ways : (s r : WaySet) (o : ℕ) → has_way s o ≡ true → ((k : ℕ) → has_way r k ≡ (has_way s k && not (eqb k o))) → how_many (has_way r) 48 < how_many (has_way s) 48
fewer_ways s r o h g =
    how_many_less (has_way r) (has_way s) 48 o (λ k l p. (and_parts (has_way s k) (not (eqb k o)) (sym (g k) ∙ p)).0) (way_below s o h)
    (g o ∙ and_right (has_way s o) (not (eqb o o)) (not_from_true (eqb o o) (eq-eqb o o refl))) h

-- the lowest way
pub lowest_way : (s : WaySet) → s.bits < 2 ^ 64 → count_trailing_zeros 64 s.bits < 48 → has_way s (count_trailing_zeros 64 s.bits) ≡ true
unfolding has_way
lowest_way s fits l =
    ⊎_elim
    (λ (e : s.bits ≡ 0). let z : count_trailing_zeros 64 s.bits ≡ 64 = ap (count_trailing_zeros 64) e ∙ trailing_of_zero 64 in absurd (omega arith))
    (λ (e : s.bits ≡ 0 → ⊥). and_from (ltb (count_trailing_zeros 64 s.bits) 48) (bit_of s.bits (count_trailing_zeros 64 s.bits)) (lt-ltb _ 48 l) (zeros_bits 64 s.bits (omega arith) fits).0)
    (cases_eq s.bits 0)

-- the lowest way apart from the others
pub lowest_apart : (s : WaySet) → s.bits < 2 ^ 64 → count_trailing_zeros 64 s.bits < 48
    → let way = count_trailing_zeros 64 s.bits in let rest : WaySet = record { bits = bit_xor s.bits (bit_and s.bits ((1 * 2 ^ way) % 2 ^ 64)) } in SplitOff s (Some way) rest
lowest_apart s fits l =
    let way = count_trailing_zeros 64 s.bits in
    let here = lowest_way s fits l in
    let others = λ (k : ℕ). way_less s way k l in
    (here, others, fewer_ways s _ way here others)

pub no_way : (s : WaySet) → s.bits < 2 ^ 64 → 48 ≤ count_trailing_zeros 64 s.bits → (k : ℕ) → has_way s k ≡ false
unfolding has_way
no_way s fits l k =
    ⊎_elim
    (λ (m : k < 48).
    ⊎_elim
    (λ (e : s.bits ≡ 0). and_right (ltb k 48) (bit_of s.bits k) (ap (λ (b : ℕ). bit_of b k) e ∙ bit_of_none k))
    (λ (e : s.bits ≡ 0 → ⊥). and_right (ltb k 48) (bit_of s.bits k) ((zeros_bits 64 s.bits (omega arith) fits).1 k (omega arith)))
    (cases_eq s.bits 0))
    (λ (m : 48 ≤ k). and_left (ltb k 48) (bit_of s.bits k) (le-ltb k 48 m))
    (cases_lt k 48)
