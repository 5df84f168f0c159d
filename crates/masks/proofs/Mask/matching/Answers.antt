use Rattle.std.proofs.Common.{rules, ◌≡◌, ℕ, ◌*◌, ◌%◌, ◌^◌, ◌<◌, Bool, false, cond, ◌&&◌, ◌||◌, eqb, bit_or, ◌∙◌, ⊎_elim, arith}
use Rattle.std.proofs.lemmas.Bool.Decides.{nat_tests}
use Rattle.std.proofs.lemmas.Bool.{cases_eq}
use Rattle.masks.specs.Members.{is_option, has}
use Rattle.masks.proofs.Members.{has_none, has_bit}
use Rattle.masks.proofs.Mask.matching.Goals as goal

pub loop-option-init : goal.loop-option-init
loop-option-init g c = record { seen = λ k l. absurd (omega arith); unseen = λ k l. has_none k }

-- what one option more does to the others and to itself
other : (o k : ℕ) (b was is : Bool) → is ≡ (was || (b && (is_option k && eqb k o))) → (k ≡ o → ⊥) → is ≡ was
other o k b was is h ne = grind (arith, nat_tests)

itself : (o : ℕ) (b was is : Bool) → o < 16 → was ≡ false → is ≡ (was || (b && (is_option o && eqb o o))) → is ≡ b
itself o b was is l none h = grind (arith, nat_tests)

pub loop-option-preserved : goal.loop-option-preserved
loop-option-preserved g c =
    let bits = c.loop-option.bits in
    let o = c.loop-option.option in
    let b = c.test.result in
    let so_far = c.loop-option.invariant in
    let one : c.from.result ≡ cond c.test.result 1 0 = search rules in
    let step : (k : ℕ) → has (record { bits = bit_or bits ((c.from.result * 2 ^ o) % 2 ^ 16) }) k ≡ (has (record { bits = bits }) k || (b && (is_option k && eqb k o))) = λ k. rw one (has_bit bits b o k c.loop-option-test.true) in
    record {
      seen = λ k l. ⊎_elim
          (λ (e : k ≡ o). rw (e, itself o b _ _ c.loop-option-test.true (so_far.unseen o (omega arith)) (step o)) c.test.ensures)
          (λ (ne : k ≡ o → ⊥). rw (other o k b _ _ (step k) ne) (so_far.seen k (omega arith)))
          (cases_eq k o);
      unseen = λ k l. other o k b _ _ (step k) (λ e. omega arith) ∙ so_far.unseen k (omega arith);
    }
