-- Levels that stay as they were, and rows filled up with 255.
use Rattle.std.proofs.Common.{◌≡◌, ℕ, ◌+◌, ◌-◌, ◌<◌, ◌≤◌, List, length, get_or, drop, set, replicate, sym, ap, ◌∙◌, arith}
use Rattle.std.proofs.lemmas.List.{ext_get_or, get_or-drop, length-drop, length-replicate, get_or-replicate, get_or-set_other}
use Rattle.forward.specs.declared.Level.{Level}
use Rattle.choices.specs.Steps.{Filled, no_level, Unmoved}

pub unmoved_on : (d : ℕ) (was mid is : List Level) → Unmoved d was mid → Unmoved d mid is → Unmoved d was is
unmoved_on d was mid is a b k l = b k l ∙ a k l

-- over the writing of the next level
pub unmoved_set : (d : ℕ) (was : List Level) (next : Level) → Unmoved d was (set was (d + 1) next)
unmoved_set d was next k l = get_or-set_other was (d + 1) k next no_level (λ e. omega arith)

pub unmoved_next : (d : ℕ) (was is : List Level) (next : Level) → Unmoved (d + 1) (set was (d + 1) next) is → Unmoved d was is
unmoved_next d was is next unmoved k l = unmoved k (omega arith) ∙ unmoved_set d was next k l

pub rest_filled : (n : ℕ) (row : List ℕ) → n ≤ 16 → length row ≡ 16 → ((line : ℕ) → n ≤ line → line < 16 → get_or row line 0 ≡ 255) → Filled n row
rest_filled n row few long rest =
    ext_get_or 0 (drop n row) (replicate (16 - n) 255) (length-drop n row ∙ ap (λ (k : ℕ). k - n) long ∙ sym (length-replicate (16 - n) 255))
    (λ i h. let l : i < 16 - n = omega (arith, h, length-drop n row, long) in get_or-drop n row i 0 ∙ rest (n + i) (omega arith) (omega arith) ∙ sym (get_or-replicate (16 - n) i 255 0 l))
