use Rattle.std.proofs.Common.{◌≡◌, ℕ, ◌-◌, ◌&&◌, ltb, ap, ◌∙◌, arith}
use Rattle.std.proofs.lemmas.Nat.{one_shl}
use Rattle.std.proofs.lemmas.Bool.Decides.{nat_tests}
use Rattle.masks.specs.Members.{is_option, has}
use Rattle.masks.proofs.Members.{has_first}
use Rattle.masks.proofs.Mask.first.Goals as goal

pub returns-then-count-lt16 : goal.returns-then-count-lt16
returns-then-count-lt16 c k =
    ap (λ (n : ℕ). has (record { bits = n - 1 }) k) (one_shl c.args.count 16 c.if-count-lt16.true) ∙ has_first c.args.count k

pub returns-else-count-lt16 : goal.returns-else-count-lt16
returns-else-count-lt16 c k =
    let h = c.if-count-lt16.false in
    let e : (is_option k && ltb k 16) ≡ (is_option k && ltb k c.args.count) = grind (arith, nat_tests) in
    has_first 16 k ∙ e
