use Rattle.std.proofs.Common.{Bool, ◌&&◌, sym, ap, ◌∙◌}
use Rattle.std.proofs.lemmas.Bool.{lt-ltb, le-ltb, and_left}
use Rattle.masks.specs.Members.{is_option, bit_of, has}
use Rattle.masks.proofs.Mask.has.Goals as goal

pub returns-then-option-lt16 : goal.returns-then-option-lt16
unfolding has bit_of
returns-then-option-lt16 c = sym (ap (λ (b : Bool). b && bit_of c.args.self.bits c.args.option) (lt-ltb c.args.option 16 c.if-option-lt16.true))

pub returns-else-option-lt16 : goal.returns-else-option-lt16
unfolding has
returns-else-option-lt16 c =
    let no_option = le-ltb c.args.option 16 c.if-option-lt16.false in
    no_option ∙ sym (and_left (is_option c.args.option) (bit_of c.args.self.bits c.args.option) no_option)
