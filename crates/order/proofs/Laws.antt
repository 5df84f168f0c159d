-- What follows from the laws of a total order for its test "goes before".
use Rattle.std.proofs.Common.{refl, ◌≡◌, true, false, not, ap, sym, ◌∙◌}
use Rattle.std.proofs.lemmas.Cmp.{tied_itself}
use Rattle.std.specs.Cmp.{IsTotalOrder}
use Rattle.std.specs.Ordering.{is_lt, ordering_reverse}
use Rattle.std.specs.declared.cmp.Ordering.{Ordering}
use Rattle.std.specs.declared.cmp.Ordering.TheVariants.{Less, Equal, Greater}
use Rattle.order.specs.Firsts.{before_by}
use Rattle.order.specs.Orders.{InOrder}

module _ {X : Type 0} {R : X → X → Ordering} (o : IsTotalOrder R) where
  -- no entry before itself
  pub never : (a : X) → is_lt (R a a) ≡ false
  never a = ap is_lt (tied_itself o a)

  pub less : (r : Ordering) → is_lt r ≡ true → r ≡ Less
  less Less h = refl
  less Equal h = cc
  less Greater h = cc

  -- never both ways round
  pub asym : (a b : X) → is_lt (R a b) ≡ true → is_lt (R b a) ≡ false
  asym a b p = ap is_lt (o.antisymm b a ∙ ap ordering_reverse (less (R a b) p))

  -- what goes before b goes before all that do not go before b
  pub ahead : (a b c : X) → is_lt (R a b) ≡ true → is_lt (R c b) ≡ false → is_lt (R a c) ≡ true
  ahead a b c p q = at (R c b) refl q
    where
      at : (r : Ordering) → r ≡ R c b → is_lt r ≡ false → is_lt (R a c) ≡ true
      at Less e h = cc
      at Equal e h =
          let back : R c a ≡ R b a = o.congr c b a (sym e) in
          ap is_lt (o.antisymm a c ∙ ap ordering_reverse (back ∙ o.antisymm b a ∙ ap ordering_reverse (less (R a b) p)))
      at Greater e h = ap is_lt (o.trans a b c (less (R a b) p) (o.antisymm b c ∙ ap ordering_reverse (sym e)))

  -- where only the same tie, the order is strict
  pub in_order : ((a b : X) → R a b ≡ Equal → a ≡ b) → InOrder (before_by R)
  in_order same = record { never = never; one = λ a b ne. one a b ne (R a b) refl; through = λ a b c p q. ap is_lt (o.trans a b c (less (R a b) p) (less (R b c) q)) }
    where
      one : (a b : X) → (a ≡ b → ⊥) → (r : Ordering) → r ≡ R a b → is_lt (R a b) ≡ not (is_lt (R b a))
      one a b ne Less e = let back = o.antisymm b a in rw (back, ← e) refl
      one a b ne Equal e = absurd (ne (same a b (sym e)))
      one a b ne Greater e = let back = o.antisymm b a in rw (back, ← e) refl
