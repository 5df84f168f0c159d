-- What follows from the laws of a strict total order, whatever test is the order.
use Rattle.std.proofs.Common.{◌≡◌, Bool, true, false, not, refl, sym, ap, ◌∙◌, ⊎_elim}
use Rattle.std.proofs.lemmas.Bool.{cases_Bool, both_ways}
use Rattle.order.specs.Orders.{InOrder}

module _ {X : Type 0} {before : X → X → Bool} (o : InOrder before) where
  -- never both ways round
  pub asym : (a b : X) → before a b ≡ true → before b a ≡ false
  asym a b p = ⊎_elim (λ (q : before b a ≡ true). absurd (both_ways (before a a) (o.never a) (o.through a b a p q))) (λ (q : before b a ≡ false). q) (cases_Bool (before b a))

  -- of two that are apart, the one that does not go before goes behind
  turned : (a b : X) → (a ≡ b → ⊥) → before a b ≡ false → before b a ≡ true
  turned a b ne p = o.one b a (λ e. ne (sym e)) ∙ ap not p

  -- what goes before b goes before all that do not go before b
  pub ahead : (a b c : X) → before a b ≡ true → before c b ≡ false → before a c ≡ true
  ahead a b c p q =
      ⊎_elim (λ (r : before a c ≡ true). r)
      (λ (r : before a c ≡ false).
      let up = turned a c (λ e. both_ways (before a b) (ap (λ x. before x b) e ∙ q) p) r in
      absurd (both_ways (before c b) q (o.through c a b up p)))
      (cases_Bool (before a c))

  -- all that b does not go before go before what b goes before
  pub behind : (a b c : X) → before b c ≡ true → before b a ≡ false → before a c ≡ true
  behind a b c p q =
      ⊎_elim (λ (r : before a c ≡ true). r)
      (λ (r : before a c ≡ false).
      let up = turned a c (λ e. both_ways (before b c) (ap (before b) (sym e) ∙ q) p) r in
      absurd (both_ways (before b a) q (o.through b c a p up)))
      (cases_Bool (before a c))

  -- two of which neither goes before the other are not apart
  pub not_apart : (a b : X) → before a b ≡ false → before b a ≡ false → (a ≡ b → ⊥) → ⊥
  not_apart a b p q ne = both_ways (before b a) q (turned a b ne p)

  -- and no test tells them from one another
  pub alike : (a b : X) → before a b ≡ false → before b a ≡ false → (test : X → Bool) → test a ≡ test b
  alike a b p q test = at (test a) (test b) (λ n. not_apart a b p q (λ e. n (ap test e)))
    where
      at : (s t : Bool) → ((s ≡ t → ⊥) → ⊥) → s ≡ t
      at true true n = refl
      at false false n = refl
      at true false n = absurd (n (λ e. cc))
      at false true n = absurd (n (λ e. cc))
