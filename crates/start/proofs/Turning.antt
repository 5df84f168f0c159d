-- The ways of a wall's network can be followed either way.
use Rattle.std.proofs.Common.{◌≡◌, ℕ, ◌+◌, ◌-◌, ◌<◌, ◌≤◌, Bool, true, false, List, [], get_or, Some, None, Option, refl, ⊎_elim, arith}
use Rattle.std.proofs.lemmas.Bool.{cases_lt}
use Rattle.std.proofs.lemmas.Bool.Decides.{nat_tests}
use Rattle.wall.specs.declared.rule.PairRule.{PairRule}
use Rattle.wall.specs.declared.wall.Wall.{Wall}
use Rattle.wall.specs.Rules.{is_filed}
use Rattle.network.specs.declared.Network.{Network}
use Rattle.network.proofs.WayLaws.{way_below}
use Rattle.network.specs.Ways.{no_ways, is_from, allows_at, by_way, IsNetwork}
use Rattle.forward.specs.Fits.{rules_of}
use Rattle.start.specs.Networks.{turned, AreApart, LeadBack, LeaveBack}
use Rattle.start.specs.declared.problem.Problem.{Problem}
use Rattle.start.specs.Starts.{Sound}

-- a filed rule joins two different lines
no_loop : (lines : ℕ) (rule : Option PairRule) (line : ℕ) → is_filed lines rule ≡ true → is_from rule line line ≡ false
no_loop lines None line filed = refl
no_loop lines (Some rule) line filed = grind (arith, nat_tests)

-- a meaning of rules, turned round by the way back
by_turned : (meaning : Option PairRule → ℕ → ℕ → Bool) (rules : List (Option PairRule)) (way a b : ℕ) → way < 48 → (turned way < 48) × (by_way meaning rules (turned way) b a ≡ by_way meaning rules way a b)
by_turned meaning rules way a b l = ⊎_elim (λ (e : way < 24). grind (arith, nat_tests)) (λ (e : 24 ≤ way). let i : 24 + (way - 24) ≡ way = omega arith in grind (arith, nat_tests)) (cases_lt way 24)

module _ (wall : Wall) (net : Network) (is : IsNetwork wall.rules net.ways net.tables) where
  pub apart : AreApart net.ways
  apart way line l =
      let h = is.joined line line way l l in
      let there = no_loop wall.lines (get_or wall.rules way None) line (wall.filed way) in
      let back = no_loop wall.lines (get_or wall.rules (way - 24) None) line (wall.filed (way - 24)) in
      grind (arith, nat_tests)

  pub back : LeadBack net.ways
  back way line other l o h =
      let w = way_below (get_or (get_or net.ways line []) other no_ways) way h in
      let e = is.joined line other way l o in
      let f = is.joined other line (turned way) o l in
      let t = by_turned is_from wall.rules way line other w in
      grind (arith, nat_tests)

  pub both : LeaveBack net.tables
  both way x y w s t h =
      let b = by_turned allows_at wall.rules way x y w in
      let e = is.left way x y w s in
      let f = is.left (turned way) y x b.0 t in
      grind (arith, nat_tests)

-- the rules of a problem can be followed either way
pub sound : (p : Problem) (passes : ℕ → List ℕ → Bool) → Sound (rules_of p.lines p.net passes)
sound p passes =
    let few : p.lines ≤ 16 = p.few in
    record {
      few = few;
      apart = λ line way l h. (let e = p.apart way line (omega arith) in cc);
      back = λ line other way l o h. (
        turned way,
        p.back way line other (omega arith) (omega arith) h,
        (λ x y s t left. p.both way x y (way_below _ way h) s t left),
      );
    }
