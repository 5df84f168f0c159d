use Rattle.std.proofs.Common.{rules, ◌≡◌, ◌+◌, get_or, set, Ok, Err, sym, refl, ◌∙◌, subst, arith}
use Rattle.std.proofs.lemmas.List.{get_or-set_same}
use Rattle.std.proofs.lemmas.Bool.{and_parts}
use Rattle.masks.proofs.Members.{has_option}
use Rattle.forward.specs.Fits.{rules_of, Left}
use Rattle.forward.specs.declared.Level.{Level}
use Rattle.start.proofs.Turning.{sound}
use Rattle.choices.specs.Steps.{no_level}
use Rattle.choices.proofs.Jumping.{jump, learn, all_tried}
use Rattle.choices.proofs.Levels.{unmoved_on, unmoved_next}
use Rattle.lexical.specs.Ends.{Reached, Never, Ends, Followed}
use Rattle.lexical.proofs.Descent.{judged_ends, line_is_open, chosen_option, found_first, goes_on, ends_followed, stuck_followed}
use Rattle.lexical.proofs.Search.+descend_follow.Goals as goal

pub descend-returns-then-depth-self : goal.descend-returns-then-depth-self
descend-returns-then-depth-self g t c = record {
  ends = judged_ends (rules_of c.args.self.now.problem.now.lines c.args.self.now.problem.now.net (g.H.HouseRule.passing c.args.self.now.house.now)) (sound c.args.self.now.problem.now (g.H.HouseRule.passing c.args.self.now.house.now)) (g.R.Ranking.before c.args.self.now.ranking.now)
      c.args.depth (get_or c.args.levels.now c.args.depth no_level) c.args.row c.requires.reached c.if-depth-self.true c.judge.result c.judge.ensures;
  unmoved = λ k l. refl;
}

pub descend-follow-requires : goal.descend-follow-requires
descend-follow-requires g t c κs within =
    let same = sym (c.loop-option.invariant.2 c.args.depth (omega arith)) in (
      omega arith,
      (
        within.0,
        (
          within.1,
          (
            omega arith,
            (
              subst (λ (level : Level). Reached (rules_of c.args.self.now.problem.now.lines c.args.self.now.problem.now.net (g.H.HouseRule.passing c.args.self.now.house.now)) c.args.depth level c.args.row) same c.requires.reached,
              subst (λ (level : Level). Left level.masks c.args.depth c.in-Some.option) same (c.loop-option.invariant.0 c.in-Some.option c.in-Some.ensures.0),
            ),
          ),
        ),
      ),
    )

pub descend-returns-in-Ok : goal.descend-returns-in-Ok
descend-returns-in-Ok g t c =
    let r = rules_of c.args.self.now.problem.now.lines c.args.self.now.problem.now.net (g.H.HouseRule.passing c.args.self.now.house.now) in
    let before = g.R.Ranking.before c.args.self.now.ranking.now in
    record {
      ends = found_first r (sound c.args.self.now.problem.now (g.H.HouseRule.passing c.args.self.now.house.now)) before c.args.depth (get_or c.args.levels.now c.args.depth no_level) c.args.row c.requires.reached (omega arith) c.in-Some.option
          (g.met.R.Ranking.ranks c.args.self.now.ranking.now) c.places-places.result c.places-places.ensures c.loop-option.left c.loop-option.blame c.in-Some.ensures c.loop-option.invariant.1 c.in-Ok.found
          (subst (λ (level : Level). Followed r before level c.args.row c.args.depth c.in-Some.option (Ok c.in-Ok.found)) (c.loop-option.invariant.2 c.args.depth (omega arith)) c.in-Ok.ensures.followed);
      unmoved = unmoved_on c.args.depth c.args.levels.now c.loop-option.levels c.follow.new.levels c.loop-option.invariant.2 c.follow.ensures.unmoved;
    }

pub descend-returns-then-not-has : goal.descend-returns-then-not-has
descend-returns-then-not-has g t c =
    let r = rules_of c.args.self.now.problem.now.lines c.args.self.now.problem.now.net (g.H.HouseRule.passing c.args.self.now.house.now) in
    let before = g.R.Ranking.before c.args.self.now.ranking.now in
    let s = sound c.args.self.now.problem.now (g.H.HouseRule.passing c.args.self.now.house.now) in
    let level = get_or c.args.levels.now c.args.depth no_level in
    let x = c.in-Some.option in
    record {
      ends = jump r s level.masks level.causes c.args.row c.requires.reached.long c.requires.reached.placed c.requires.reached.blamed c.args.depth x (omega arith)
          (line_is_open r s before c.args.depth level c.args.row c.requires.reached (omega arith)) (has_option c.loop-option.left x c.in-Some.ensures.0) Never c.in-Err.conflict
          (subst (λ (level : Level). Followed r before level c.args.row c.args.depth x (Err c.in-Err.conflict)) (c.loop-option.invariant.2 c.args.depth (omega arith)) c.in-Err.ensures.followed)
          (sym c.has.ensures ∙ c.if-not-has.true);
      unmoved = unmoved_on c.args.depth c.args.levels.now c.loop-option.levels c.follow.new.levels c.loop-option.invariant.2 c.follow.ensures.unmoved;
    }

pub descend-loop-option-preserved : goal.descend-loop-option-preserved
descend-loop-option-preserved g t c =
    let r = rules_of c.args.self.now.problem.now.lines c.args.self.now.problem.now.net (g.H.HouseRule.passing c.args.self.now.house.now) in
    let before = g.R.Ranking.before c.args.self.now.ranking.now in
    let s = sound c.args.self.now.problem.now (g.H.HouseRule.passing c.args.self.now.house.now) in
    let level = get_or c.args.levels.now c.args.depth no_level in
    let x = c.in-Some.option in (
      (λ y h. c.loop-option.invariant.0 y (and_parts _ _ (sym (c.without-left.ensures.members y) ∙ h)).0),
      learn r s level.masks level.causes c.args.row c.requires.reached.long c.requires.reached.placed c.requires.reached.blamed c.args.depth x (omega arith)
          (line_is_open r s before c.args.depth level c.args.row c.requires.reached (omega arith)) (has_option c.loop-option.left x c.in-Some.ensures.0) Never c.in-Err.conflict
          (subst (λ (level : Level). Followed r before level c.args.row c.args.depth x (Err c.in-Err.conflict)) (c.loop-option.invariant.2 c.args.depth (omega arith)) c.in-Err.ensures.followed)
          Never (λ β fits e. e) c.loop-option.left c.without-left.result c.loop-option.blame c.without.result c.either-blame.result
          c.without.ensures.members c.either-blame.ensures c.without-left.ensures.members c.loop-option.invariant.1,
      unmoved_on c.args.depth c.args.levels.now c.loop-option.levels c.follow.new.levels c.loop-option.invariant.2 c.follow.ensures.unmoved,
    )

pub descend-returns : goal.descend-returns
descend-returns g t c =
    let s = sound c.args.self.now.problem.now (g.H.HouseRule.passing c.args.self.now.house.now) in
    let level = get_or c.args.levels.now c.args.depth no_level in
    record {
      ends = all_tried (rules_of c.args.self.now.problem.now.lines c.args.self.now.problem.now.net (g.H.HouseRule.passing c.args.self.now.house.now)) s level.masks level.causes c.args.row c.requires.reached.long c.requires.reached.placed c.requires.reached.blamed
          Never c.args.depth c.loop-option.left c.loop-option.blame c.in_default.ensures c.loop-option.invariant.1;
      unmoved = c.loop-option.invariant.2;
    }

pub follow-descend-requires : goal.follow-descend-requires
follow-descend-requires g t c κs within =
    let r = rules_of c.args.self.now.problem.now.lines c.args.self.now.problem.now.net (g.H.HouseRule.passing c.args.self.now.house.now) in
    let before = g.R.Ranking.before c.args.self.now.ranking.now in
    let s = sound c.args.self.now.problem.now (g.H.HouseRule.passing c.args.self.now.house.now) in
    let level = get_or c.args.levels.now c.args.depth no_level in
    let next = c.narrow.new.level in
    let few = s.few in
    let n = c.in_ok-narrow.ensures.0 (chosen_option r s before c.args.depth level c.args.row c.requires.reached c.requires.within c.args.option c.requires.left) in (
      omega arith,
      (
        within.0,
        (
          within.1,
          (
            omega arith,
            subst (λ (level : Level). Reached r (c.args.depth + 1) level (set c.args.row c.args.depth c.args.option)) (sym (get_or-set_same c.args.levels.now (c.args.depth + 1) next no_level (omega arith)))
                (goes_on r s before c.args.depth level c.args.row c.requires.reached c.requires.within c.args.option c.requires.left next n.0 n.1.0),
          ),
        ),
      ),
    )

pub follow-returns-in_err-narrow : goal.follow-returns-in_err-narrow
follow-returns-in_err-narrow g t c =
    let r = rules_of c.args.self.now.problem.now.lines c.args.self.now.problem.now.net (g.H.HouseRule.passing c.args.self.now.house.now) in
    let before = g.R.Ranking.before c.args.self.now.ranking.now in
    let s = sound c.args.self.now.problem.now (g.H.HouseRule.passing c.args.self.now.house.now) in
    let level = get_or c.args.levels.now c.args.depth no_level in
    let next = c.narrow.new.level in
    let n = c.in_err-narrow.ensures.0 (chosen_option r s before c.args.depth level c.args.row c.requires.reached c.requires.within c.args.option c.requires.left) in
    let blamed : c.from_residual.result ≡ Err c.in_err-narrow.field-0.0 = search rules in
    record {
      followed = rw blamed (stuck_followed r s before c.args.depth level c.args.row c.requires.reached c.requires.within c.args.option c.requires.left next n.0 c.in_err-narrow.field-0.0 n.1);
      unmoved = λ k l. refl;
    }

pub follow-returns : goal.follow-returns
follow-returns g t c =
    let r = rules_of c.args.self.now.problem.now.lines c.args.self.now.problem.now.net (g.H.HouseRule.passing c.args.self.now.house.now) in
    let before = g.R.Ranking.before c.args.self.now.ranking.now in
    let s = sound c.args.self.now.problem.now (g.H.HouseRule.passing c.args.self.now.house.now) in
    let level = get_or c.args.levels.now c.args.depth no_level in
    let next = c.narrow.new.level in
    let few = s.few in
    let n = c.in_ok-narrow.ensures.0 (chosen_option r s before c.args.depth level c.args.row c.requires.reached c.requires.within c.args.option c.requires.left) in
    record {
      followed = ends_followed r s before c.args.depth level c.args.row c.requires.reached c.requires.within c.args.option c.requires.left next n.0 c.descend.result
          (subst (λ (level : Level). Ends r before level (set c.args.row c.args.depth c.args.option) c.descend.result) (get_or-set_same c.args.levels.now (c.args.depth + 1) next no_level (omega arith)) c.descend.ensures.ends);
      unmoved = unmoved_next c.args.depth c.args.levels.now c.descend.new.levels next c.descend.ensures.unmoved;
    }
