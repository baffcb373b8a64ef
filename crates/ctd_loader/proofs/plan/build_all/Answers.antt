use Rattle.std.proofs.Common.{◌≤◌, length, arith, subst}
use Rattle.std.proofs.lemmas.List.{take_all}
use Rattle.ctd_loader.specs.inner.Literals.{literals_at}
use Rattle.ctd_loader.specs.Loading.{ArePatterns}
use Rattle.ctd_loader.proofs.Building.{bad_on_return, more_patterns}
use Rattle.ctd_loader.proofs.plan.build_all.Goals as goal

pub returns-in_err-add_pattern-clause-bad : goal.returns-in_err-add_pattern-clause-bad
returns-in_err-add_pattern-clause-bad c =
    bad_on_return c.args.literals.now c.loop-arguments.arguments-index c.arguments-item.result _ _ c.from_residual.ensures c.loop-arguments-test.true c.arguments-item.is c.loop-arguments.invariant.0 c.in_err-add_pattern.ensures.bad

pub loop-arguments-preserved : goal.loop-arguments-preserved
loop-arguments-preserved c =
    let known = c.loop-arguments.invariant in (
      more_patterns c.args.literals.now c.loop-arguments.arguments-index c.arguments-item.result c.loop-arguments-test.true c.arguments-item.is known.0 (c.in_ok-add_pattern.ensures.is_pattern known.1),
      c.in_ok-add_pattern.ensures.patterns known.1,
    )

pub returns-clause-are_patterns : goal.returns-clause-are_patterns
returns-clause-are_patterns c =
    let past : length c.args.literals.now ≤ c.loop-arguments.arguments-index = omega arith in
    subst (λ x. ArePatterns (literals_at x)) (take_all c.loop-arguments.arguments-index c.args.literals.now past) c.loop-arguments.invariant.0
