use Rattle.std.proofs.Common.{inr, subst}
use Rattle.ctd_program.specs.calls.View.{command_trees}
use Rattle.ctd_syntax.specs.inner.PatternLiterals.{literals}
use Rattle.ctd_syntax.proofs.Weights.{few_blocks}
use Rattle.ctd_loader.specs.Loading.{ArePatterns, IsBadPattern}
use Rattle.ctd_loader.proofs.Loads.{has_bad_pattern, ready, refused_on_return}
use Rattle.ctd_loader.proofs.plan.Plan.read.Goals as goal

pub returns-in_err-patterns-clause-loads : goal.returns-in_err-patterns-clause-loads
returns-in_err-patterns-clause-loads c =
    refused_on_return command_trees c.args.text.now c.in_err-patterns.field-0.0 c.from_residual-in_err-patterns.result c.from_residual-in_err-patterns.ensures
    (λ other. inr (has_bad_pattern c.args.text.now (command_trees c.in_ok-program.program) _ c.in_ok-program.ensures.parses
    (subst (λ x. IsBadPattern (literals (command_trees x)) c.in_err-patterns.field-0.0) c.commands.ensures (c.in_err-patterns.ensures.bad other))))

pub returns-clause-loads : goal.returns-clause-loads
returns-clause-loads c =
    ready c.args.text.now (command_trees c.in_ok-program.program) c.in_ok-program.ensures.parses
    (subst (λ x. ArePatterns (literals (command_trees x))) c.commands.ensures c.in_ok-patterns.ensures.are_patterns)

pub invariant_of-result : goal.invariant_of-result
invariant_of-result c = (few_blocks c.args.text.now _ c.in_ok-program.ensures.parses, tt)
