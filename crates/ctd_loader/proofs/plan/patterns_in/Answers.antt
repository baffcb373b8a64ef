use Rattle.std.proofs.Common.{List, ap, ◌∙◌, subst, IfOk}
use Rattle.ctd_program.specs.declared.tree.PatternLiteral.{PatternLiteral}
use Rattle.ctd_loader.specs.inner.Literals.{literals_at}
use Rattle.ctd_loader.specs.Loading.{ArePatterns}
use Rattle.ctd_loader.proofs.plan.patterns_in.Goals as goal

pub returns-clause-are_patterns : goal.returns-clause-are_patterns
returns-clause-are_patterns c =
    let P : List PatternLiteral → Type 0 = λ x. IfOk c.build_all.result (λ _. ArePatterns x) in
    subst P (ap literals_at c.as_slice.ensures.value ∙ c.in_ok-found.ensures.literals) c.build_all.ensures.are_patterns
