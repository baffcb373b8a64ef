use Rattle.std.proofs.Common.{All, List, ℕ, subst, sym}
use Rattle.std.proofs.lemmas.List.Elements.{All-push}
use Rattle.ctd_pattern.specs.Pattern.{IsPattern}
use Rattle.ctd_loader.proofs.Loads.{memory_alone}
use Rattle.ctd_loader.proofs.plan.add_pattern.Goals as goal

pub returns-in_err-push-clause-bad : goal.returns-in_err-push-clause-bad
returns-in_err-push-clause-bad c = memory_alone _ _ c.from_residual-in_err-push.ensures

pub returns-clause-is_pattern : goal.returns-clause-is_pattern
returns-clause-is_pattern c all = let P : List ℕ → Type 0 = λ x. IsPattern x in subst P c.in_ok-pattern.ensures.literal c.in_ok-pattern.ensures.is_pattern

pub returns-clause-patterns : goal.returns-clause-patterns
returns-clause-patterns c all =
    let P : List (List ℕ) → Type 0 = λ ps. All IsPattern ps in
    subst P (sym c.in_ok-push.ensures.items) (All-push IsPattern c.args.patterns.now.items c.in_ok-pattern.pattern all c.in_ok-pattern.ensures.is_pattern)
