use Rattle.std.proofs.Common.{subst, sym}
use Rattle.ctd_limits.specs.inner.Elements.{HighsOfElement}
use Rattle.ctd_limits.proofs.Valuing.{number_push, when_ok}
use Rattle.ctd_limits.proofs.element.all_highs.Goals as goal

pub returns-in-Some : goal.returns-in-Some
returns-in-Some c = when_ok c.with_bound.result (λ all same. subst (λ l. HighsOfElement c.args.state c.args.array c.args.first c.args.second l) (sym same) (number_push c.args.state c.args.array c.args.first c.args.second c.in_ok-all.all.items c.in-Some.b c.in-Some.ensures c.in_ok-all.ensures)) c.with_bound.ensures
