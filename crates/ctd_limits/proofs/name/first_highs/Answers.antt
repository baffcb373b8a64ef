use Rattle.std.proofs.Common.{subst, sym}
use Rattle.ctd_limits.specs.inner.Named.{HighsOf}
use Rattle.ctd_limits.proofs.Naming.{own_high, two_highs}
use Rattle.ctd_limits.proofs.name.first_highs.Goals as goal

pub returns-in-Some : goal.returns-in-Some
returns-in-Some c = two_highs c.args.state c.args.b c.in-Some.c c.in_ok-own.own.items c.with_bound.result c.in_ok-own.ensures c.in-Some.ensures c.with_bound.ensures

pub returns-in-None : goal.returns-in-None
returns-in-None c = subst (λ l. HighsOf c.args.state c.args.b l) (sym c.in_ok-own.ensures) (own_high c.args.state c.args.b)
