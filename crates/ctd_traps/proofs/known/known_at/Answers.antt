use Rattle.ctd_traps.proofs.Common.{subst}
use Rattle.ctd_traps.proofs.Knowing.{told_by}
use Rattle.ctd_traps.specs.inner.Knowing.{SomeStands}
use Rattle.ctd_traps.proofs.known.known_at.Goals as goal

pub returns-in-None : goal.returns-in-None
returns-in-None c = λ h one. subst (λ o. SomeStands c.args.context o h) c.in-None.is (c.in_ok-all.ensures h one)

pub returns-in_ok-known-in-Some : goal.returns-in_ok-known-in-Some
returns-in_ok-known-in-Some c = λ h one. told_by c.args.context c.in-Some.state c.in_ok-known-in-Some.known.items h c.in_ok-known-in-Some.ensures (subst (λ o. SomeStands c.args.context o h) c.in-Some.is (c.in_ok-all.ensures h one))
