use Rattle.ctd_traps.proofs.Common.{sym, ◌∙◌}
use Rattle.ctd_traps.proofs.Sparing.{names_on, not_same}
use Rattle.ctd_traps.proofs.spare.spares_names.Goals as goal

pub loop-other-preserved : goal.loop-other-preserved
loop-other-preserved c = λ rest.
    names_on c.args.name.now c.args.names.now c.loop-other.other-index c.other-item.result c.loop-other-test.true c.other-item.is
    (λ same. not_same c.as_slice.result.now c.args.name.now (sym c.eq.ensures ∙ c.if-eq.false) (same ∙ sym c.as_slice.ensures.whole)) c.loop-other.invariant rest
