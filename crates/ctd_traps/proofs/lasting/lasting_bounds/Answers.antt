use Rattle.ctd_traps.proofs.Common.{ap, subst, sym, ◌∙◌}
use Rattle.ctd_traps.proofs.KeptLimits.{lasting_push}
use Rattle.ctd_traps.specs.inner.Turns.{AreLasting}
use Rattle.ctd_traps.proofs.lasting.lasting_bounds.Goals.{then-stays+in_ok-push, else-stays}
use Rattle.ctd_traps.proofs.lasting.lasting_bounds.Goals as goal

pub loop-b-preserved : goal.loop-b-preserved
loop-b-preserved c =
    let names = c.args.context.names.now in
    let l = c.args.repeated.now in
    let bounds = c.args.bounds.now in
    elim c.if-stays.branch [
      | then-stays+in_ok-push w ↦ subst (AreLasting names l bounds) (sym (ap (λ q. q.items) w.after-is ∙ w.in_ok-push.ensures.items))
          (lasting_push names l bounds c.loop-b.after.items c.loop-b.b-index _ c.loop-b-test.true (c.stays.ensures w.if-stays.true) c.loop-b.invariant)
      | else-stays w ↦ subst (AreLasting names l bounds) (sym (ap (λ q. q.items) w.after-is)) c.loop-b.invariant
    ]
