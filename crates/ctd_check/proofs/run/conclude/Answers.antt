use Rattle.std.proofs.Common.{[], ap, ◌∙◌, refl, Err}
use Rattle.ctd_command.proofs.Acts.{performs_map_ok}
use Rattle.ctd_outcome.specs.declared.outcome.Site.TheVariants.{Finish}
use Rattle.ctd_check.specs.inner.Halts.{halt_of}
use Rattle.ctd_check.specs.Loops.{finish}
use Rattle.ctd_check.specs.inner.FrameTasks.{to_do}
use Rattle.ctd_check.proofs.Running.{ends_done, ends_failed, ends_unpaid}
use Rattle.ctd_check.proofs.run.conclude.Goals as goal

pub returns-in-Err-clause-ends : goal.returns-in-Err-clause-ends
returns-in-Err-clause-ends g c =
    ends_unpaid c.args.run.now finish _ _ _ c.spot-spot.result c.of.result (Err c.of.result) (refl, refl) c.in-Err.ensures.none.0 c.in-Err.ensures.none.1 (ap to_do c.requires.done) c.spot-spot.ensures (c.of.ensures ∙ ap (halt_of c.spot-spot.result Finish) c.in-Err.ensures.limit)

pub returns-in-Ok-clause-ends : goal.returns-in-Ok-clause-ends
returns-in-Ok-clause-ends g c = ends_done c.args.run.now c.end.new.self finish _ _ _ c.in_default.ensures.paid (ap to_do c.requires.done) (performs_map_ok (λ _. []) c.in-Ok.ensures.performs)

pub returns-in-Err-end-clause-ends : goal.returns-in-Err-end-clause-ends
returns-in-Err-end-clause-ends g c =
    ends_failed c.args.run.now c.end.new.self finish _ _ _ c.spot-spot.result c.of-in-Err-end.result c.in-Err-end.failure c.in_default.ensures.paid (ap to_do c.requires.done) c.spot-spot.ensures c.of-in-Err-end.ensures (performs_map_ok (λ _. []) c.in-Err-end.ensures.performs)
