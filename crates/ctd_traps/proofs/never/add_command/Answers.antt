use Rattle.ctd_traps.proofs.never.add_command.Goals as goal

pub loop-kind-init : goal.loop-kind-init
loop-kind-init c = λ notes all before. before

pub loop-kind-preserved : goal.loop-kind-preserved
loop-kind-preserved c = λ notes all before. c.in_ok-add_absent.ensures notes all (c.loop-kind.invariant notes all before)
