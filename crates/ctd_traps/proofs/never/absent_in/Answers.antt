use Rattle.ctd_traps.proofs.never.absent_in.Goals as goal

pub loop-entry-preserved : goal.loop-entry-preserved
loop-entry-preserved c = c.in_ok-add_command.ensures c.args.notes.now c.in_ok-keys.ensures c.loop-entry.invariant
