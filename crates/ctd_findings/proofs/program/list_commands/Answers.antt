use Rattle.ctd_findings.specs.inner.Sound.{places_in}
use Rattle.ctd_findings.proofs.Sound.{place_among}
use Rattle.ctd_findings.proofs.program.list_commands.Goals as goal

pub loop-entry-preserved : goal.loop-entry-preserved
loop-entry-preserved c = λ before. c.list_command.ensures.sound (places_in c.args.commands.now) c.args.never.now
    (place_among c.args.commands.now c.loop-entry.entry-index c.entry-item.result c.loop-entry-test.true c.entry-item.is) c.never_at-behind.ensures (c.loop-entry.invariant before)
