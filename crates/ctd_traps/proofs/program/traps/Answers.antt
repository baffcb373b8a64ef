use Rattle.ctd_traps.proofs.Common.{AreAbsent, IfSome, Noted, command_trees, faults_of, noted_in, subst}
use Rattle.ctd_traps.proofs.Absent.{never_happens}
use Rattle.ctd_traps.proofs.Whole.{traps_noted}
use Rattle.ctd_traps.specs.calls.Known.{EachAcceptedHas, EachFinds}
use Rattle.ctd_traps.proofs.program.traps.Goals as goal

pub returns-in-Ok-clause-each : goal.returns-in-Ok-clause-each
returns-in-Ok-clause-each c =
    let noted : Noted = c.in-Ok.analysis.noted in
    let all = c.in-Ok.ensures.noted in
    traps_noted (command_trees c.args.commands.now) c.args.presets.now (noted_in all.context noted) (faults_of noted.traps.items) (λ place fault has. has) all.each

pub returns-in-Ok-clause-never : goal.returns-in-Ok-clause-never
returns-in-Ok-clause-never c =
    let noted : Noted = c.in-Ok.analysis.noted in
    let never = c.in_ok-never-in-Ok.never.items in
    let all = c.in-Ok.ensures.noted in
    never_happens all.context (command_trees c.args.commands.now) c.args.presets.now noted never all.each
    (subst (λ l. AreAbsent l never) c.as_slice-in-Ok.ensures.value c.in_ok-never-in-Ok.ensures)

pub returns-in-Ok-clause-finds : goal.returns-in-Ok-clause-finds
returns-in-Ok-clause-finds c =
    subst (λ l. IfSome c.in-Ok.analysis.knowledge (λ k. EachFinds (command_trees c.args.commands.now) c.args.presets.now l k.at_places.items)) c.as_slice.ensures.value c.in-Ok.ensures.finds

pub returns-in-Ok-clause-ends : goal.returns-in-Ok-clause-ends
returns-in-Ok-clause-ends c =
    subst (λ l. IfSome c.in-Ok.analysis.knowledge (λ k. EachAcceptedHas (command_trees c.args.commands.now) c.args.presets.now l k.at_end)) c.as_slice.ensures.value c.in-Ok.ensures.ends
