use Rattle.ctd_traps.proofs.Common.{Context, FoundIn, PinsStand, command_trees, named_values, pins_of, program_end, subst, sym}
use Rattle.ctd_traps.specs.declared.joined.Moment.TheVariants as moments
use Rattle.ctd_traps.proofs.Ending.{knowledge_ends, knowledge_finds}
use Rattle.ctd_traps.proofs.Whole.{events_noted}
use Rattle.ctd_traps.proofs.program.analyze.Goals as goal

pub returns : goal.returns
returns c =
    let g : Context = record { alloc = c.args.alloc; names = c.args.names; pinned = c.as_slice.result; pairs = c.args.pairs } in
    let tree = command_trees c.args.commands.now in
    let presets = c.args.presets.now in
    let stand : PinsStand (named_values c.args.names.now c.as_slice.result.now) (pins_of presets) = subst (λ l. PinsStand (named_values c.args.names.now l) (pins_of presets)) (sym c.as_slice.ensures.value) c.in_ok-pinned.ensures in
    let walked = c.walk.new.noted in
    let noted = c.note_states.new.noted in
    let each = events_noted tree presets g c.in_ok-first.first.items c.in_ok-last.last.items walked noted stand c.in_ok-first.ensures c.in_ok-last.ensures.keeps c.in_ok-note_states.ensures.more
    (subst (FoundIn g noted program_end moments.Done) c.as_slice-2.ensures.value c.in_ok-note_states.ensures.found) in
    let knowledge = c.in_ok-knowledge.knowledge in
    record {
      noted = record { context = g; each = each };
      ends = knowledge_ends tree presets g noted knowledge each c.in_ok-knowledge.ensures;
      finds = knowledge_finds tree presets g noted knowledge each c.in_ok-knowledge.ensures;
    }
