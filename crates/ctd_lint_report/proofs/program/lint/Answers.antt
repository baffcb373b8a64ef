use Rattle.ctd_lint_report.proofs.Common.{All, AreTraps, EachAcceptedHas, EachFinds, Finding, GuaranteeGroup, IfSome, IsGuaranteed, IsPlaced, IsTrueOfRuns, Leaves-WritesOneOf, List, NeverHappens, command_trees, events_of, places_of, program_report}
use Rattle.ctd_lint_report.proofs.Common.{remarks_of, subst, sym, ◌∙◌}
use Rattle.ctd_lint_report.proofs.Reports.{reports_program, reports_refusal}
use Rattle.ctd_lint_report.proofs.program.lint.Goals as goal

pub returns : goal.returns
returns g c =
    let setup = c.args.setup.now in
    let found = c.as_slice-2.result.now in
    let groups = c.as_slice-3.result.now in
    let trap_list = c.in_ok-trap_list.trap_list in
    let tree = command_trees c.in-Ok.plan in
    let traps : AreTraps tree setup.presets trap_list = subst (λ p. AreTraps (command_trees p) setup.presets trap_list) c.commands.ensures.whole c.in_ok-trap_list.ensures.each in
    let never : NeverHappens tree setup.presets (events_of trap_list.never.items) =
    subst (λ p. NeverHappens (command_trees p) setup.presets (events_of trap_list.never.items)) c.commands.ensures.whole c.in_ok-trap_list.ensures.never in
    let names = trap_list.names.items in
    let finds : IfSome trap_list.knowledge (λ k. EachFinds (command_trees c.commands-3.result.now) setup.presets names k.at_places.items) =
    subst (λ p. IfSome trap_list.knowledge (λ k. EachFinds (command_trees p) setup.presets names k.at_places.items)) (c.commands.ensures.whole ∙ sym c.commands-3.ensures.whole) c.in_ok-trap_list.ensures.finds in
    let ends : IfSome trap_list.knowledge (λ k. EachAcceptedHas (command_trees c.commands-3.result.now) setup.presets names k.at_end) =
    subst (λ p. IfSome trap_list.knowledge (λ k. EachAcceptedHas (command_trees p) setup.presets names k.at_end)) (c.commands.ensures.whole ∙ sym c.commands-3.ensures.whole) c.in_ok-trap_list.ensures.ends in
    let guaranteed = subst (λ (gs : List GuaranteeGroup). All (IsGuaranteed tree setup.presets names) gs) (sym c.as_slice-3.ensures.value)
    (subst (λ p. All (IsGuaranteed (command_trees p) setup.presets names) c.in_ok-groups.groups.items) c.commands-3.ensures.whole (c.in_ok-groups.ensures finds ends)) in
    let placed = subst (λ (fs : List Finding). All (IsPlaced (places_of tree)) fs) (sym c.as_slice-2.ensures.value)
    (subst (λ p. All (IsPlaced (places_of (command_trees p))) c.in_ok-found.found.items) c.commands-2.ensures.whole c.in_ok-found.ensures.placed) in
    let meant = subst (λ (fs : List Finding). All (IsTrueOfRuns tree setup.presets) fs) (sym c.as_slice-2.ensures.value)
    (subst (λ p. NeverHappens (command_trees p) setup.presets (events_of trap_list.never.items) → All (IsTrueOfRuns (command_trees p) setup.presets) c.in_ok-found.found.items) c.commands-2.ensures.whole c.in_ok-found.ensures.meant never) in
    record {
      written = Leaves-WritesOneOf _ _ _ (program_report c.args.file.now setup (remarks_of c.args.file.now setup found groups trap_list) trap_list) c.write_program.result
          (reports_program command_trees g.P.Source c.args.file.now setup c.args.program.now _ c.in-Ok.plan found groups trap_list c.in-Ok.ensures.loads placed meant traps never guaranteed)
          c.write_program.ensures.written;
    }

pub returns-in_default : goal.returns-in_default
returns-in_default g c = record {
  written = Leaves-WritesOneOf _ _ _ _ c.write_refusal.result
      (reports_refusal command_trees g.P.Source c.args.file.now c.args.setup.now c.args.program.now _ c.in-Err.fault c.as_slice-told.result.now c.in_ok-unclosed-in_default.unclosed c.in-Err.ensures.loads c.in_default.not-Memory)
      c.write_refusal.ensures.written;
}
