use Rattle.ctd_lint_report.proofs.Common.{All, EachAcceptedHas, EachFinds, IfSome, IsGuaranteed, List, Option, command_trees, subst}
use Rattle.std.proofs.Common.{IfOk, ℕ}
use Rattle.std.specs.Borrow.{Bor}
use Rattle.ctd_traps.specs.declared.known.Knowledge.{Knowledge}
use Rattle.ctd_lint_report.proofs.program.groups_of.Goals as goal

pub returns-in-Some : goal.returns-in-Some
returns-in-Some c = λ finds ends.
    let program = command_trees c.args.commands.now in
    let presets = c.args.presets.now in
    let names = c.args.trap_list.now.names.items in
    let finds : EachFinds program presets names c.in-Some.knowledge.at_places.items =
    subst (λ (known : Option Knowledge). IfSome known (λ k. EachFinds program presets names k.at_places.items)) c.in-Some.is finds in
    let ends : EachAcceptedHas program presets names c.in-Some.knowledge.at_end =
    subst (λ (known : Option Knowledge). IfSome known (λ k. EachAcceptedHas program presets names k.at_end)) c.in-Some.is ends in
    subst (λ (ns : List (Bor (List ℕ))). EachFinds program presets ns c.in-Some.knowledge.at_places.items → EachAcceptedHas program presets ns c.in-Some.knowledge.at_end → IfOk c.guarantees.result (λ groups. All (IsGuaranteed program presets ns) groups.items)) c.as_slice.ensures.value c.guarantees.ensures.guaranteed finds ends
