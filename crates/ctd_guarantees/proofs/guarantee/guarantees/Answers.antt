use Rattle.std.proofs.lemmas.List.Elements.{All-weaker}
use Rattle.ctd_guarantees.proofs.Following.{group_guaranteed}
use Rattle.ctd_guarantees.specs.calls.Guarantees.{IsGuaranteed}
use Rattle.ctd_guarantees.specs.inner.Parts.{IsGroupOf}
use Rattle.ctd_program.specs.calls.View.{command_trees}
use Rattle.ctd_guarantees.proofs.guarantee.guarantees.Goals as goal

pub returns-clause-guaranteed : goal.returns-clause-guaranteed
returns-clause-guaranteed c =
    let program = command_trees c.args.commands.now in
    let presets = c.args.presets.now in
    let names = c.args.names.now in
    let k = c.args.knowledge.now in
    λ finds ends. All-weaker (IsGroupOf k) (IsGuaranteed program presets names) (λ group. group_guaranteed program presets names k group finds ends) c.add_group-2.new.groups.items (c.in_ok-add_group-2.ensures c.loop-i.invariant)
