use Rattle.std.proofs.Common.{ap, sym, ◌∙◌, ◌+◌, refl, subst}
use Rattle.ctd_program.specs.calls.View.{command_tree}
use Rattle.ctd_command.proofs.Acts.{always}
use Rattle.ctd_outcome.specs.declared.outcome.Site.TheVariants.{At}
use Rattle.ctd_check.specs.Loops.{start}
use Rattle.ctd_check.specs.inner.FrameTasks.{all_to_do, IsInHand}
use Rattle.ctd_check.proofs.Stacks.{rest_in_hand}
use Rattle.ctd_check.proofs.Running.{site_is, task_does, task_opens, task_not_paid, opens_as}
use Rattle.ctd_check.proofs.run.begin.Goals as goal

pub returns-in_err-pay-clause-advances : goal.returns-in_err-pay-clause-advances
returns-in_err-pay-clause-advances g c =
    task_not_paid c.args.run.now (start (command_tree c.args.command.now)) _ _ c.args.run.now.cursor.spot (At c.args.command.now.place) c.in_err-pay.field-0.0 _ _ c.from_residual.result c.from_residual.ensures c.in_err-pay.ensures.limit c.in_err-pay.ensures.none.0 c.in_err-pay.ensures.none.1 refl (site_is c.args.command.now)

pub returns-in-Done-clause-in_hand : goal.returns-in-Done-clause-in_hand
returns-in-Done-clause-in_hand g c =
    let P : _ → Type 0 = λ f. IsInHand c.args.list.now.now f.items in
    always c.in-Done.done (subst P (sym c.in_ok-pay.ensures.frames) (rest_in_hand c.requires.in_hand))

pub returns-in-Done-clause-advances : goal.returns-in-Done-clause-advances
returns-in-Done-clause-advances g c =
    task_does c.args.run.now c.act.new.run (start (command_tree c.args.command.now)) _ c.pay.new.self.left _ _ c.args.run.now.cursor.spot (At c.args.command.now.place) c.in-Done.done
    c.in_ok-pay.ensures.paid (ap (λ f. all_to_do c.args.list.now.now f.items) c.in_ok-pay.ensures.frames) refl (site_is c.args.command.now) c.in-Done.ensures.performs

pub returns-in-If-clause-advances : goal.returns-in-If-clause-advances
returns-in-If-clause-advances g c =
    task_opens c.args.run.now c.open_if.new.run (command_tree c.args.command.now) _ c.open_if.new.stack.left _ _ c.args.run.now.cursor.spot (At c.args.command.now.place) c.open_if.result
    (c.in_ok-pay.ensures.paid ∙ ap (λ n. n + 1) (sym c.open_if.ensures.left)) refl (site_is c.args.command.now)
    (opens_as c.in-If.ensures.stays c.in-If.ensures.parts (ap (λ f. all_to_do c.args.list.now.now f.items) c.in_ok-pay.ensures.frames) (c.open_if.ensures.opens c.args.command.now.place))

pub returns-in-Loop-clause-advances : goal.returns-in-Loop-clause-advances
returns-in-Loop-clause-advances g c =
    task_opens c.args.run.now c.open_loop.new.run (command_tree c.args.command.now) _ c.open_loop.new.stack.left _ _ c.args.run.now.cursor.spot (At c.args.command.now.place) c.open_loop.result
    (c.in_ok-pay.ensures.paid ∙ ap (λ n. n + 1) (sym c.open_loop.ensures.left)) refl (site_is c.args.command.now)
    (opens_as c.in-Loop.ensures.stays c.in-Loop.ensures.parts (ap (λ f. all_to_do c.args.list.now.now f.items) c.in_ok-pay.ensures.frames) c.open_loop.ensures.opens)
