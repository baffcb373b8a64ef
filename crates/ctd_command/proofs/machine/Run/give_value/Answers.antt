use Rattle.ctd_program.specs.calls.View.{expr_tree, var_tree}
use Rattle.ctd_command.proofs.Assignments.{expression_set, expression_not_set}
use Rattle.ctd_command.proofs.machine.Run.give_value.Goals as goal

pub returns-in_err-set_expression : goal.returns-in_err-set_expression
returns-in_err-set_expression g c = record {
  performs = expression_not_set c.args.self.now c.set_expression.new.store (var_tree c.args.a.now.target) (expr_tree c.args.a.now.value) c.in_err-set_expression.field-0.0 c.from_residual.result c.from_residual.ensures c.in_err-set_expression.ensures.value;
}

pub returns : goal.returns
returns g c = record { performs = expression_set c.args.self.now c.set_expression.new.store (var_tree c.args.a.now.target) (expr_tree c.args.a.now.value) c.requires.sound c.in_ok-set_expression.ensures.value }
