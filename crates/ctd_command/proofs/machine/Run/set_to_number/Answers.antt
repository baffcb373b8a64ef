use Rattle.std.proofs.Common.{rules}
use Rattle.std.proofs.lemmas.Int.{to_z-of_z}
use Rattle.std.specs.Int.{w128}
use Rattle.ctd_program.specs.calls.View.{var_tree}
use Rattle.ctd_store.specs.declared.value.Value.TheVariants as values
use Rattle.ctd_command.proofs.Assignments.{variable_set, variable_not_set}
use Rattle.ctd_command.proofs.machine.Run.set_to_number.Goals as goal

pub returns-in_err-set_number : goal.returns-in_err-set_number
returns-in_err-set_number g c =
    let gives = simp (to_z-of_z w128 c.args.n (search rules)) at c.in_err-set_number.ensures.value in
    record { performs = variable_not_set c.args.self.now c.set_number.new.store (var_tree c.args.v.now) (values.Int c.args.n) c.in_err-set_number.field-0.0 c.from_residual.result c.from_residual.ensures gives }

pub returns : goal.returns
returns g c =
    let gives = simp (to_z-of_z w128 c.args.n (search rules)) at c.in_ok-set_number.ensures.value in
    record { performs = variable_set c.args.self.now c.set_number.new.store (var_tree c.args.v.now) (values.Int c.args.n) c.requires.sound gives }
