use Rattle.std.proofs.Common.{◌+◌, drop, map, ap, ◌∙◌, arith}
use Rattle.std.proofs.lemmas.List.{drop_all}
use Rattle.ctd_source.proofs.AdvanceLemmas.{advances_so, advances_both}
use Rattle.ctd_program.specs.calls.View.{assignment}
use Rattle.ctd_command.specs.State.{proceed}
use Rattle.ctd_command.specs.Commands.{set}
use Rattle.ctd_command.specs.calls.Performs.{state}
use Rattle.ctd_command.proofs.Acts.{performs_after, early_by, given}
use Rattle.ctd_command.proofs.Lists.{left_at}
use Rattle.ctd_command.proofs.machine.Run.set.Goals as goal

pub returns-in_err-give_value : goal.returns-in_err-give_value
returns-in_err-give_value g c =
    let left = left_at c.args.assignments.now c.loop-assignment.assignment-index c.assignment-item.result c.loop-assignment-test.true c.assignment-item.is in
    record {
      performs = performs_after (advances_so c.loop-assignment.invariant.goes (λ d _ e. e ∙ ap (λ xs. set (map assignment xs) d (state c.loop-assignment.self)) left))
          (early_by (λ _. set (map assignment (drop (c.loop-assignment.assignment-index + 1) c.args.assignments.now))) _ c.from_residual.ensures c.in_err-give_value.ensures.performs);
    }

pub loop-assignment-preserved : goal.loop-assignment-preserved
loop-assignment-preserved g c =
    let left = left_at c.args.assignments.now c.loop-assignment.assignment-index c.assignment-item.result c.loop-assignment-test.true c.assignment-item.is in
    let p = c.in_ok-give_value.ensures.performs in
    record {
      sound = p.sound;
      goes = advances_so (advances_both c.loop-assignment.invariant.goes p.goes)
          (λ d _ e. e.0 ∙ ap (λ xs. set (map assignment xs) d (state c.loop-assignment.self)) left ∙ ap (λ x. proceed x (λ _ t. set (map assignment (drop (c.loop-assignment.assignment-index + 1) c.args.assignments.now)) d t)) e.1);
    }

pub returns : goal.returns
returns g c =
    let none = drop_all c.loop-assignment.assignment-index c.args.assignments.now (omega arith) in
    record {
      performs = performs_after (advances_so c.loop-assignment.invariant.goes (λ d _ e. e ∙ ap (λ xs. set (map assignment xs) d (state c.loop-assignment.self)) none)) (given c.loop-assignment.self tt c.loop-assignment.invariant.sound);
    }
