use Rattle.std.proofs.Common.{arith, ap, sym, ◌∙◌, refl, subst, Err}
use Rattle.ctd_source.proofs.AdvanceLemmas.{advances_so, advances_both, advances_nowhere}
use Rattle.ctd_command.specs.calls.Performs.{state}
use Rattle.ctd_check.specs.Run.{run}
use Rattle.ctd_check.specs.inner.FrameTasks.{to_do, all_to_do, IsInHand}
use Rattle.ctd_check.proofs.Stacks.{is_empty}
use Rattle.ctd_check.proofs.Running.{follows_as, ends_early, halted_as}
use Rattle.ctd_check.proofs.run.run_tasks.Goals as goal

pub loop-command-init : goal.loop-command-init
loop-command-init g c =
    let taken = c.take_list-list.ensures in
    record {
      sound = c.requires.sound;
      spent = omega (arith, taken.left);
      in_hand = taken.in_hand;
      goes = advances_so (advances_nowhere c.args.run.now.cursor)
          (λ d _ _. ap (λ ts. run d c.args.stack.now.left ts (state c.args.run.now)) taken.to_do ∙ ap (λ n. run d n (all_to_do c.take_list-list.result.now c.take_list-list.new.self.frames.items) (state c.args.run.now)) (sym taken.left));
    }

pub begin-requires-clause-in_hand : goal.begin-requires-clause-in_hand
begin-requires-clause-in_hand g c =
    let P : _ → Type 0 = λ cs. IsInHand cs c.loop-command.stack.frames.items in
    subst P c.in-Some.ensures.cases.0 c.loop-command.invariant.in_hand

pub loop-command-preserved-in-Ok : goal.loop-command-preserved-in-Ok
loop-command-preserved-in-Ok g c = record {
  sound = c.in-Ok.ensures.advances.sound;
  spent = omega (arith, c.loop-command.invariant.spent, c.in-Ok.ensures.spent);
  in_hand = c.in-Ok.ensures.in_hand;
  goes = advances_so (advances_both c.loop-command.invariant.goes c.in-Ok.ensures.advances.goes)
      (λ d _ e. e.0 ∙ ap (λ cs. run d c.loop-command.stack.left (all_to_do cs c.loop-command.stack.frames.items) (state c.loop-command.run)) c.in-Some.ensures.cases.0 ∙ e.1);
}

pub returns-in-Err-clause-ends : goal.returns-in-Err-clause-ends
returns-in-Err-clause-ends g c =
    ends_early c.args.run.now c.loop-command.run c.begin.new.run c.args.stack.now.left c.loop-command.stack.left c.begin.new.stack.left (to_do c.args.stack.now.frames.items) _ _ c.of.result (Err c.of.result) (refl, refl)
    (advances_so c.loop-command.invariant.goes (λ d _ e. e ∙ ap (λ cs. run d c.loop-command.stack.left (all_to_do cs c.loop-command.stack.frames.items) (state c.loop-command.run)) c.in-Some.ensures.cases.0))
    (halted_as _ _ _ _ c.of.ensures c.spot-spot.ensures c.in-Err.ensures.advances)

pub begin_turn-requires-clause-done : goal.begin_turn-requires-clause-done
begin_turn-requires-clause-done g c = c.loop-command.invariant.in_hand.done

pub loop-command-preserved-then-has_loop : goal.loop-command-preserved-then-has_loop
loop-command-preserved-then-has_loop g c = record {
  sound = c.in_ok-begin_turn.ensures.advances.sound;
  spent = omega (arith, c.loop-command.invariant.spent, c.in_ok-begin_turn.ensures.spent);
  in_hand = c.in_ok-begin_turn.ensures.in_hand;
  goes = advances_so (advances_both c.loop-command.invariant.goes c.in_ok-begin_turn.ensures.advances.goes)
      (λ d _ e. e.0 ∙ ap (λ cs. run d c.loop-command.stack.left (all_to_do cs c.loop-command.stack.frames.items) (state c.loop-command.run)) (is_empty c.loop-command.list.now c.in_default.ensures.cases) ∙ e.1);
}

pub returns-in_err-begin_turn-clause-ends : goal.returns-in_err-begin_turn-clause-ends
returns-in_err-begin_turn-clause-ends g c =
    ends_early c.args.run.now c.loop-command.run c.begin_turn.new.run c.args.stack.now.left c.loop-command.stack.left c.begin_turn.new.stack.left (to_do c.args.stack.now.frames.items) _ _ c.in_err-begin_turn.field-0.0 c.from_residual.result c.from_residual.ensures
    (advances_so c.loop-command.invariant.goes (λ d _ e. e ∙ ap (λ cs. run d c.loop-command.stack.left (all_to_do cs c.loop-command.stack.frames.items) (state c.loop-command.run)) (is_empty c.loop-command.list.now c.in_default.ensures.cases)))
    c.in_err-begin_turn.ensures.advances

pub leave_list-requires-clause-done : goal.leave_list-requires-clause-done
leave_list-requires-clause-done g c = c.loop-command.invariant.in_hand.done

pub loop-command-preserved : goal.loop-command-preserved
loop-command-preserved g c =
    let left = c.take_list-list-in-loop-command.ensures.left ∙ c.leave_list.ensures.left in
    record {
      sound = c.loop-command.invariant.sound;
      spent = omega (arith, c.loop-command.invariant.spent, left);
      in_hand = c.take_list-list-in-loop-command.ensures.in_hand;
      goes = advances_so c.loop-command.invariant.goes
          (λ d _ e. e ∙ ap (λ cs. run d c.loop-command.stack.left (all_to_do cs c.loop-command.stack.frames.items) (state c.loop-command.run)) (is_empty c.loop-command.list.now c.in_default.ensures.cases)
          ∙ ap (λ ts. run d c.loop-command.stack.left ts (state c.loop-command.run)) (sym c.leave_list.ensures.to_do ∙ c.take_list-list-in-loop-command.ensures.to_do)
          ∙ ap (λ n. run d n (all_to_do c.take_list-list-in-loop-command.result.now c.take_list-list-in-loop-command.new.self.frames.items) (state c.loop-command.run)) (sym left));
    }

pub returns-then-not-leave_list-clause-ends : goal.returns-then-not-leave_list-clause-ends
returns-then-not-leave_list-clause-ends g c =
    let left = c.leave_list.ensures.left in
    record {
      sound = c.conclude.ensures.ends.sound;
      goes = advances_so (advances_both c.loop-command.invariant.goes c.conclude.ensures.ends.goes)
          (λ d _ e. follows_as d c.conclude.result c.conclude.new.stack.left _ (state c.conclude.new.run) _ _
          (e.0 ∙ ap (λ cs. run d c.loop-command.stack.left (all_to_do cs c.loop-command.stack.frames.items) (state c.loop-command.run)) (is_empty c.loop-command.list.now c.in_default.ensures.cases)
          ∙ ap (λ ts. run d c.loop-command.stack.left ts (state c.loop-command.run)) (sym c.leave_list.ensures.to_do)
          ∙ ap (λ n. run d n (to_do c.leave_list.new.self.frames.items) (state c.loop-command.run)) (sym left)) e.1);
    }
