use Rattle.std.proofs.Common.{◌++◌, ◌+◌, [], ap, sym, ◌∙◌, add-one, refl, Ok, Err, if◌then◌else◌}
use Rattle.ctd_command.proofs.Acts.{answers_as, performs_map_ok}
use Rattle.ctd_outcome.specs.declared.outcome.Site.TheVariants.{At}
use Rattle.ctd_check.specs.inner.Halts.{halt_of}
use Rattle.ctd_check.specs.Loops.{turn, turn_tasks, tasks_before_turn}
use Rattle.ctd_check.specs.inner.FrameTasks.{to_do, all_to_do, loop_in, separator_in}
use Rattle.ctd_check.proofs.Turns.{at_turn, to_do_at}
use Rattle.ctd_check.proofs.Running.{advances_as, halted_as, task_done, turn_failed, task_unpaid, task_then, turn_left}
use Rattle.ctd_check.proofs.run.begin_turn.Goals as goal

pub returns-then-left-eq0-clause-advances : goal.returns-then-left-eq0-clause-advances
returns-then-left-eq0-clause-advances g c =
    let frames = c.args.stack.now.frames.items in
    let running_loop = c.in-Some.running_loop.now in
    let at = at_turn frames running_loop (sym c.in-Some.ensures.value) c.requires.done in
    let none = sym c.left.ensures ∙ c.if-left-eq0.true in
    advances_as (to_do_at frames running_loop at)
    (task_unpaid c.args.run.now (turn (loop_in running_loop) running_loop.turn) _ _ c.spot.result c.of.result (to_do at.below) _ (Err c.of.result) (refl, refl) none none c.spot.ensures (c.of.ensures ∙ ap (halt_of c.spot.result (At running_loop.place)) c.stopped.ensures))

pub returns-in-Ok-clause-advances : goal.returns-in-Ok-clause-advances
returns-in-Ok-clause-advances g c =
    let frames = c.args.stack.now.frames.items in
    let running_loop = c.in-Some.running_loop.now in
    let loop = loop_in running_loop in
    let k = running_loop.turn in
    let at = at_turn frames running_loop (sym c.in-Some.ensures.value) c.requires.done in
    advances_as (to_do_at frames running_loop at)
    (task_then c.args.run.now c.take_turn.new.run c.begin.new.run (turn loop k) _ c.next_turn.new.self.left _ (turn_tasks loop k) (to_do at.below) _ _ (Ok tt) c.next_turn.ensures.paid
    (ap (λ ts. ts ++ all_to_do c.next_turn.result.now c.next_turn.new.self.frames.items) (sym c.in-Some-separator_before.ensures.tasks) ∙ turn_left (tasks_before_turn k (separator_in running_loop.between)) _ _ _ _ _ (ap (turn loop) (add-one k)) (c.next_turn.ensures.to_do running_loop at))
    (answers_as (ap (λ b. Ok (if b then turn_tasks loop k else [])) (sym c.in-Ok-true.field-0-test)) (performs_map_ok (λ b. if b then turn_tasks loop k else []) c.in-Ok-true.ensures.performs)) c.in-Ok.ensures.advances)

pub returns-in-Err-begin-clause-advances : goal.returns-in-Err-begin-clause-advances
returns-in-Err-begin-clause-advances g c =
    let frames = c.args.stack.now.frames.items in
    let running_loop = c.in-Some.running_loop.now in
    let loop = loop_in running_loop in
    let k = running_loop.turn in
    let at = at_turn frames running_loop (sym c.in-Some.ensures.value) c.requires.done in
    advances_as (to_do_at frames running_loop at)
    (task_then c.args.run.now c.take_turn.new.run c.begin.new.run (turn loop k) _ c.next_turn.new.self.left _ (turn_tasks loop k) (to_do at.below) _ _ (Err c.of-in-Err-begin.result) c.next_turn.ensures.paid
    (ap (λ ts. ts ++ all_to_do c.next_turn.result.now c.next_turn.new.self.frames.items) (sym c.in-Some-separator_before.ensures.tasks) ∙ turn_left (tasks_before_turn k (separator_in running_loop.between)) _ _ _ _ _ (ap (turn loop) (add-one k)) (c.next_turn.ensures.to_do running_loop at))
    (answers_as (ap (λ b. Ok (if b then turn_tasks loop k else [])) (sym c.in-Ok-true.field-0-test)) (performs_map_ok (λ b. if b then turn_tasks loop k else []) c.in-Ok-true.ensures.performs)) (halted_as _ _ _ _ c.of-in-Err-begin.ensures c.spot-spot.ensures c.in-Err-begin.ensures.advances))

pub returns-in-None-clause-advances : goal.returns-in-None-clause-advances
returns-in-None-clause-advances g c =
    let frames = c.args.stack.now.frames.items in
    let running_loop = c.in-Some.running_loop.now in
    let loop = loop_in running_loop in
    let k = running_loop.turn in
    let at = at_turn frames running_loop (sym c.in-Some.ensures.value) c.requires.done in
    advances_as (to_do_at frames running_loop at)
    (task_done c.args.run.now c.take_turn.new.run (turn loop k) _ c.next_turn-in-None.new.self.left (turn_tasks loop k) (to_do at.below) _ c.next_turn-in-None.ensures.paid
    (ap (λ ts. ts ++ all_to_do c.next_turn-in-None.result.now c.next_turn-in-None.new.self.frames.items) (sym c.in-None.ensures.tasks) ∙ turn_left (tasks_before_turn k (separator_in running_loop.between)) _ _ _ _ _ (ap (turn loop) (add-one k)) (c.next_turn-in-None.ensures.to_do running_loop at))
    (answers_as (ap (λ b. Ok (if b then turn_tasks loop k else [])) (sym c.in-Ok-true.field-0-test)) (performs_map_ok (λ b. if b then turn_tasks loop k else []) c.in-Ok-true.ensures.performs)))

pub returns-in-Ok-false-clause-advances : goal.returns-in-Ok-false-clause-advances
returns-in-Ok-false-clause-advances g c =
    let frames = c.args.stack.now.frames.items in
    let running_loop = c.in-Some.running_loop.now in
    let loop = loop_in running_loop in
    let k = running_loop.turn in
    let at = at_turn frames running_loop (sym c.in-Some.ensures.value) c.requires.done in
    advances_as (to_do_at frames running_loop at)
    (task_done c.args.run.now c.take_turn.new.run (turn loop k) _ c.take_list.new.self.left [] (to_do at.below) _ (c.end_loop.ensures.paid ∙ ap (λ n. n + 1) (sym c.take_list.ensures.left)) (sym c.take_list.ensures.to_do ∙ ap to_do (c.end_loop.ensures.frames running_loop at))
    (answers_as (ap (λ b. Ok (if b then turn_tasks loop k else [])) (sym c.in-Ok-false.field-0-test)) (performs_map_ok (λ b. if b then turn_tasks loop k else []) c.in-Ok-false.ensures.performs)))

pub returns-in-Err-clause-advances : goal.returns-in-Err-clause-advances
returns-in-Err-clause-advances g c =
    let frames = c.args.stack.now.frames.items in
    let running_loop = c.in-Some.running_loop.now in
    let loop = loop_in running_loop in
    let k = running_loop.turn in
    let at = at_turn frames running_loop (sym c.in-Some.ensures.value) c.requires.done in
    advances_as (to_do_at frames running_loop at)
    (turn_failed c.args.run.now c.take_turn.new.run loop k _ c.end_loop-in-Err.new.self.left c.spot-in-Err.result c.of-halt.result c.in-Err.failure (to_do at.below) _ c.end_loop-in-Err.ensures.paid c.spot-in-Err.ensures c.of-halt.ensures
    (performs_map_ok (λ b. if b then turn_tasks loop k else []) c.in-Err.ensures.performs))
