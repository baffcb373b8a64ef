use Rattle.std.proofs.Common.{◌-◌, ◌++◌, ◌∷◌, [], ap, ◌∙◌, sym, rules}
use Rattle.ctd_program.specs.calls.View.{command_trees}
use Rattle.ctd_store.specs.Store.{initial}
use Rattle.ctd_command.specs.calls.Performs.{state}
use Rattle.ctd_check.specs.Loops.{tasks, finish}
use Rattle.ctd_check.specs.inner.FrameTasks.{to_do}
use Rattle.ctd_check.specs.Run.{run_from, at_start}
use Rattle.ctd_check.proofs.Concluding.{found, given_count, gave_few, gave_none, starts_as}
use Rattle.ctd_check.proofs.Running.{finds, follows_as}
use Rattle.ctd_check.proofs.checking.check.Goals as goal

pub returns-clause-meaning : goal.returns-clause-meaning
returns-clause-meaning g c =
    let limit = c.args.limits.steps in
    let program = command_trees c.args.plan.now in
    let presets = c.args.presets.now in
    let first = c.new-stack.result in
    let run = c.new-run.result in
    let start = starts_as c.args.testdata.now c.args.limits.bytes _ run.cursor c.new-run.ensures.cursor c.with_buffers-cursor.ensures.source c.with_buffers-cursor.ensures.begins c.with_buffers-cursor.ensures.stands in
    found c.args.testdata.now _ run.cursor c.run_program-ended.new.run.cursor c.args.limits _ _ _ start (search rules) c.run_program-ended.ensures.ends.goes c.taken-taken.ensures.taken c.seen-seen.ensures.seen
    (λ d f. finds c.args.mode d c.run_program-ended.result _ program presets limit c.run_program-ended.new.stack.left (state c.run_program-ended.new.run) c.in_ok-outcome.ensures.outcome (ap (λ n. limit - n) c.left.ensures) (ap (λ s. s.offset) c.spot-consumed.ensures)
    (follows_as d c.run_program-ended.result c.run_program-ended.new.stack.left [] (state c.run_program-ended.new.run) _ _
    (ap (λ n. run_from d n (tasks program ++ finish ∷ []) (at_start c.args.mode presets)) (sym c.new-stack.ensures.left)
    ∙ ap (λ cs. run_from d first.left (tasks (command_trees cs) ++ finish ∷ []) (at_start c.args.mode presets)) (sym c.commands.ensures.whole)
    ∙ ap (λ ts. run_from d first.left ts (at_start c.args.mode presets)) (sym c.new-stack.ensures.to_do)
    ∙ ap (λ p. run_from d first.left (to_do first.frames.items) (record { offset = p; store = initial presets; mode = c.args.mode })) (sym (ap (λ s. s.offset) start.begins.spot))
    ∙ ap (λ h. run_from d first.left (to_do first.frames.items) (record { offset = run.cursor.spot.offset; store = h; mode = c.args.mode })) (sym (c.new-run.ensures.store ∙ c.in_ok-store.ensures.pins))
    ∙ ap (λ m. run_from d first.left (to_do first.frames.items) (record { offset = run.cursor.spot.offset; store = run.store; mode = m })) (sym c.new-run.ensures.mode)) f))

pub returns-clause-given : goal.returns-clause-given
returns-clause-given g c =
    let start = starts_as c.args.testdata.now c.args.limits.bytes _ c.new-run.result.cursor c.new-run.ensures.cursor c.with_buffers-cursor.ensures.source c.with_buffers-cursor.ensures.begins c.with_buffers-cursor.ensures.stands in
    given_count c.args.testdata.now _ c.new-run.result.cursor c.run_program-ended.new.run.cursor c.args.limits.bytes _ _ start (search rules) c.run_program-ended.ensures.ends.goes c.taken-taken.ensures.taken

pub returns-clause-reads : goal.returns-clause-reads
returns-clause-reads g c =
    let start = starts_as c.args.testdata.now c.args.limits.bytes _ c.new-run.result.cursor c.new-run.ensures.cursor c.with_buffers-cursor.ensures.source c.with_buffers-cursor.ensures.begins c.with_buffers-cursor.ensures.stands in
    gave_few c.args.testdata.now _ c.new-run.result.cursor c.run_program-ended.new.run.cursor c.args.limits.bytes _ start (search rules) c.run_program-ended.ensures.ends.goes

pub returns-in_err-outcome-clause-reads : goal.returns-in_err-outcome-clause-reads
returns-in_err-outcome-clause-reads g c =
    let start = starts_as c.args.testdata.now c.args.limits.bytes _ c.new-run.result.cursor c.new-run.ensures.cursor c.with_buffers-cursor.ensures.source c.with_buffers-cursor.ensures.begins c.with_buffers-cursor.ensures.stands in
    gave_few c.args.testdata.now _ c.new-run.result.cursor c.run_program-ended.new.run.cursor c.args.limits.bytes _ start (search rules) c.run_program-ended.ensures.ends.goes

pub returns-in_err-matchers-clause-reads : goal.returns-in_err-matchers-clause-reads
returns-in_err-matchers-clause-reads g c = gave_none _ _

pub returns-in_err-store-clause-reads : goal.returns-in_err-store-clause-reads
returns-in_err-store-clause-reads g c = gave_none _ _

pub returns-in_err-buffers-clause-reads : goal.returns-in_err-buffers-clause-reads
returns-in_err-buffers-clause-reads g c = gave_none _ _
