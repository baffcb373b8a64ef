use Rattle.std.proofs.Common.{◌∙◌, Bool, ap, sym, if◌then◌else◌}
use Rattle.ctd_lint_report.proofs.Statuses.{status_of_list}
use Rattle.ctd_lint_report.proofs.program.verdict_status.Goals as goal

pub returns-then-some_open : goal.returns-then-some_open
returns-then-some_open c = sym (ap (λ (b : Bool). if b then 1 else 0) c.if-some_open.true)
    ∙ status_of_list c.args.setup.now c.args.trap_list.now c.as_slice.result.now c.as_slice-2.result.now c.some_open.result
    c.as_slice.ensures.value c.as_slice-2.ensures.value c.some_open.ensures

pub returns-else-some_open : goal.returns-else-some_open
returns-else-some_open c = sym (ap (λ (b : Bool). if b then 1 else 0) c.if-some_open.false)
    ∙ status_of_list c.args.setup.now c.args.trap_list.now c.as_slice.result.now c.as_slice-2.result.now c.some_open.result
    c.as_slice.ensures.value c.as_slice-2.ensures.value c.some_open.ensures
