use Rattle.ctd_states.proofs.Common.{PaysStep, ap, length, length-append, named_values, subst, sym, ◌+◌, ◌∙◌}
use Rattle.ctd_states.proofs.Standing.{nothing_paid}
use Rattle.ctd_states.proofs.NamedValues.{values_nothing, values_paid}
use Rattle.ctd_states.proofs.steps.after_step.Goals as goal

pub loop-value-init : goal.loop-value-init
loop-value-init c =
    let none = c.new-after.ensures.items in
    (ap length none, λ names. subst (λ l. PaysStep (named_values names c.args.entries.now) l) (sym (ap (named_values names) none ∙ values_nothing names)) (nothing_paid (named_values names c.args.entries.now)))

pub loop-value-preserved : goal.loop-value-preserved
loop-value-preserved c =
    let before = c.loop-value.after.items in
    let entries = c.args.entries.now in
    let all = c.in_ok-push.ensures.items in
    let many = c.loop-value.invariant.0 in (
      ap length all ∙ length-append before _ ∙ ap (λ n. n + 1) many,
      λ names. subst (λ l. PaysStep (named_values names entries) (named_values names l)) (sym all) (values_paid names entries before c.loop-value.value-index _ _ many c.loop-value-test.true (c.loop-value.invariant.1 names) c.pay_name.ensures),
    )
