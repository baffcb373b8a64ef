use Rattle.ctd_element_changes.proofs.Common.{arith, length, subst, sym, ◌<◌}
use Rattle.std.proofs.Common.{ap, ◌-◌, ◌∙◌}
use Rattle.ctd_element_changes.specs.calls.Joins.{IsPartOf}
use Rattle.ctd_element_changes.proofs.Joined.{part_push}
use Rattle.ctd_element_changes.proofs.join.add_backwards.Goals.{then-is_wanted+in_ok-push, else-is_wanted}
use Rattle.ctd_element_changes.proofs.join.add_backwards.Goals as goal

pub loop-i-preserved : goal.loop-i-preserved
loop-i-preserved c =
    let fs = c.args.facts.now in
    let k = length fs - 1 - c.loop-i.i in
    let inside : k < length fs = omega (arith, c.loop-i-test.true) in
    λ part. elim c.if-is_wanted.branch [
      | then-is_wanted+in_ok-push w ↦ subst (λ l. IsPartOf l fs) (sym (ap (λ q. q.items) w.after-is ∙ w.in_ok-push.ensures.items)) (part_push fs c.loop-i.after.items k _ inside (c.loop-i.invariant part))
      | else-is_wanted w ↦ subst (λ l. IsPartOf l fs) (sym (ap (λ q. q.items) w.after-is)) (c.loop-i.invariant part)
    ]
