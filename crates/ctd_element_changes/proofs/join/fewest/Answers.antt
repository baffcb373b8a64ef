use Rattle.ctd_element_changes.proofs.Common.{subst}
use Rattle.ctd_element_changes.specs.calls.Joins.{IsPartOf}
use Rattle.ctd_element_changes.proofs.Joined.{part_of_part}
use Rattle.ctd_element_changes.proofs.join.fewest.Goals as goal

pub returns : goal.returns
returns c =
    let reversed = c.in_ok-reversed.reversed.items in
    let few = c.in_ok-few.few.items in
    let again = c.in_ok-again.again.items in
    let fewer = c.in_ok-fewer.fewer.items in
    part_of_part fewer again c.args.facts.now (subst (λ l. IsPartOf fewer l) c.as_slice-3.ensures.value c.in_ok-fewer.ensures)
    (part_of_part again few c.args.facts.now (subst (λ l. IsPartOf again l) c.as_slice-2.ensures.value c.in_ok-again.ensures)
    (part_of_part few reversed c.args.facts.now (subst (λ l. IsPartOf few l) c.as_slice.ensures.value c.in_ok-few.ensures) c.in_ok-reversed.ensures))
