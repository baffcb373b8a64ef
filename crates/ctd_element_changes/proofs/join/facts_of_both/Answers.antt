use Rattle.ctd_element_changes.proofs.Common.{AllStand, subst, sym}
use Rattle.ctd_element_changes.proofs.Joined.{when_ok}
use Rattle.ctd_element_changes.proofs.join.facts_of_both.Goals as goal

pub returns-clause-one : goal.returns-clause-one
returns-clause-one c =
    let names = c.args.one.names.now in
    when_ok c.facts_that_follow-2.result (λ after part n h it. part names h (subst (λ l. AllStand names h l) (sym c.as_slice.ensures.value) (c.in_ok-first.ensures.implied n h it))) c.facts_that_follow-2.ensures.part
