use Rattle.ctd_element_changes.proofs.Giving.{fact_with, ordered_fact_with, unequal_fact_with}
use Rattle.ctd_element_changes.proofs.element.stands_with.Goals as goal

pub returns-in-AtMost : goal.returns-in-AtMost
returns-in-AtMost c = λ yes. ordered_fact_with c.args.state c.args.target c.args.limits c.args.fact c.in-AtMost.field-0 c.in-AtMost.field-1 c.in-AtMost.is (c.follows.ensures yes)

pub returns-in-Unequal : goal.returns-in-Unequal
returns-in-Unequal c = λ yes. unequal_fact_with c.args.state c.args.target c.args.limits c.args.fact c.in-Unequal.field-0 c.in-Unequal.field-1 c.in-Unequal.is (c.follows-in-Unequal.ensures yes)

pub returns-in-KeysWithin : goal.returns-in-KeysWithin
returns-in-KeysWithin c = λ yes. fact_with c.args.state c.args.target c.args.limits c.args.fact _ c.in-KeysWithin.is (c.are_keys_within.ensures yes)

pub returns-in-ValuesAreKeys : goal.returns-in-ValuesAreKeys
returns-in-ValuesAreKeys c = λ yes. fact_with c.args.state c.args.target c.args.limits c.args.fact _ c.in-ValuesAreKeys.is (c.are_values_keys.ensures yes)
