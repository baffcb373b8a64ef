use Rattle.ctd_element_changes.proofs.Sparing.{fact_stays}
use Rattle.ctd_element_changes.proofs.beside.is_free.Goals as goal

pub returns-in-AtMost : goal.returns-in-AtMost
returns-in-AtMost c = λ yes. fact_stays c.args.names.now c.args.name.now c.args.fact _ c.in-AtMost.is (c.bounds_are_free.ensures.ordered yes)

pub returns-in-Unequal : goal.returns-in-Unequal
returns-in-Unequal c = λ yes. fact_stays c.args.names.now c.args.name.now c.args.fact _ c.in-Unequal.is (c.bounds_are_free-in-Unequal.ensures.unequal yes)

pub returns-in-Filled : goal.returns-in-Filled
returns-in-Filled c = λ yes. fact_stays c.args.names.now c.args.name.now c.args.fact _ c.in-Filled.is (c.filling_is_free.ensures yes)

pub returns-in-KeysWithin : goal.returns-in-KeysWithin
returns-in-KeysWithin c = λ yes. fact_stays c.args.names.now c.args.name.now c.args.fact _ c.in-KeysWithin.is (c.keys_are_free.ensures.within yes)

pub returns-in-ValuesAreKeys : goal.returns-in-ValuesAreKeys
returns-in-ValuesAreKeys c = λ yes. fact_stays c.args.names.now c.args.name.now c.args.fact _ c.in-ValuesAreKeys.is (c.keys_are_free-in-ValuesAreKeys.ensures.values yes)
