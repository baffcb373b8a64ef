use Rattle.ctd_element_changes.proofs.Earlier.{keys_fact_was, values_fact_was}
use Rattle.ctd_element_changes.proofs.before.fact_before.Goals as goal

pub returns-in_ok-keys_before-in-KeysWithin : goal.returns-in_ok-keys_before-in-KeysWithin
returns-in_ok-keys_before-in-KeysWithin c = keys_fact_was c.args.names.now c.args.name.now c.args.exact c.args.fact c.in-KeysWithin.k c.in_ok-keys_before-in-KeysWithin.field-0 c.in-KeysWithin.is c.in_ok-keys_before-in-KeysWithin.ensures

pub returns-in_ok-keys_before-in-ValuesAreKeys : goal.returns-in_ok-keys_before-in-ValuesAreKeys
returns-in_ok-keys_before-in-ValuesAreKeys c = values_fact_was c.args.names.now c.args.name.now c.args.exact c.args.fact c.in-ValuesAreKeys.k c.in_ok-keys_before-in-ValuesAreKeys.field-0 c.in-ValuesAreKeys.is c.in_ok-keys_before-in-ValuesAreKeys.ensures
