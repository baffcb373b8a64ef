use Rattle.ctd_element_changes.proofs.Common.{refl}
use Rattle.ctd_element_changes.proofs.Sparing.{values_stay, within_stays}
use Rattle.ctd_element_changes.proofs.beside.keys_are_free.Goals as goal

pub returns-clause-within : goal.returns-clause-within
returns-clause-within c = λ yes. within_stays c.args.names.now c.args.name.now c.args.k (c.if-is_name.ensures.other refl) (c.if-is_name-2.ensures.other refl) (c.exception_is_free.ensures yes)

pub returns-clause-values : goal.returns-clause-values
returns-clause-values c = λ yes. values_stay c.args.names.now c.args.name.now c.args.k (c.if-is_name.ensures.other refl) (c.if-is_name-2.ensures.other refl) (c.exception_is_free.ensures yes)
