use Rattle.ctd_element_changes.proofs.Common.{refl}
use Rattle.ctd_element_changes.proofs.KeysKept.{values_by_exception, values_by_key, values_complete, values_other}
use Rattle.ctd_element_changes.proofs.element.are_values_keys.Goals as goal

pub returns-then-are_values_complete : goal.returns-then-are_values_complete
returns-then-are_values_complete c = λ yes. values_complete c.args.state c.args.k c.args.target c.args.limits (c.if-are_values_complete.ensures refl)

pub returns-then-not-is_same_name : goal.returns-then-not-is_same_name
returns-then-not-is_same_name c = λ yes. values_other c.args.state c.args.k c.args.target c.args.limits (c.if-not-follows.ensures refl) (c.if-not-is_same_name.ensures.other refl)

pub returns-then-has_key : goal.returns-then-has_key
returns-then-has_key c = λ yes. values_by_key c.args.state c.args.k c.args.target c.args.limits (c.if-not-follows.ensures refl) (c.if-has_key.ensures refl)

pub returns : goal.returns
returns c = λ yes. values_by_exception c.args.state c.args.k c.args.target c.args.limits (c.if-not-follows.ensures refl) (c.is_cell_in.ensures yes)
