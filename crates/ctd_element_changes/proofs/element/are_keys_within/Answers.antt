use Rattle.ctd_element_changes.proofs.Common.{refl}
use Rattle.ctd_element_changes.proofs.KeysKept.{within_by_exception, within_by_cell, within_complete, within_other}
use Rattle.ctd_element_changes.proofs.element.are_keys_within.Goals as goal

pub returns-then-has_cell : goal.returns-then-has_cell
returns-then-has_cell c = λ yes. within_by_cell c.args.state c.args.k c.args.target c.args.limits (c.if-not-follows.ensures refl) (c.if-has_cell.ensures refl)

pub returns-then-is_same_name : goal.returns-then-is_same_name
returns-then-is_same_name c = λ yes. within_by_exception c.args.state c.args.k c.args.target c.args.limits (c.if-not-follows.ensures refl) (c.is_cell_in.ensures yes)

pub returns-then-follows : goal.returns-then-follows
returns-then-follows c = λ yes. within_other c.args.state c.args.k c.args.target c.args.limits (c.if-follows.ensures refl) (c.if-is_same_name.ensures.other refl)

pub returns : goal.returns
returns c = λ yes. within_complete c.args.state c.args.k c.args.target c.args.limits (c.are_keys_complete.ensures yes) (c.if-is_same_name.ensures.other refl)
