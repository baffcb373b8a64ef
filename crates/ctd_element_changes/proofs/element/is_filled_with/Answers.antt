use Rattle.ctd_element_changes.proofs.Common.{refl}
use Rattle.ctd_element_changes.proofs.Giving.{filled_other, filled_with}
use Rattle.ctd_element_changes.proofs.element.is_filled_with.Goals as goal

pub returns-then-not-is_same_name : goal.returns-then-not-is_same_name
returns-then-not-is_same_name c = λ yes. filled_other c.args.state c.args.f c.args.target c.args.limits (c.if-not-is_same_name.ensures.other refl) (c.follows.ensures yes)

pub returns : goal.returns
returns c = λ yes. filled_with c.args.state c.args.f c.args.target c.args.limits (c.if-not-is_same_name.ensures.same refl) (c.if-not-is_small.ensures refl) (c.is_filled_but_one.ensures yes)
