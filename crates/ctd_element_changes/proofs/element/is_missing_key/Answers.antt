use Rattle.ctd_element_changes.proofs.Common.{refl}
use Rattle.ctd_element_changes.proofs.KeysKept.{values_missing_by}
use Rattle.ctd_element_changes.proofs.element.is_missing_key.Goals as goal

pub returns-in-Some : goal.returns-in-Some
returns-in-Some c = λ yes. record {
  array = c.if-not-is_same_name.ensures.same refl;
  missing = values_missing_by c.args.state c.args.k c.excepting.result c.args.source.cell c.in-Some.cell c.in-Some.is c.excepting.ensures (c.follows.ensures yes);
}
