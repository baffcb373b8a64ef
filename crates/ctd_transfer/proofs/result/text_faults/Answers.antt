use Rattle.ctd_transfer.proofs.Applying.{texts_only}
use Rattle.ctd_transfer.proofs.result.text_faults.Goals as goal

pub returns : goal.returns
returns c = λ k r may. texts_only c.args.a c.with_type_fault.result.faults c.may_be_number.result k r (c.may_be_number.ensures k) c.with_type_fault.ensures.wrong_type c.with_type_fault.ensures.own may
