use Rattle.ctd_transfer.proofs.Applying.{numbers_only}
use Rattle.ctd_transfer.proofs.result.number_faults.Goals as goal

pub returns : goal.returns
returns c = λ k r may. numbers_only c.args.a c.with_type_fault.result.faults c.may_be_text.result k r (c.may_be_text.ensures k) c.with_type_fault.ensures.wrong_type c.with_type_fault.ensures.own may
