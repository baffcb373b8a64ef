use Rattle.ctd_outcome.specs.declared.reason.Fault.TheVariants.{WrongType}
use Rattle.ctd_transfer.proofs.result.with_type_fault.Goals as goal

pub returns-clause-wrong_type : goal.returns-clause-wrong_type
returns-clause-wrong_type c = λ is. c.with_faults.ensures.others WrongType is
