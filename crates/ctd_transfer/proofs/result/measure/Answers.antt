use Rattle.ctd_transfer.proofs.Common.{WrongType, ◌∙◌}
use Rattle.ctd_transfer.proofs.Applying.{measures}
use Rattle.ctd_transfer.proofs.result.measure.Goals as goal

pub returns : goal.returns
returns c = λ k r may. measures c.args.a c.measure_text.result c.with_faults.result c.may_be_number.result k r (c.measure_text.ensures k) (c.may_be_number.ensures k)
    (c.with_faults.ensures.values ∙ c.with_type_fault-own.ensures.values)
    (λ is. c.with_faults.ensures.own WrongType (c.with_type_fault-own.ensures.wrong_type is)) (λ x h. c.with_faults.ensures.others x h) may
