use Rattle.ctd_transfer.proofs.Common.{WrongType, ◌∙◌}
use Rattle.ctd_transfer.proofs.Applying.{negates}
use Rattle.ctd_transfer.proofs.result.negate.Goals as goal

pub returns : goal.returns
returns c = λ k r may. negates c.args.a c.negate_number.result c.with_faults.result c.may_be_text.result k r (c.negate_number.ensures k) (c.may_be_text.ensures k)
    (c.with_faults.ensures.values ∙ c.with_type_fault-own.ensures.values ∙ c.with_operands-computed.ensures.values)
    (λ is. c.with_faults.ensures.own WrongType (c.with_type_fault-own.ensures.wrong_type is))
    (λ x h. c.with_faults.ensures.own x (c.with_type_fault-own.ensures.own x (c.with_operands-computed.ensures.own x h))) (λ x h. c.with_faults.ensures.others x h) may
