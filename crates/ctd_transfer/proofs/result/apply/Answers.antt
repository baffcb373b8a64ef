use Rattle.ctd_transfer.proofs.Common.{WrongType, ◌∙◌}
use Rattle.ctd_transfer.proofs.Applying.{applied}
use Rattle.ctd_transfer.proofs.result.apply.Goals as goal

pub returns : goal.returns
returns c = λ k left right l r. applied c.args.operator c.args.a c.args.b c.operate.result c.with_faults-2.result c.operands-numbers.result k left right c.operands-numbers.ensures.operands c.operate.ensures.operates
    (c.with_faults-2.ensures.values ∙ c.with_faults.ensures.values ∙ c.with_type_fault-own.ensures.values ∙ c.with_operands-computed.ensures.values)
    (λ x h. c.with_faults-2.ensures.own x (c.with_faults.ensures.others x h))
    (λ x h. c.with_faults-2.ensures.others x h)
    (λ is. c.with_faults-2.ensures.own WrongType (c.with_faults.ensures.own WrongType (c.with_type_fault-own.ensures.wrong_type is)))
    (λ x h. c.with_faults-2.ensures.own x (c.with_faults.ensures.own x (c.with_type_fault-own.ensures.own x (c.with_operands-computed.ensures.own x h)))) l r
