use Rattle.ctd_outcome.specs.declared.reason.Fault.TheVariants.{WrongType}
use Rattle.ctd_transfer.proofs.Deciding.{compare_fails}
use Rattle.ctd_transfer.proofs.condition.compare_faults.Goals as goal

pub returns : goal.returns
returns c = λ by k left right l r. compare_fails c.args.a c.args.b c.union-2.result c.may_mix-wrong_type.result
    (λ x h. c.union-2.ensures.first x (c.union.ensures.first x h)) (λ x h. c.union-2.ensures.first x (c.union.ensures.second x h)) (λ is. c.union-2.ensures.second WrongType is) c.may_mix-wrong_type.ensures.number c.may_mix-wrong_type.ensures.text by k left right l r
