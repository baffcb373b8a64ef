use Rattle.ctd_traps.proofs.Common.{Count}
use Rattle.ctd_traps.proofs.Turning.{count_fails}
use Rattle.ctd_traps.proofs.start.count_faults.Goals as goal

pub returns : goal.returns
returns c = λ k r found.
    count_fails c.args.count c.number_faults.result c.union.result c.may_be_no_count-is_bad.result k r found (c.number_faults.ensures k r found) c.union.ensures.first (λ is. c.union.ensures.second Count is) (λ good. c.may_be_no_count-is_bad.ensures good k)
