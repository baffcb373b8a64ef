use Rattle.ctd_traps.proofs.KeptLimits.{index_lasts}
use Rattle.ctd_traps.proofs.lasting.index_stays.Goals as goal

pub returns-in-Number : goal.returns-in-Number
returns-in-Number c = λ is. index_lasts c.args.names.now c.args.repeated.now c.args.index c.in-Number.b c.in-Number.is (c.stays.ensures is)
