use Rattle.ctd_traps.proofs.KeptLimits.{kept_index}
use Rattle.ctd_traps.proofs.lasting.lasting_index.Goals as goal

pub returns-then-index_stays : goal.returns-then-index_stays
returns-then-index_stays c = kept_index c.args.context.names.now c.args.repeated.now c.args.exact c.in-Some.index c.in-Some.is (c.index_stays.ensures c.if-index_stays.true)
