use Rattle.ctd_transfer.proofs.Common.{drop}
use Rattle.ctd_transfer.proofs.Acting.{ClearLeads}
use Rattle.ctd_transfer.proofs.variable.clear_all.Given as goal

abbrev pub invariant-loop-name : goal.invariant-loop-name
invariant-loop-name l = ClearLeads l.context l.state l.after (drop l.name-index l.names) l.names
