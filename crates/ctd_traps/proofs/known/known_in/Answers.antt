use Rattle.ctd_traps.proofs.Common.{rules}
use Rattle.ctd_traps.proofs.Knowing.{fact_told}
use Rattle.ctd_traps.proofs.known.known_in.Goals as goal

pub loop-k-preserved : goal.loop-k-preserved
loop-k-preserved c = fact_told c.args.state.now c.as_slice-facts.result.now c.loop-k.k _ c.loop-k.known.items c.add_known.new.known.items c.as_slice-facts.ensures.value (search rules) c.in_ok-add_known.ensures c.loop-k.invariant
