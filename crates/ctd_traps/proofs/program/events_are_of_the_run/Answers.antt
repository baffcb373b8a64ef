use Rattle.ctd_traps.proofs.Reaching.{comes_as_it_runs, each_end_is_reached}
use Rattle.ctd_traps.proofs.program.events_are_of_the_run.Goals as goal

pub returns : goal.returns
returns c = record { comes = comes_as_it_runs; ends = each_end_is_reached }
