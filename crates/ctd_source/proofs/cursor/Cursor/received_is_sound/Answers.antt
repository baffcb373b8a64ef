use Rattle.ctd_source.proofs.Agreeing.{start_follows, reading_follows, moving_follows, agreeing_stands}
use Rattle.ctd_source.proofs.cursor.Cursor.received_is_sound.Goals as goal

pub returns-clause-starts : goal.returns-clause-starts
returns-clause-starts g c = start_follows

pub returns-clause-reads : goal.returns-clause-reads
returns-clause-reads g c = reading_follows

pub returns-clause-moves : goal.returns-clause-moves
returns-clause-moves g c = moving_follows

pub returns-clause-agreeing : goal.returns-clause-agreeing
returns-clause-agreeing g c = agreeing_stands
