use Rattle.std.proofs.Common.{refl}
use Rattle.ctd_source.proofs.Moving.{stands_at_start}
use Rattle.ctd_source.proofs.cursor.Cursor.with_buffers.Goals as goal

pub returns-clause-stands : goal.returns-clause-stands
returns-clause-stands g c d limit = stands_at_start _ d limit c.args.buffers.empty refl c.new.ensures.seen c.start.ensures
