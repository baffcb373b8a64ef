use Rattle.std.proofs.Common.{rules}
use Rattle.ctd_in_memory.proofs.buffers.answer_in_buffers.Goals as goal

pub returns : goal.returns
returns c = search rules
