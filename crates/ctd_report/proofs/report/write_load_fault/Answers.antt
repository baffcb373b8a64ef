use Rattle.std.proofs.Common.{rules}
use Rattle.ctd_report.proofs.report.write_load_fault.Goals as goal

pub returns-clause-written : goal.returns-clause-written
returns-clause-written g c = rw (c.as_slice.ensures.value, c.load_line_of-line.ensures) at c.write_report.ensures.written

pub returns-clause-memory : goal.returns-clause-memory
returns-clause-memory g c = search rules
