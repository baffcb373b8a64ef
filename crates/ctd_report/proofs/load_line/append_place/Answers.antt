use Rattle.std.proofs.Common.{append_assoc}
use Rattle.ctd_report.proofs.load_line.append_place.Goals as goal

pub returns-clause-items : goal.returns-clause-items
returns-clause-items c =
    rw c.in-Some.is
    (rw (c.append-5.ensures.items, c.append-4.ensures.items, c.as_bytes-2.ensures.value, c.format-2.ensures.text, c.append-3.ensures.items, c.append-2.ensures.items, c.as_bytes.ensures.value, c.format.ensures.text, c.append.ensures.items) (simp append_assoc))
