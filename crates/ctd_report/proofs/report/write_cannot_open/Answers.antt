use Rattle.ctd_report.proofs.report.write_cannot_open.Goals as goal

pub returns : goal.returns
returns g c = record {
  written = rw (c.as_slice-2.ensures.value, c.in_ok-line.ensures, c.as_slice.ensures.whole) at c.write_report.ensures.written;
}
