use Rattle.ctd_range.proofs.order.is_within.Goals as goal

pub returns-then-is_above : goal.returns-then-is_above
returns-then-is_above c = record {
  within = λ is n x few inside. record {
    low = c.is_above.ensures c.if-is_above.true n x few inside.low;
    high = c.is_below.ensures is n x few inside.high;
  };
}
