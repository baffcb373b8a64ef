use Rattle.std.proofs.Common.{sym}
use Rattle.ctd_guarantees.proofs.guarantee.known_in_turns.Goals as goal

pub returns-then-ends_turns : goal.returns-then-ends_turns
returns-then-ends_turns c = record {
  one = c.index-places-i.result;
  among = (c.loop-i.i, c.loop-i-test.true, sym c.index-places-i.is);
  ends = c.ends_turns.ensures c.if-ends_turns.true;
  says = sym c.as_slice.ensures.value;
}
