use Rattle.std.proofs.Common.{sym, ◌∙◌, arith}
use Rattle.std.proofs.lemmas.Grind.{common_steps}
use Rattle.std.proofs.lemmas.List.Sums.{prefix_len-drop_yes}
use Rattle.std.specs.Char.{is_ascii_digit}
use Rattle.ctd_command.proofs.SummaryLemmas.{summary_step}
use Rattle.ctd_command.proofs.digits.DigitSummary.read.Goals as goal

pub loop-byte-preserved : goal.loop-byte-preserved
loop-byte-preserved c = record {
  count = omega arith;
  front = omega (
    arith,
    c.loop-byte.invariant.front,
    prefix_len-drop_yes is_ascii_digit c.args.bytes.now c.loop-byte.byte-index 0 c.loop-byte-test.true (sym c.is_ascii_digit.ensures.value ∙ c.if-not-is_ascii_digit.false),
  );
  seen = λ digits seen. summary_step _ digits c.args.bytes.now c.loop-byte.byte-index c.loop-byte-test.true (c.push.ensures _ (c.loop-byte.invariant.seen digits seen));
}

pub returns-then-not-is_ascii_digit-clause-count : goal.returns-then-not-is_ascii_digit-clause-count
returns-then-not-is_ascii_digit-clause-count c = grind (arith, common_steps)
