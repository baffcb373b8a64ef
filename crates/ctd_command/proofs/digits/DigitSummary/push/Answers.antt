use Rattle.std.proofs.Common.{refl, arith}
use Rattle.ctd_command.proofs.SummaryLemmas.{summary_more}
use Rattle.ctd_command.proofs.digits.DigitSummary.push.Goals as goal

pub returns : goal.returns
returns c digits seen = summary_more c.args.self.now _ digits c.args.digit (omega arith) refl c.append_digit-self.ensures seen
