use Rattle.std.specs.Prelude.{map}
use Rattle.ctd_syntax.specs.inner.Front.{lexeme}
use Rattle.ctd_syntax.proofs.BatchesRead.{none_off}
use Rattle.ctd_syntax.proofs.batches.read_off.Goals as goal

pub returns-then-not-ends-clause-read : goal.returns-then-not-ends-clause-read
returns-then-not-ends-clause-read c = λ _. none_off (map lexeme c.args.batch.now.items) c.args.commands.now.items
