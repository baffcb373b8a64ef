use Rattle.std.proofs.Common.{◌≤◌, length}
use Rattle.std.specs.Prelude.{map}
use Rattle.ctd_syntax.specs.inner.Front.{lexeme, IsAssignment}
use Rattle.ctd_program.specs.calls.View.{assignment}
use Rattle.ctd_token.specs.declared.token.Mark.TheVariants.{Close}
use Rattle.ctd_syntax.proofs.StayRows.{BeforeItem}
use Rattle.ctd_syntax.proofs.target.assignments.Given as goal

abbrev pub invariant-loop-read : goal.invariant-loop-read
invariant-loop-read l = record {
  before : BeforeItem IsAssignment Close (map lexeme l.tokens) (map assignment l.items.items) (map lexeme l.left);
  shorter : length l.left ≤ length l.tokens;
}

abbrev pub decreases-loop-read : goal.decreases-loop-read
decreases-loop-read l = length l.left
