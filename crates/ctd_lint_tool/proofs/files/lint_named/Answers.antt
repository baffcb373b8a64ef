use Rattle.ctd_lint_tool.proofs.Common.{Leaves-WritesOneOf, WritesOneOf-weaker, handed_back, not_opened, not_read, of_program, refl, rules, unopened_report}
use Rattle.ctd_lint_tool.proofs.files.lint_named.Goals as goal

pub returns-in-Some : goal.returns-in-Some
returns-in-Some g c = record {
  written = WritesOneOf-weaker _ _ _ _ c.lint-status.result (λ report is. of_program c.in-Some.program c.lint-status.new.program _ (search rules) is c.close_program.ensures) c.lint-status.ensures.written;
  asked = handed_back c.in-Some.program c.lint-status.new.program _ (search rules) c.close_program.ensures;
}

pub returns-in-None : goal.returns-in-None
returns-in-None g c = record {
  written = Leaves-WritesOneOf _ _ _ (unopened_report c.args.setup.now.form c.args.name.now) c.write_unopened.result (not_opened (search rules) refl) c.write_unopened.ensures.written;
  asked = not_read (search rules);
}
