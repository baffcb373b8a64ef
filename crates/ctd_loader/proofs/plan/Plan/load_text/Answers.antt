use Rattle.std.proofs.Common.{rules}
use Rattle.ctd_program.specs.calls.View.{command_trees}
use Rattle.ctd_loader.proofs.Loads.{came_too_long, came_unread, came_whole, wants_memory}
use Rattle.ctd_loader.proofs.plan.Plan.load_text.Goals as goal

pub returns-in_err-received-clause-loads : goal.returns-in_err-received-clause-loads
returns-in_err-received-clause-loads g c = wants_memory command_trees g.P.Source c.args.program.now c.receive.new.program c.from_residual.result c.from_residual.ensures (c.in_err-received.ensures).memory

pub returns-then-len-gt-PROGRAM_LIMIT-clause-loads : goal.returns-then-len-gt-PROGRAM_LIMIT-clause-loads
returns-then-len-gt-PROGRAM_LIMIT-clause-loads g c = came_too_long command_trees g.P.Source _ _ _ c.in_ok-received.ensures.gave c.in_ok-received.ensures.within (search rules)

pub returns-then-failed-clause-loads : goal.returns-then-failed-clause-loads
returns-then-failed-clause-loads g c = came_unread command_trees g.P.Source _ _ _ c.in_ok-received.ensures.gave c.in_ok-received.ensures.within (search rules) (search rules)

pub returns-clause-loads : goal.returns-clause-loads
returns-clause-loads g c = came_whole command_trees g.P.Source _ _ _ c.in_ok-received.ensures.gave c.in_ok-received.ensures.within _ (search rules) (search rules)
