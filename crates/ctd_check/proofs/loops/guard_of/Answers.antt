use Rattle.std.proofs.Common.{sym}
use Rattle.ctd_command.proofs.Acts.{and_then, early_map_ok, given}
use Rattle.ctd_check.specs.inner.FrameTasks.{guard_in}
use Rattle.ctd_check.proofs.loops.guard_of.Goals as goal

pub returns-in_err-turns-in-Times : goal.returns-in_err-turns-in-Times
returns-in_err-turns-in-Times g c = record { performs = rw (c.in-Times.is, sym c.deref.ensures) (early_map_ok guard_in _ _ c.from_residual.ensures c.in_err-turns-in-Times.ensures.performs) }

pub returns-in_ok-turns-in-Times : goal.returns-in_ok-turns-in-Times
returns-in_ok-turns-in-Times g c = record { performs = rw (c.in-Times.is, sym c.deref.ensures) (and_then _ c.in_ok-turns-in-Times.ensures.performs (given c.args.run.now _ c.requires.sound)) }

pub returns-in-While : goal.returns-in-While
returns-in-While g c = record { performs = rw (c.in-While.is, sym c.deref-in-While.ensures) (given c.args.run.now _ c.requires.sound) }
