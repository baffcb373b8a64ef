use Rattle.ctd_command.proofs.Acts.{stopped_by}
use Rattle.ctd_command.proofs.Windows.{gives_as, measured_faulty, measured}
use Rattle.ctd_command.proofs.machine.Run.match_len.Goals as goal

pub returns-in_err-window-clause-performs : goal.returns-in_err-window-clause-performs
returns-in_err-window-clause-performs g c =
    stopped_by c.in_err-window.field-0.0 _ c.from_residual.ensures (measured_faulty c.args.self.now _ c.in_err-window.field-0.0 c.args.matcher.now c.requires.sound (gives_as _ _ _ _ c.in_err-window.was c.window.follows.holds-at-none))

pub returns-clause-performs : goal.returns-clause-performs
returns-clause-performs g c =
    measured c.args.self.now _ c.in_ok-window.window c.args.matcher.now c.match_length.result c.shorter_match.result c.requires.sound (gives_as _ _ _ _ c.in_ok-window.was c.window.follows.holds-at-none) c.match_length.ensures.length c.shorter_match.ensures.does c.shorter_match.ensures.same c.match_length.ensures.within
