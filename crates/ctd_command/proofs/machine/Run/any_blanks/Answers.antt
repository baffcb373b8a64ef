use Rattle.ctd_source.proofs.AdvanceLemmas.{advances_so}
use Rattle.ctd_command.specs.calls.Performs.{state}
use Rattle.ctd_command.proofs.Acts.{stopped_by}
use Rattle.ctd_command.proofs.Skipping.{skips, skips_to_fault}
use Rattle.ctd_command.proofs.machine.Run.any_blanks.Goals as goal

pub returns-in_err-pass_blanks : goal.returns-in_err-pass_blanks
returns-in_err-pass_blanks g c = record {
  performs = stopped_by c.in_err-pass_blanks.field-0.0 _ c.from_residual.ensures
      (advances_so c.in_err-pass_blanks.ensures.passes (λ d _ e. skips_to_fault d (state c.args.self.now) _ _ e));
}

pub returns : goal.returns
returns g c = record {
  performs = record {
    sound = c.in_ok-pass_blanks.ensures.sound;
    goes = advances_so c.in_ok-pass_blanks.ensures.passes (λ d _ e. skips d (state c.args.self.now) _ e);
  };
}
