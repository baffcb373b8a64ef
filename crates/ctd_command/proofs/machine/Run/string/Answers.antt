use Rattle.std.proofs.Common.{Ok, Err}
use Rattle.ctd_program.specs.calls.View.{expr_tree}
use Rattle.ctd_value.specs.Val.{text_of}
use Rattle.ctd_command.specs.Commands.{match_bytes}
use Rattle.ctd_command.specs.calls.Failures.{failure_of}
use Rattle.ctd_command.proofs.Acts.{and_then, early_by, evaluated}
use Rattle.ctd_command.proofs.Telling.{tells_fault}
use Rattle.ctd_command.proofs.Strings.{done_alone}
use Rattle.ctd_command.proofs.machine.Run.string.Goals as goal

pub returns-in_err-bytes : goal.returns-in_err-bytes
returns-in_err-bytes g c =
    let a = c.args.self.now in
    let meant = text_of (expr_tree c.args.e.now) in
    record { performs = early_by match_bytes _ c.from_residual.ensures (evaluated a (Err (failure_of c.in_err-bytes.field-0.0)) meant c.requires.sound (tells_fault c.in_err-bytes.field-0.0 (meant a.store) c.in_err-bytes.ensures.value)) }

pub returns : goal.returns
returns g c =
    let a = c.args.self.now in
    let bytes = c.in_ok-bytes.bytes.now in
    record {
      performs = and_then match_bytes (evaluated a (Ok bytes) (text_of (expr_tree c.args.e.now)) c.requires.sound c.in_ok-bytes.ensures.value)
          (done_alone a c.match_bytes.new.cursor c.match_bytes.result (match_bytes bytes) c.match_bytes.ensures.sound c.match_bytes.ensures.matches);
    }
