use Rattle.std.specs.Prelude.{⊤}
use Rattle.ctd_command.specs.State.{◌>>=◌, return, pass}
use Rattle.ctd_command.proofs.Acts.{and_then, early_by, given, performs_as}
use Rattle.ctd_command.proofs.Windows.{counted_first}
use Rattle.ctd_command.proofs.machine.Run.pass_match.Goals as goal

pub returns-in-Some : goal.returns-in-Some
returns-in-Some g c = record { performs = rw c.in-Some.is c.keep_match.ensures.performs }

pub returns-in_err-n-in-None : goal.returns-in_err-n-in-None
returns-in_err-n-in-None g c = record { performs = rw c.in-None.is (performs_as (counted_first c.args.matcher.now) (early_by {B = ⊤} (λ n. pass n >>= λ _. return tt) _ c.from_residual.ensures c.in_err-n-in-None.ensures.performs)) }

pub returns-in_ok-n-in-None : goal.returns-in_ok-n-in-None
returns-in_ok-n-in-None g c =
    record {
      performs = rw c.in-None.is (performs_as (counted_first c.args.matcher.now)
          (and_then {B = ⊤} (λ n. pass n >>= λ _. return tt) c.in_ok-n-in-None.ensures.performs (and_then {B = ⊤} (λ _. return tt) c.pass_many.ensures.performs (given c.pass_many.new.self tt c.pass_many.ensures.performs.sound))));
    }
