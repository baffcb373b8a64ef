use Rattle.std.proofs.Common.{ap, refl, take, List, ℕ, Err}
use Rattle.ctd_program.specs.calls.View.{var_tree}
use Rattle.ctd_store.specs.declared.value.Value.TheVariants.{Text}
use Rattle.ctd_command.specs.Commands.{set_to}
use Rattle.ctd_command.specs.Regex.{leading_match, shorter_match}
use Rattle.ctd_command.proofs.Acts.{and_then, early, early_by, performs_as, stopped_by, with_cursor}
use Rattle.ctd_command.proofs.Assignments.{variable_set, variable_not_set}
use Rattle.ctd_command.proofs.Windows.{doing, gives_as, windowed, match_faulty, with_match}
use Rattle.ctd_command.proofs.machine.Run.keep_match.Goals as goal

pub returns-in_err-window : goal.returns-in_err-window
returns-in_err-window g c = record { performs = early_by {m = leading_match c.args.matcher.now} _ _ c.from_residual.ensures (stopped_by {A = List ℕ} c.in_err-window.field-0.0 (Err _) (refl, refl) (match_faulty c.args.self.now _ c.in_err-window.field-0.0 c.args.matcher.now c.requires.sound (gives_as _ _ _ _ c.in_err-window.was c.window.follows.holds-at-none))) }

pub returns-in_err-n : goal.returns-in_err-n
returns-in_err-n g c =
    let b = with_cursor c.args.self.now c.window.follows.lender-at-none in
    let w = windowed c.args.self.now _ c.in_ok-window.window c.requires.sound (gives_as _ _ _ _ c.in_ok-window.was c.window.follows.holds-at-none) in
    record { performs = early_by _ _ c.from_residual-in_err-n.ensures (and_then _ w (early _ (performs_as (λ d s. ap (λ l. shorter_match l d s) c.match_length.ensures.length) (doing b _ (shorter_match c.match_length.result) w.sound c.in_err-n.ensures.does)))) }

pub returns-in_err-set : goal.returns-in_err-set
returns-in_err-set g c =
    let a = c.args.self.now in
    record {
      performs = with_match (λ bytes. set_to (var_tree c.args.v.now) (Text bytes)) a c.window.follows.lender-at-none c.take_many.new.self c.in_ok-window.window c.args.matcher.now c.match_length.result c.in_ok-n.n c.requires.sound (gives_as _ _ _ _ c.in_ok-window.was c.window.follows.holds-at-none)
          c.match_length.ensures.length c.in_ok-n.ensures.does c.in_ok-n.ensures.same c.match_length.ensures.within c.take_many.ensures.moves
          (λ _. variable_not_set (with_cursor a c.take_many.new.self) c.set_text-set.new.store (var_tree c.args.v.now) (Text (take c.in_ok-n.n c.in_ok-window.window.now)) c.in_err-set.field-0.0 c.from_residual-in_err-set.result c.from_residual-in_err-set.ensures c.in_err-set.ensures.value);
    }

pub returns : goal.returns
returns g c =
    let a = c.args.self.now in
    record {
      performs = with_match (λ bytes. set_to (var_tree c.args.v.now) (Text bytes)) a c.window.follows.lender-at-none c.take_many.new.self c.in_ok-window.window c.args.matcher.now c.match_length.result c.in_ok-n.n c.requires.sound (gives_as _ _ _ _ c.in_ok-window.was c.window.follows.holds-at-none)
          c.match_length.ensures.length c.in_ok-n.ensures.does c.in_ok-n.ensures.same c.match_length.ensures.within c.take_many.ensures.moves
          (λ sound. variable_set (with_cursor a c.take_many.new.self) c.set_text-set.new.store (var_tree c.args.v.now) (Text (take c.in_ok-n.n c.in_ok-window.window.now)) sound c.in_ok-set.ensures.value);
    }
