use Rattle.std.proofs.Common.{[], ap, sym, ◌∙◌, Ok, Err, rules}
use Rattle.std.proofs.lemmas.Int.{to_z-of_z}
use Rattle.std.specs.Int.{w128}
use Rattle.ctd_source.proofs.AdvanceLemmas.{advances_so, advances_both}
use Rattle.ctd_command.specs.Commands.{decide}
use Rattle.ctd_command.specs.calls.Performs.{state}
use Rattle.ctd_command.proofs.Acts.{stopped_by, answers_as}
use Rattle.ctd_command.proofs.Integers.{passed, integer_faulty, integer_unseen, integer_judged}
use Rattle.ctd_command.proofs.machine.Run.any_integer.Goals as goal

pub returns-in_err-is_negative : goal.returns-in_err-is_negative
returns-in_err-is_negative g c = record {
  performs = stopped_by c.in_err-is_negative.field-0.0 _ c.from_residual.ensures
      (advances_so c.in_err-is_negative.ensures.passes (λ d _ e. integer_unseen c.args.least c.args.most d (state c.args.self.now) _ _ e));
}

pub returns-in_err-pass_digits : goal.returns-in_err-pass_digits
returns-in_err-pass_digits g c = record {
  performs = stopped_by c.in_err-pass_digits.field-0.0 _ c.from_residual-in_err-pass_digits.ensures
      (advances_so (advances_both c.in_ok-is_negative.ensures.passes c.in_err-pass_digits.ensures.passes)
      (λ d _ e. integer_faulty c.args.least c.args.most d (state c.args.self.now) _ c.in_ok-is_negative.is_negative _ _ (passed _ _ d _ _ _ c.in_ok-is_negative.is_negative _ e.0 e.1) e.1.stop));
}

pub returns-in-Ok : goal.returns-in-Ok
returns-in-Ok g c = record {
  performs = answers_as (ap Ok (to_z-of_z w128 c.in-Ok.n (search rules))) (record {
    sound = c.in_ok-pass_digits.ensures.sound;
    goes = advances_so (advances_both c.in_ok-is_negative.ensures.passes c.in_ok-pass_digits.ensures.passes)
        (λ d _ e.
        let whole = passed _ _ d _ _ _ c.in_ok-is_negative.is_negative _ e.0 e.1 in
        let is = simp (to_z-of_z w128 c.args.least c.ranges.least, to_z-of_z w128 c.args.most c.ranges.most) at (c.in-Ok.ensures e.1.row.row (e.1.row.seen [] c.none-digits.ensures)) in
        integer_judged c.args.least c.args.most d (state c.args.self.now) _ c.in_ok-is_negative.is_negative _ whole e.1.stop
        ∙ ap (λ r. decide r d (record { offset = c.pass_digits.new.cursor.spot.offset; store = c.args.self.now.store; mode = c.args.self.now.mode })) (sym is));
  });
}

pub returns-in-Err : goal.returns-in-Err
returns-in-Err g c = record {
  performs = answers_as (ap Err c.rejected.ensures) (record {
    sound = tt;
    goes = advances_so (advances_both c.in_ok-is_negative.ensures.passes c.in_ok-pass_digits.ensures.passes)
        (λ d _ e.
        let whole = passed _ _ d _ _ _ c.in_ok-is_negative.is_negative _ e.0 e.1 in
        let is = simp (to_z-of_z w128 c.args.least c.ranges.least, to_z-of_z w128 c.args.most c.ranges.most) at (c.in-Err.ensures e.1.row.row (e.1.row.seen [] c.none-digits.ensures)) in
        integer_judged c.args.least c.args.most d (state c.args.self.now) _ c.in_ok-is_negative.is_negative _ whole e.1.stop
        ∙ ap (λ r. decide r d (record { offset = c.pass_digits.new.cursor.spot.offset; store = c.args.self.now.store; mode = c.args.self.now.mode })) (sym is));
  });
}
