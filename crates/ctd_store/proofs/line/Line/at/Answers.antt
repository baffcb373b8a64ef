use Rattle.std.proofs.Common.{ap, sym, ◌∙◌, ◌++◌, arith}
use Rattle.std.specs.Option.{option_copied}
use Rattle.ctd_store.specs.calls.Store.{slot}
use Rattle.ctd_store.proofs.Lines.{found_along, none_along, same_slot}
use Rattle.ctd_store.proofs.line.Line.at.Goals as goal

pub returns-in_err-number_below : goal.returns-in_err-number_below
returns-in_err-number_below c = record {
  value = λ front.
      ap option_copied c.from_residual.ensures
      ∙ sym (none_along (front ++ slot c.args.number) front c.args.self.now.base c.args.self.now.values.items (λ n below e. c.in_err-number_below.ensures.none n (omega (arith, below, c.len.ensures)) (same_slot front _ _ e)));
}

pub returns : goal.returns
returns c = record {
  value = λ front.
      sym (found_along (front ++ slot c.args.number) front c.args.self.now.base c.in_ok-number_below.field-0 c.args.self.now.values.items c.index.result.now
      (ap (λ n. front ++ slot n) c.in_ok-number_below.ensures.found.1) (omega (arith, c.in_ok-number_below.ensures.found.0, c.len.ensures)) c.index.ensures);
}
