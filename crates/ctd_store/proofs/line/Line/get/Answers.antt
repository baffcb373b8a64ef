use Rattle.std.proofs.Common.{[], ◌∷◌, ◌++◌, ap, sym, ◌∙◌, arith}
use Rattle.std.specs.Option.{option_copied}
use Rattle.ctd_store.proofs.Lines.{found_along, none_along, same_last}
use Rattle.ctd_store.proofs.line.Line.get.Goals as goal

pub returns-in_err-place_of : goal.returns-in_err-place_of
returns-in_err-place_of c = record {
  value = λ front.
      ap option_copied c.from_residual.ensures
      ∙ sym (none_along (front ++ c.args.index.now ∷ []) front c.args.self.now.base c.args.self.now.values.items (λ n below e. c.in_err-place_of.ensures.none n (omega (arith, below, c.len.ensures)) (same_last front _ _ e)));
}

pub returns : goal.returns
returns c = record {
  value = λ front.
      sym (found_along (front ++ c.args.index.now ∷ []) front c.args.self.now.base c.in_ok-place_of.field-0 c.args.self.now.values.items c.index.result.now
      (ap (λ x. front ++ x ∷ []) c.in_ok-place_of.ensures.found.1) (omega (arith, c.in_ok-place_of.ensures.found.0, c.len.ensures)) c.index.ensures);
}
