use Rattle.ctd_traps.proofs.Common.{OneDescribes, program_end, subst, sym, ◌∙◌}
use Rattle.ctd_traps.specs.declared.joined.Moment.TheVariants as moments
use Rattle.ctd_traps.proofs.known.knowledge_of.Goals as goal

pub returns : goal.returns
returns c =
    let g = c.args.context in
    record {
      at_end = λ h found. c.in_ok-at_end.ensures h (subst (λ l. OneDescribes g l program_end moments.Done h) (sym c.as_slice.ensures.value) (found (sym c.is_asked.ensures ∙ c.if-not-is_asked.false)));
      at_places = c.in_ok-at_places.ensures;
    }
