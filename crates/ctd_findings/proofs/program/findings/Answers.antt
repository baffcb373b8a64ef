use Rattle.ctd_findings.proofs.Common.{All, IfOk, IsPlaced, List, NeverHappens, Place, ap, command_trees, events_of, map, place_of, places_in, subst, sym, trees_of, ◌∙◌}
use Rattle.ctd_findings.proofs.Sound.{are_meant, are_placed, same_places}
use Rattle.ctd_findings.proofs.program.findings.Goals as goal

pub returns : goal.returns
returns c =
    let entries = c.as_slice.result.now in
    let never = c.as_slice-2.result.now in
    let found = c.findings_in.result in
    let tree = command_trees c.args.commands.now in
    record {
      placed = subst (λ (places : List Place). IfOk found (λ v. All (IsPlaced places) v.items))
          (same_places entries ∙ ap (map place_of) (ap trees_of c.as_slice.ensures.value ∙ c.in_ok-entries.ensures.all))
          (are_placed (λ v. v.items) (places_in entries) never found c.findings_in.ensures.sound);
      meant = λ none. are_meant (λ v. v.items) (places_in entries) never tree c.args.presets.now found (subst (λ l. NeverHappens tree c.args.presets.now (events_of l)) (sym c.as_slice-2.ensures.value) none) c.findings_in.ensures.sound;
    }
