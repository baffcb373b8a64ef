use Rattle.ctd_traps.proofs.Common.{OneDescribes, subst, sym, ◌∙◌}
use Rattle.ctd_traps.proofs.Knowing.{place_pushed}
use Rattle.ctd_traps.specs.calls.Known.{IsKnownOf}
use Rattle.ctd_traps.specs.declared.known.KnownAt.{KnownAt}
use Rattle.ctd_traps.proofs.known.add_place.Goals as goal

pub returns-in-None : goal.returns-in-None
returns-in-None c = λ so. so

pub returns-in_ok-push-in-Some : goal.returns-in_ok-push-in-Some
returns-in_ok-push-in-Some c =
    let g = c.args.context in
    let y : KnownAt = record { place = c.args.place; moment = c.args.moment; known = c.in-Some.known } in
    place_pushed g c.args.joined.now c.args.found.now.items c.push.new.self.items y c.in_ok-push-in-Some.ensures.items
    (λ h found. subst (IsKnownOf g.names.now h) c.in-Some.is (c.in_ok-all.ensures h (subst (λ l. OneDescribes g l c.args.place c.args.moment h) (sym c.as_slice.ensures.value) (found (sym c.is_asked.ensures ∙ c.if-not-is_asked.false)))))
