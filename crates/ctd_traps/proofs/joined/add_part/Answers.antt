use Rattle.ctd_traps.proofs.joined.add_part.Goals as goal

pub returns : goal.returns
returns c =
    let each = c.in_ok-add_each.ensures in
    let asked = c.asked_in_both-joined.ensures in
    record {
      others = λ place moment h found is. each.others place moment h (found (asked.whole moment is));
      added = λ place moment h found is. each.added place moment h (found (asked.part moment is));
    }
