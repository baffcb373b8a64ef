use Rattle.ctd_partitions.proofs.Changing.{lead_both, lead_viewed}
use Rattle.ctd_partitions.proofs.compare.joined_facts.Goals as goal

pub returns-clause-left : goal.returns-clause-left
returns-clause-left c =
    let g = c.args.context in
    let staying = c.in_ok-staying.staying.items in
    let changed = c.in_ok-changed.changed.items in
    let lead = lead_viewed g c.args.a.now c.view_of-view.result in
    lead_both g c.args.a.now staying changed (lead staying c.view_of-view.ensures c.in_ok-staying.ensures.one) (lead changed c.view_of-view.ensures c.in_ok-changed.ensures.one)

pub returns-clause-right : goal.returns-clause-right
returns-clause-right c =
    let g = c.args.context in
    let staying = c.in_ok-staying.staying.items in
    let changed = c.in_ok-changed.changed.items in
    let lead = lead_viewed g c.args.b.now c.view_of-other.result in
    lead_both g c.args.b.now staying changed (lead staying c.view_of-other.ensures c.in_ok-staying.ensures.other) (lead changed c.view_of-other.ensures c.in_ok-changed.ensures.other)
