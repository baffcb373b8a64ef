use Rattle.ctd_traps.proofs.Common.{get_or, length, subst, sym, ◌<◌, ◌≡◌}
use Rattle.ctd_traps.proofs.Joining.{rejoined_added, rejoined_others}
use Rattle.ctd_traps.proofs.joined.add_state.Goals as goal

pub returns-in_ok-push_state-in-None : goal.returns-in_ok-push_state-in-None
returns-in_ok-push_state-in-None c =
    let g = c.args.context in
    let pushed = c.in_ok-push_state-in-None.ensures in
    record { others = pushed.others g; added = pushed.added g }

pub returns-in_ok-push_state-in-Some : goal.returns-in_ok-push_state-in-Some
returns-in_ok-push_state-in-Some c =
    let g = c.args.context in
    let states = c.args.states.now.items in
    let i = c.in-Some.i in
    let old = c.remove-old.result in
    let rest = c.remove-old.new.self.items in
    let all = c.push_state.new.states.items in
    let both = c.in_ok-state-in-Some.state in
    let joins = c.in_ok-state-in-Some.ensures in
    let pushed = c.in_ok-push_state-in-Some.ensures in
    let inside : i < length states = subst (λ l. i < length l) c.as_slice.ensures.value c.in-Some.ensures.inside in
    record {
      others = rejoined_others g states rest all i old both inside c.remove-old.ensures.value c.remove-old.ensures.items joins.left (pushed.others g) (pushed.added g);
      added = rejoined_added g all old c.args.more both (c.in-Some.ensures.at old (subst (λ l. old ≡ get_or l i old) (sym c.as_slice.ensures.value) c.remove-old.ensures.value)) joins.right (pushed.added g);
    }
