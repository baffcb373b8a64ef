use Rattle.ctd_traps.proofs.Common.{arith, inl}
use Rattle.ctd_traps.proofs.Joining.{empty_list, last_added, none_left}
use Rattle.ctd_traps.proofs.joined.add_each.Goals as goal

pub loop-one-init : goal.loop-one-init
loop-one-init c = record { others = λ place moment h one. one; added = λ place moment h one. inl one }

pub loop-one-preserved : goal.loop-one-preserved
loop-one-preserved c =
    let g = c.args.context in
    let old = c.loop-one.states.items in
    let new = c.add_state.new.states.items in
    let added = c.in_ok-add_state.ensures in
    record {
      others = λ place moment h one. added.others place moment h (c.loop-one.invariant.others place moment h one);
      added = last_added g c.loop-one.more.items c.pop.new.self.items c.args.more.items old new c.in-Some.one c.in-Some.ensures.items added.others added.added c.loop-one.invariant.added;
    }

pub returns : goal.returns
returns c = record {
  others = c.loop-one.invariant.others;
  added = none_left c.args.context c.loop-one.more.items c.args.more.items c.loop-one.states.items
      (empty_list c.loop-one.more.items (omega (arith, c.loop-one.more.ok.0, c.in_default.ensures.cases.0))) c.loop-one.invariant.added;
}
