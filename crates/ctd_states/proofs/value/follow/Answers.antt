use Rattle.std.proofs.Common.{◌≡◌, ◌<◌, length, get_or, rules}
use Rattle.ctd_states.proofs.NamedValues.{values_all_follow, values_leads_on}
use Rattle.ctd_states.proofs.value.follow.Goals as goal

pub loop-i-preserved : goal.loop-i-preserved
loop-i-preserved c =
    let inside : c.loop-i.i < length c.args.entries.now = search rules in
    let is : c.in-Some.value.now ≡ get_or c.args.entries.now c.loop-i.i c.in-Some.value.now = search rules in
    λ names. values_leads_on names c.args.entries.now c.args.others.now c.loop-i.i c.in-Some.value.now _ inside is c.loop-i-test.true (c.name_is_within.ensures.within c.if-name_is_within.true) (c.loop-i.invariant names)

pub returns : goal.returns
returns c = record { all = λ is names. values_all_follow names c.args.entries.now c.args.others.now c.loop-i.i c.loop-i-test.false (c.loop-i.invariant names) }
