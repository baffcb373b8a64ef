use Rattle.ctd_traps.proofs.Common.{SparesLoop, rules, subst, ◌≡◌}
use Rattle.ctd_states.proofs.NamedValues.{name_is}
use Rattle.ctd_states.specs.calls.States.{name_at}
use Rattle.ctd_traps.proofs.KeptLimits.{name_lasts, number_lasts}
use Rattle.ctd_traps.proofs.lasting.stays.Goals as goal

pub returns-in-Some-get : goal.returns-in-Some-get
returns-in-Some-get c = λ is.
    let named : c.in-Some-get.name.now.now ≡ name_at c.args.names.now c.in-Some.term.name = search (rules, name_is) in
    name_lasts c.args.names.now c.args.repeated.now c.args.b c.in-Some.term c.in-Some.is (subst (λ word. SparesLoop word c.args.repeated.now) named (c.loop_spares.ensures is))

pub returns-in-None : goal.returns-in-None
returns-in-None c = λ _. number_lasts c.args.names.now c.args.repeated.now c.args.b c.in-None.is
