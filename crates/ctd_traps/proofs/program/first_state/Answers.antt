use Rattle.ctd_traps.proofs.Common.{AbstractState, EachStands, IsInPartition, PinsAreIn, Vec, entries_in, if_ok_more, subst, sym}
use Rattle.ctd_elements.specs.calls.Blocks.{AllStand}
use Rattle.ctd_traps.proofs.program.first_state.Goals as goal

pub returns : goal.returns
returns c =
    let g = c.args.context in
    let own : AbstractState = record { entries = c.in_ok-entries.entries; facts = c.new-facts.result } in
    if_ok_more (λ (v : Vec AbstractState). IsInPartition g own v.items) (λ (v : Vec AbstractState). PinsAreIn g v.items) c.join_state.result
    (λ v added n h each. added n h (record {
      values = subst (λ l. EachStands (entries_in g l) n h) (sym c.in_ok-entries.ensures) each;
      facts = subst (λ l. AllStand g.names.now h l) (sym c.new-facts.ensures.items) tt;
    })) c.join_state.ensures.added
