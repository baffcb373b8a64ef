-- States without their facts.
use Rattle.ctd_traps.proofs.Common.{AbstractState, Context, EachStands, IsStateWithin, [], entries_in, subst, sym, ◌≡◌}
use Rattle.ctd_elements.specs.calls.Blocks.{AllStand}

-- a state without facts says no more than the one with them
pub no_facts_within : (g : Context) (state wider : AbstractState) → wider.entries.items ≡ state.entries.items → wider.facts.items ≡ [] → IsStateWithin g state wider
no_facts_within g state wider same none n h stands = record {
  values = subst (λ l. EachStands (entries_in g l) n h) (sym same) stands.values;
  facts = subst (λ l. AllStand g.names.now h l) (sym none) tt;
}
