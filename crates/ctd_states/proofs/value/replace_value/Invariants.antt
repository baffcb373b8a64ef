use Rattle.ctd_states.proofs.Common.{named_values, with_value, ◌≡◌}
use Rattle.ctd_states.proofs.NamedValues.{front}
use Rattle.ctd_states.proofs.value.replace_value.Given as goal

abbrev pub invariant-loop-i : goal.invariant-loop-i
invariant-loop-i l = named_values l.names l.entries ≡ front (with_value l.name l.value) l.i (named_values l.names l.fn.entries)
