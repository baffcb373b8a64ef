use Rattle.ctd_states.proofs.Common.{StateIsWithin, named_values, subst}
use Rattle.ctd_states.proofs.join.join_entries.Goals as goal

pub returns : goal.returns
returns c = record {
  left = λ names. subst (λ l. StateIsWithin (named_values names c.args.a.now) (named_values names l)) c.as_slice.ensures.value (c.is_within.ensures.all c.if-not-is_within.false names);
  right = λ names. subst (λ l. StateIsWithin (named_values names c.args.b.now) (named_values names l)) c.as_slice-2.ensures.value (c.is_within-2.ensures.all c.if-not-is_within-2.false names);
}
