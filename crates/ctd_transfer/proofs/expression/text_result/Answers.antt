use Rattle.ctd_transfer.proofs.Common.{IsKnown, subst}
use Rattle.ctd_store.specs.declared.value.Value.TheVariants as values
use Rattle.ctd_transfer.proofs.expression.text_result.Goals as goal

pub returns : goal.returns
returns c = λ k h. (c.of_text.ensures k, subst (λ q. IsKnown q h c.limits_of_text.result (values.Text c.args.bytes.now)) c.view_of.ensures.names (c.limits_of_text.ensures h))
