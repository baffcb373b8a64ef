use Rattle.std.proofs.Common.{◌∙◌}
use Rattle.ctd_partitions.proofs.Changing.{when_ok, words_tidied}
use Rattle.ctd_partitions.proofs.question.in_other_words.Goals as goal

pub returns : goal.returns
returns c = when_ok c.tidied.result (λ after is. words_tidied c.args.context c.args.state.now after c.view_of.result c.in_ok-entries.entries.items c.new-staying.result.items c.in_ok-changed.changed.items c.view_of.ensures (c.in_ok-entries.ensures ∙ c.as_slice.ensures.value) c.new-staying.ensures.items c.in_ok-changed.ensures.implied is) c.tidied.ensures
