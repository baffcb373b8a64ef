use Rattle.ctd_program.specs.declared.tree.Compare.TheVariants.{Equal}
use Rattle.ctd_partitions.proofs.Changing.{compared_within, when_ok}
use Rattle.ctd_partitions.proofs.question.equal.Goals as goal

pub returns : goal.returns
returns c = when_ok c.in_other_words.result (λ after within. compared_within c.args.context c.args.state.now c.in_ok-same.same after Equal c.args.a c.args.b c.in_ok-same.ensures within) c.in_other_words.ensures
