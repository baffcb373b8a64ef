use Rattle.std.proofs.Common.{◌≡◌, true, [], refl, sym, subst}
use Rattle.clap.proofs.FaultLemmas.{leaf_fault}
use Rattle.clap.proofs.OnLiterals.{clap_on_literals}
use Rattle.clap.specs.Words.{built}
use Rattle.ctd_arguments.specs.CommandLine.{checker}
use Rattle.ctd_arguments.specs.calls.Usage.{IsSingle}
use Rattle.ctd_arguments.proofs.SingleLemmas.{level_one}
use Rattle.ctd_arguments.proofs.laws.refusals_have_one_kind.Goals as goal

is_leaf : (built checker).top.is_leaf ≡ true
unfolding clap_on_literals checker
is_leaf = refl

no_subcommand : (built checker).subs ≡ []
unfolding clap_on_literals checker
no_subcommand = refl

pub returns : goal.returns
returns c words = subst IsSingle (sym (leaf_fault (built checker) _ _ no_subcommand)) (level_one (built checker).top is_leaf _ _)
