use Rattle.ctd_lint_tool.proofs.Common.{App, ArgMatches, Error, FailsBy, IfOk-weaker, List, Result, Text, ap, fault_of, is_simple, is_simple_and_free, map, matches_of, refl, subst, true, ◌∙◌, ◌≡◌}
use Rattle.clap.proofs.OnLiterals.{clap_on_literals}
use Rattle.ctd_lint_tool.specs.calls.CommandLine.{linter}
use Rattle.ctd_lint_tool.proofs.command_line.matches_in.Goals as goal

simple : is_simple linter ≡ true
unfolding clap_on_literals linter
simple = refl

simple_and_free : is_simple_and_free linter ≡ true
unfolding clap_on_literals linter
simple_and_free = refl

pub returns-clause-found : goal.returns-clause-found
returns-clause-found c =
    let is = c.in_ok-command.ensures.linter in
    IfOk-weaker c.try_get_matches_from.result _ _ (λ m h. (h (ap is_simple is ∙ simple)).0 ∙ ap (λ a. matches_of a (map (λ w. w.now) c.args.words.now)) is)
    c.try_get_matches_from.ensures.matches

fails_as : (a b : App) (words : List Text) (r : Result ArgMatches Error) → a ≡ b → is_simple_and_free b ≡ true
    → (is_simple_and_free a ≡ true → FailsBy (fault_of a words) r) → FailsBy (fault_of b words) r
fails_as a b words r is free h = subst (λ x. FailsBy (fault_of x words) r) is (h (ap is_simple_and_free is ∙ free))

pub returns-clause-fault : goal.returns-clause-fault
returns-clause-fault c = fails_as _ linter _ c.try_get_matches_from.result c.in_ok-command.ensures.linter simple_and_free c.try_get_matches_from.ensures.kinds
