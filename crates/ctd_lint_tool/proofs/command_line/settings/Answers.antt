use Rattle.ctd_lint_tool.proofs.Common.{All, Bor, IfErr-weaker, IfOk-weaker, IsFoundIn, IsUtf8, List, Row, Text, [], ap, fault_of, found_of, map, matches_of, rows_of, rules, sym, ℕ, ◌∙◌, ◌≡◌}
use Rattle.ctd_lint_tool.specs.calls.CommandLine.{linter}
use Rattle.ctd_lint_tool.proofs.command_line.settings.Goals as goal

-- clap takes the words, and what it finds in them is what the settings are made of
found : (words : List Text) (texts : List (Bor (List ℕ))) (rows : List Row) → map (λ t. t.now) texts ≡ words → All IsUtf8 words → fault_of linter (map (λ t. t.now) texts) ≡ [] → rows ≡ matches_of linter (map (λ t. t.now) texts) → IsFoundIn words rows
found words texts rows are utf8 takes finds = ((utf8, sym (ap (fault_of linter) are) ∙ takes), finds ∙ ap (matches_of linter) are)

pub returns-in-Ok-clause-setup : goal.returns-in-Ok-clause-setup
returns-in-Ok-clause-setup c =
    let words : List Text = c.args.words.now in
    let are = ap (map (λ (t : Bor (List ℕ)). t.now)) c.as_slice.ensures.value ∙ c.in_ok-texts.ensures.ok in
    let is = found words c.as_slice.result.now (rows_of (found_of c.in-Ok.matches)) are c.in_ok-texts.ensures.text c.in-Ok.ensures.fault c.in-Ok.ensures.found in
    IfOk-weaker c.setup_of.result _ _ (λ s by_words. by_words words is) c.setup_of.ensures.setup

pub returns-in-Ok-clause-fault : goal.returns-in-Ok-clause-fault
returns-in-Ok-clause-fault c =
    let words : List Text = c.args.words.now in
    let are = ap (map (λ (t : Bor (List ℕ)). t.now)) c.as_slice.ensures.value ∙ c.in_ok-texts.ensures.ok in
    let is = found words c.as_slice.result.now (rows_of (found_of c.in-Ok.matches)) are c.in_ok-texts.ensures.text c.in-Ok.ensures.fault c.in-Ok.ensures.found in
    IfErr-weaker c.setup_of.result _ _ (λ f by_words. by_words words is) c.setup_of.ensures.fault

pub returns-clause-fault : goal.returns-clause-fault
returns-clause-fault c = search rules
