use Rattle.std.proofs.Common.{◌≡◌, ◌∙◌, ap, sym, map, List, [], ℕ, All, IsUtf8, Err}
use Rattle.std.proofs.lemmas.Result.{IfOk-weaker, IfErr-weaker}
use Rattle.std.specs.Borrow.{Bor}
use Rattle.clap.specs.Words.{Row, Text, fault_of, found_of, matches_of, rows_of}
use Rattle.ctd_arguments.specs.CommandLine.{checker}
use Rattle.ctd_arguments.specs.inner.Usage.{IsFoundIn}
use Rattle.ctd_arguments.proofs.UsageFaults.{by_clap, holds_on_return, no_texts}
use Rattle.ctd_arguments.proofs.words.settings.Goals as goal

-- clap takes the words, and what it finds in them is what the settings are made of
found : (words : List Text) (texts : List (Bor (List ℕ))) (rows : List Row) → map (λ t. t.now) texts ≡ words → All IsUtf8 words → fault_of checker (map (λ t. t.now) texts) ≡ [] → rows ≡ matches_of checker (map (λ t. t.now) texts) → IsFoundIn words rows
found words texts rows are utf8 takes finds = ((utf8, sym (ap (fault_of checker) are) ∙ takes), finds ∙ ap (matches_of checker) are)

pub returns-in-Ok-clause-setup : goal.returns-in-Ok-clause-setup
returns-in-Ok-clause-setup c =
    let words : List Text = c.args.words.now in
    let are = ap (map (λ (t : Bor (List ℕ)). t.now)) c.as_slice.ensures.value ∙ c.in_ok-texts.ensures.ok in
    let is = found words c.as_slice.result.now (rows_of (found_of c.in-Ok.matches)) are c.in_ok-texts.ensures.text c.in-Ok.ensures.fault c.in-Ok.ensures.found in
    IfOk-weaker c.setup_of.result _ _ (λ s by_words. by_words words is) c.setup_of.ensures.setup

pub returns-in-Ok-clause-fault : goal.returns-in-Ok-clause-fault
returns-in-Ok-clause-fault c =
    let words : List Text = c.args.words.now in
    let are = ap (map (λ (t : Bor (List ℕ)). t.now)) c.as_slice.ensures.value ∙ c.in_ok-texts.ensures.ok in
    let is = found words c.as_slice.result.now (rows_of (found_of c.in-Ok.matches)) are c.in_ok-texts.ensures.text c.in-Ok.ensures.fault c.in-Ok.ensures.found in
    IfErr-weaker c.setup_of.result _ _ (λ f by_words. by_words words is) c.setup_of.ensures.fault

pub returns-in_err-texts-clause-fault : goal.returns-in_err-texts-clause-fault
returns-in_err-texts-clause-fault c =
    holds_on_return _ c.in_err-texts.field-0.0 c.from_residual.result c.from_residual.ensures
    (no_texts c.args.words.now _ c.in_err-texts.ensures.faults (λ is. c.in_err-texts.ensures.refused (ap Err is)))

pub returns-clause-fault : goal.returns-clause-fault
returns-clause-fault c =
    let words : List Text = c.args.words.now in
    let are = ap (map (λ (t : Bor (List ℕ)). t.now)) c.as_slice.ensures.value ∙ c.in_ok-texts.ensures.ok in
    by_clap words c.as_slice.result.now _ c.fault_for.result are c.in_ok-texts.ensures.text c.fault_for.ensures c.in-Err.ensures.fault
