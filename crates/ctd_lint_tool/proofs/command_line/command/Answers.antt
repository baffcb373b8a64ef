use Rattle.ctd_lint_tool.proofs.Common.{AddsArg, AddsInTurn, Arg, IfOk-weaker, List, [], ap, app_of, app_of_fields, ap₂, bare_linter, on_top, subst, sym, true, with_rule, ◌∙◌, ◌∷◌, ◌≡◌}
use Rattle.ctd_lint_tool.specs.calls.CommandLine.{linter}
use Rattle.ctd_lint_tool.proofs.command_line.command.Goals as goal

pub returns : goal.returns
unfolding linter
returns c =
    let bare : app_of c.version.result ≡ bare_linter =
    ap app_of_fields c.version.ensures ∙ ap (on_top (λ s. record s { has_version = true })) c.new.ensures.app in
    let all : List Arg = c.define_option.result ∷ c.option.result ∷ c.flag.result ∷ c.flag-2.result ∷ c.flag-3.result ∷ c.program_names.result ∷ [] in
    record {
      linter = IfOk-weaker c.args-2.result _ _ (λ r given.
          let added : AddsInTurn AddsArg c.version.result all r = subst (λ l. AddsInTurn AddsArg c.version.result l r) c.in_ok-arguments.ensures.items given in
          let define = added.1.shape c.define_option.ensures.local.1 ∙ ap₂ with_rule bare c.define_option.ensures.rule in
          let ignore = added.2.1.shape c.option.ensures.local.1 ∙ ap₂ with_rule define c.option.ensures.rule in
          let verdicts = added.2.2.1.shape c.flag.ensures.local.1 ∙ ap₂ with_rule ignore c.flag.ensures.rule in
          let told = added.2.2.2.1.shape c.flag-2.ensures.local.1 ∙ ap₂ with_rule verdicts c.flag-2.ensures.rule in
          let json = added.2.2.2.2.1.shape c.flag-3.ensures.local.1 ∙ ap₂ with_rule told c.flag-3.ensures.rule in
          ap app_of (sym added.2.2.2.2.2.2) ∙ added.2.2.2.2.2.1.shape c.program_names.ensures.local.1 ∙ ap₂ with_rule json c.program_names.ensures.rule) c.args-2.ensures;
    }
