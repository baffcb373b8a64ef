use Rattle.std.proofs.Common.{ap, ap₂, sym, subst, true, codes, rules, [], ◌∷◌, ◌≡◌, ◌∙◌, List}
use Rattle.std.proofs.lemmas.Result.{IfOk-weaker}
use Rattle.clap.specs.Built.{AddsArg, AddsInTurn}
use Rattle.clap.specs.Words.{app_of, new_app, with_rule}
use Rattle.clap.specs.Simple.{app_of_fields, on_top}
use Rattle.clap.specs.declared.builder.arg.Arg.{Arg}
use Rattle.ctd_arguments.specs.CommandLine.{checker}
use Rattle.ctd_arguments.proofs.NamedProgram.{all_local}
use Rattle.ctd_arguments.proofs.command_line.command.Goals as goal

pub returns-clause-checker : goal.returns-clause-checker
unfolding checker
returns-clause-checker c =
    let bare : app_of c.version.result ≡ on_top (λ s. record s { has_version = true }) (new_app (codes "checktestdata")) =
    ap app_of_fields c.version.ensures ∙ ap (on_top (λ s. record s { has_version = true })) c.new-2.ensures.app in
    let all : List Arg = c.short_flag.result ∷ c.define_option.result ∷ c.short_flag-2.result ∷ c.short_flag-3.result ∷ c.option.result ∷ c.program_name.result ∷ c.new.result ∷ [] in
    IfOk-weaker c.args-2.result _ _ (λ r given.
    let added : AddsInTurn AddsArg c.version.result all r = subst (λ l. AddsInTurn AddsArg c.version.result l r) c.in_ok-arguments.ensures.items given in
    let generate = added.1.shape c.short_flag.ensures.local.1 ∙ ap₂ with_rule bare c.short_flag.ensures.rule in
    let define = added.2.1.shape c.define_option.ensures.local.1 ∙ ap₂ with_rule generate c.define_option.ensures.rule in
    let quiet = added.2.2.1.shape c.short_flag-2.ensures.local.1 ∙ ap₂ with_rule define c.short_flag-2.ensures.rule in
    let whitespace = added.2.2.2.1.shape c.short_flag-3.ensures.local.1 ∙ ap₂ with_rule quiet c.short_flag-3.ensures.rule in
    let steps = added.2.2.2.2.1.shape c.option.ensures.local.1 ∙ ap₂ with_rule whitespace c.option.ensures.rule in
    let program = added.2.2.2.2.2.1.shape c.program_name.ensures.local.1 ∙ ap₂ with_rule steps c.program_name.ensures.rule in
    ap app_of (sym added.2.2.2.2.2.2.2) ∙ added.2.2.2.2.2.2.1.shape c.new.ensures.optional.1 ∙ ap₂ with_rule program c.new.ensures.rule) c.args-2.ensures

pub returns-clause-program : goal.returns-clause-program
returns-clause-program c =
    let all : List Arg = c.short_flag.result ∷ c.define_option.result ∷ c.short_flag-2.result ∷ c.short_flag-3.result ∷ c.option.result ∷ c.program_name.result ∷ c.new.result ∷ [] in
    IfOk-weaker c.args-2.result _ _ (λ r given. record {
      bare = c.version.result;
      args = all;
      added = subst (λ l. AddsInTurn AddsArg c.version.result l r) c.in_ok-arguments.ensures.items given;
      no_args = search rules;
      no_groups = search rules;
      no_globals = search rules;
      always = search rules;
      named = search rules;
      local = all_local c.short_flag.result c.define_option.result c.short_flag-2.result c.short_flag-3.result c.option.result c.program_name.result c.new.result
          c.short_flag.ensures.local c.define_option.ensures.local c.short_flag-2.ensures.local c.short_flag-3.ensures.local c.option.ensures.local c.program_name.ensures.local
          (c.new.ensures.plain, c.new.ensures.optional.1);
      program = λ other. c.program_name.ensures.takes;
    }) c.args-2.ensures
