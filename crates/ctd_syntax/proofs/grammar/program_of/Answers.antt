use Rattle.std.proofs.Common.{◌≡◌, ◌-◌, length, None, sym, ap, ◌∙◌, subst}
use Rattle.std.specs.Prelude.{map}
use Rattle.ctd_syntax.specs.inner.Front.{AreNoProgram, OneTree, HasTree, HasNoTree, IsRefusal, lexeme}
use Rattle.ctd_syntax.specs.Grammar.{IsCommands}
use Rattle.ctd_syntax.specs.inner.CommandWords.{CommandsEnd}
use Rattle.ctd_syntax.specs.Nesting.{start, PassesLimitAt}
use Rattle.ctd_syntax.specs.inner.Nesting.{too_deep}
use Rattle.ctd_syntax.specs.Reading.{Parses, IsFirstWrong, lexemes}
use Rattle.std.proofs.lemmas.List.{length-map}
use Rattle.ctd_syntax.proofs.Staying.{read_here, none_here}
use Rattle.ctd_program.specs.calls.View.{command_list, command_trees}
use Rattle.ctd_program.proofs.Trees.{list_commands}
use Rattle.ctd_syntax.proofs.Parsing.{left_wrong, none_wrong, wrong_token, parsed, spelled_only, left_over, unspelled, of_any_cut, nothing, something}
use Rattle.ctd_syntax.proofs.Weights.{never_heavy, first_heavy}
use Rattle.ctd_syntax.proofs.grammar.program_of.Goals as goal

pub returns-then-is_empty-clause-parses : goal.returns-then-is_empty-clause-parses
returns-then-is_empty-clause-parses c =
    let text = c.args.text.now in
    let cut = c.requires in
    let shallow : too_deep start (lexemes text cut.tokens) ≡ None = ap (too_deep start) cut.same ∙ sym c.in_ok-before.ensures ∙ c.in_default.is in
    let found = subst (λ l. OneTree IsCommands CommandsEnd l (command_list c.in-Ok.commands) (map lexeme c.in-Ok.rest.now)) (sym cut.same) (read_here IsCommands CommandsEnd (map lexeme c.args.tokens.now) (map lexeme c.in-Ok.rest.now) (command_list c.in-Ok.commands) c.in-Ok.ensures.tree) in
    subst (Parses text) (list_commands c.in-Ok.commands ∙ ap command_trees (sym c.new.ensures))
    (parsed text cut.tokens (command_list c.in-Ok.commands) cut.is_cut shallow
    (spelled_only (lexemes text cut.tokens) (command_list c.in-Ok.commands) (map lexeme c.in-Ok.rest.now) found (nothing lexeme c.in-Ok.rest.now (sym c.is_empty.ensures ∙ c.if-is_empty.true))))

pub too_deep-requires : goal.too_deep-requires
too_deep-requires c =
    let cut = c.requires in
    of_any_cut c.args.text.now cut.tokens (λ ts. PassesLimitAt (lexemes c.args.text.now ts) c.in-Some.before) cut.is_cut
    (first_heavy (lexemes c.args.text.now cut.tokens) c.in-Some.before (ap (too_deep start) cut.same ∙ sym c.in_ok-before.ensures ∙ c.in-Some.is))

pub no_program-requires : goal.no_program-requires
no_program-requires c =
    let text = c.args.text.now in
    let cut = c.requires in
    let shallow : too_deep start (lexemes text cut.tokens) ≡ None = ap (too_deep start) cut.same ∙ sym c.in_ok-before.ensures ∙ c.in_default.is in
    let found = subst (λ l. HasTree IsCommands CommandsEnd l (command_list c.in-Ok.commands) (map lexeme c.in-Ok.rest.now)) (sym cut.same) c.in-Ok.ensures.tree in
    let some = something lexeme c.in-Ok.rest.now (sym c.is_empty.ensures ∙ c.if-is_empty.false) in
    let here = read_here IsCommands CommandsEnd (lexemes text cut.tokens) (map lexeme c.in-Ok.rest.now) (command_list c.in-Ok.commands) found in
    let left = length c.in-Ok.rest.now in
    let wrong = subst (λ n. IsFirstWrong (lexemes text cut.tokens) (length (lexemes text cut.tokens) - n)) (length-map c.in-Ok.rest.now lexeme) (left_wrong (lexemes text cut.tokens) (map lexeme c.in-Ok.rest.now) (command_list c.in-Ok.commands) found) in
    of_any_cut text cut.tokens (AreNoProgram text left) cut.is_cut
    (never_heavy (lexemes text cut.tokens) shallow, left_over text cut.tokens (command_list c.in-Ok.commands) some.0 (map lexeme c.in-Ok.rest.now) some.1 here some.2, wrong_token text cut.tokens left wrong)

pub no_program-requires-in-Err-Syntax : goal.no_program-requires-in-Err-Syntax
no_program-requires-in-Err-Syntax c =
    let text = c.args.text.now in
    let cut = c.requires in
    let shallow : too_deep start (lexemes text cut.tokens) ≡ None = ap (too_deep start) cut.same ∙ sym c.in_ok-before.ensures ∙ c.in_default.is in
    let refused = subst (λ e. IsRefusal IsCommands CommandsEnd e (map lexeme c.args.tokens.now)) c.in-Err-Syntax.field-0-is c.in-Err-Syntax.ensures.tree in
    let none = subst (λ l. HasNoTree IsCommands CommandsEnd l c.in-Err-Syntax.left) (sym cut.same) refused in
    of_any_cut text cut.tokens (AreNoProgram text c.in-Err-Syntax.left) cut.is_cut (never_heavy (lexemes text cut.tokens) shallow, unspelled text cut.tokens (none_here IsCommands CommandsEnd (lexemes text cut.tokens) c.in-Err-Syntax.left none), wrong_token text cut.tokens c.in-Err-Syntax.left (none_wrong (lexemes text cut.tokens) c.in-Err-Syntax.left none))
