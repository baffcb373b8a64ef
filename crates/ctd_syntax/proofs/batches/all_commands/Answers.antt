use Rattle.std.proofs.Common.{◌≡◌, ◌∷◌, ◌++◌, [], sym, ap, ◌∙◌, append_assoc, append-nil}
use Rattle.std.specs.Prelude.{map}
use Rattle.ctd_program.specs.calls.View.{command_trees}
use Rattle.ctd_program.proofs.Trees.{trees_then}
use Rattle.ctd_syntax.specs.inner.Front.{Always, lexeme}
use Rattle.ctd_syntax.specs.inner.CommandWords.{command_begins, CommandsEnd}
use Rattle.ctd_syntax.specs.Grammar.{IsCommand, IsCommands}
use Rattle.ctd_syntax.proofs.Staying.{read_here}
use Rattle.ctd_syntax.proofs.Boundaries.{found_begins}
use Rattle.ctd_syntax.proofs.StayCommands.{commands_start, commands_next, commands_end}
use Rattle.ctd_syntax.proofs.Parsing.{nothing, spelled_only}
use Rattle.ctd_syntax.proofs.batches.all_commands.Goals as goal

pub loop-rest-init : goal.loop-rest-init
loop-rest-init c = ([], sym (append-nil c.args.commands.now.items), rw c.split_at.ensures.back (commands_start (map lexeme c.args.tokens.now)))

pub loop-rest-preserved : goal.loop-rest-preserved
loop-rest-preserved c =
    let before = c.loop-rest.invariant in
    let next = c.in-Ok.read.0 in
    let tokens = map lexeme c.args.tokens.now in
    let rest = map lexeme c.loop-rest.rest.now in
    let after = map lexeme c.in-Ok.read.1.now in (
      before.0 ++ next ∷ [],
      c.in_ok-push.ensures.items ∙ ap (λ l. l ++ next ∷ []) before.1 ∙ append_assoc c.args.commands.now.items before.0 (next ∷ []),
      rw (trees_then before.0 next) (commands_next tokens rest after _ _ before.2 (found_begins rest after _ (read_here IsCommand Always rest after _ c.in-Ok.ensures.tree)) c.in-Ok.ensures.tree),
    )

pub returns : goal.returns
returns c =
    let read = c.loop-rest.invariant in
    let tokens = map lexeme c.args.tokens.now in
    let rest = map lexeme c.loop-rest.rest.now in
    let none : rest ≡ [] = nothing lexeme c.loop-rest.rest.now (sym c.is_empty.ensures ∙ c.loop-rest-test.false) in
    record {
      front = tokens;
      commands = read.0;
      split = sym (append-nil tokens);
      put = read.1;
      only = spelled_only tokens (command_trees read.0) rest (read_here IsCommands CommandsEnd tokens rest (command_trees read.0) (commands_end tokens rest (command_trees read.0) read.2 (ap command_begins none))) none;
    }
