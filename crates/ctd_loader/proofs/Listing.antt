-- The literals of a program, part by part.
use Rattle.std.proofs.Common.{◌≡◌, List, ◌++◌, Option, Result, Ok, Err, OnOk, sym, ap, ap₂, ◌∙◌, append_assoc}
use Rattle.std.specs.Global.{Box}
use Rattle.ctd_program.specs.declared.tree.Command.{Command}
use Rattle.ctd_program.specs.declared.tree.Commands.{Commands}
use Rattle.ctd_program.specs.declared.tree.PatternLiteral.{PatternLiteral}
use Rattle.ctd_token.specs.declared.text.Place.{Place}
use Rattle.ctd_program.specs.declared.tree.Action.{Action}
use Rattle.ctd_program.specs.declared.tree.Action.TheVariants.{If}
use Rattle.ctd_program.specs.declared.tree.Action.TheVariants as actions
use Rattle.ctd_program.specs.declared.tree.Loop.{Loop, out-Loop}
use Rattle.ctd_program.specs.declared.tree.Choice.{Choice, out-Choice}
use Rattle.ctd_program.specs.calls.View.{action_tree, command_trees, command_list, commands_of}
use Rattle.ctd_program.specs.inner.View.{boxed_separator}
use Rattle.ctd_program.proofs.Trees.{list_commands, loop_tree, choice_tree}
use Rattle.ctd_syntax.specs.inner.PatternLiterals.{command_literals, separator_literals, literals}

-- the list of a block
pub literals_of_block : (block : Commands) (cs : List Command) → cs ≡ commands_of block → literals (command_trees cs) ≡ literals (command_list block)
literals_of_block block cs is = ap literals (ap command_trees is ∙ sym (list_commands block))

-- a separator and then a loop's body
pub literals_of_loop : (between : Option (Box Command)) (body : Commands) (cs : List Command) → cs ≡ commands_of body
    → separator_literals (boxed_separator between) ++ literals (command_list body) ≡ separator_literals (boxed_separator between) ++ literals (command_trees cs)
literals_of_loop between body cs is = ap (λ l. separator_literals (boxed_separator between) ++ l) (sym (literals_of_block body cs is))

-- the literals of a loop and of an IF, by what its box holds
pub loop_literals : (a : Action) (x : Box Loop) (l : Loop) (place : Place) (cs : List Command) → a ≡ actions.Loop x → l ≡ x.value → cs ≡ commands_of (out-Loop l).body
    → command_literals (action_tree a place) ≡ separator_literals (boxed_separator (out-Loop l).between) ++ literals (command_trees cs)
loop_literals a x l place cs is held body = ap command_literals (loop_tree a x l place is held) ∙ (literals_of_loop (out-Loop l).between (out-Loop l).body cs body)

pub choice_literals : (a : Action) (x : Box Choice) (c : Choice) (place : Place) (cs ds : List Command) → a ≡ If x → c ≡ x.value → cs ≡ commands_of (out-Choice c).then_do → ds ≡ commands_of (out-Choice c).else_do
    → command_literals (action_tree a place) ≡ literals (command_trees cs) ++ literals (command_trees ds)
choice_literals a x c place cs ds is held then_do else_do = ap command_literals (choice_tree a x c place is held) ∙ (sym (ap₂ (λ xs ys. xs ++ ys) (literals_of_block (out-Choice c).then_do cs then_do) (literals_of_block (out-Choice c).else_do ds else_do)))

-- one list and then another
pub listed_both : {E : Type 0} (r : Result (Unit {0}) E) (old mid new ls ms all : List PatternLiteral) → mid ≡ old ++ ls → OnOk r (new ≡ mid ++ ms) → all ≡ ls ++ ms → OnOk r (new ≡ old ++ all)
listed_both (Ok x) old mid new ls ms all first second is = second ∙ ap (λ l. l ++ ms) first ∙ append_assoc old ls ms ∙ ap (λ l. old ++ l) (sym is)
listed_both (Err e) old mid new ls ms all first second is = tt
