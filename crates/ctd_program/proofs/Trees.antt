-- The lists in a tree, seen from their two sides.
use Rattle.std.proofs.Common.{◌≡◌, refl, sym, ap, ◌∙◌, List, [], ◌∷◌, ◌++◌, Option, Some, None}
use Rattle.std.specs.Global.{Box}
use Rattle.ctd_program.specs.Tree
use Rattle.ctd_program.specs.Tree.{CommandList}
use Rattle.ctd_token.specs.declared.text.Place.{Place}
use Rattle.ctd_program.specs.calls.View.{expr_tree, expr_row, expr_list, boxed_target, test_tree, guard_tree, separator, action_tree, command_tree, command_trees, command_list, command_row, commands_of}
use Rattle.ctd_program.specs.inner.View.{element_tree, boxed_separator}
use Rattle.ctd_program.specs.declared.tree.Command.{Command}
use Rattle.ctd_program.specs.declared.tree.Commands.{Commands, Commands', Row_of-Command, end_of-Command, more_of-Command, items-the_row-Command}
use Rattle.ctd_program.specs.declared.tree.Action.TheBlock.{back-Loop-between, items_shown-the_row-Command-0}
use Rattle.ctd_program.specs.declared.tree.Action.{Action}
use Rattle.ctd_program.specs.declared.tree.Action.TheVariants.{If}
use Rattle.ctd_program.specs.declared.tree.Action.TheVariants as actions
use Rattle.ctd_program.specs.declared.tree.Loop.{Loop, out-Loop, is-Loop'}
use Rattle.ctd_program.specs.declared.tree.Choice.{Choice, out-Choice, is-Choice'}
use Rattle.ctd_program.specs.declared.tree.Expr.{Row_of-Expr, end_of-Expr, more_of-Expr, items-the_row-Expr}
use Rattle.ctd_program.specs.declared.tree.Expr.TheVariants.{Element}
use Rattle.ctd_program.specs.declared.tree.Expr.TheBlock.{hidden-the_row-Expr-0, items_hidden-the_row-Expr-0}
use Rattle.ctd_program.specs.declared.tree.Element as elements

pub row_list : {m : _} (row : Row_of-Expr m) → expr_row row ≡ expr_list (items-the_row-Expr m row)
row_list end_of-Expr = refl
row_list (more_of-Expr e rest) = ap (Tree.some (expr_tree e)) (row_list rest)

-- an element, in its box
pub boxed_element : (x : Box elements.Element) → expr_tree (Element x) ≡ element_tree x.value
boxed_element x = let es = x.value.indices.items in ap (Tree.variable x.value.name) (row_list (hidden-the_row-Expr-0 es) ∙ ap expr_list (items_hidden-the_row-Expr-0 es))

-- a separator, held by a command and in its box
pub held_separator : (x : Option (Box Command)) → separator (back-Loop-between x) ≡ boxed_separator x
held_separator None = refl
held_separator (Some boxed) = refl

-- the trees of a loop and of IF, by what their boxes hold
pub loop_tree : (a : Action) (x : Box Loop) (l : Loop) (place : Place) → a ≡ actions.Loop x → l ≡ x.value
    → action_tree a place ≡ Tree.loop place (guard_tree (out-Loop l).guard) (boxed_target (out-Loop l).counter) (boxed_separator (out-Loop l).between) (command_list (out-Loop l).body)
loop_tree a x l place is held =
    ap (λ b. action_tree b place) is
    ∙ ap (λ k. action_tree (actions.Loop (record { ptr = x.ptr; alloc = x.alloc; value = k })) place) (sym held ∙ is-Loop' l)
    ∙ ap (λ s. Tree.loop place (guard_tree (out-Loop l).guard) (boxed_target (out-Loop l).counter) s (command_list (out-Loop l).body)) (held_separator (out-Loop l).between)

pub choice_tree : (a : Action) (x : Box Choice) (c : Choice) (place : Place) → a ≡ If x → c ≡ x.value
    → action_tree a place ≡ Tree.choice place (test_tree (out-Choice c).condition.value) (command_list (out-Choice c).then_do) (command_list (out-Choice c).else_do)
choice_tree a x c place is held =
    ap (λ b. action_tree b place) is
    ∙ ap (λ k. action_tree (If (record { ptr = x.ptr; alloc = x.alloc; value = k })) place) (sym held ∙ is-Choice' c)

-- the list of a block's commands, seen from its two sides
pub row_commands : {m : _} (row : Row_of-Command m) → command_row row ≡ command_trees (items-the_row-Command m row)
row_commands end_of-Command = refl
row_commands (more_of-Command place action rest) = ap (Tree.then (action_tree action place)) (row_commands rest)

pub list_commands : (c : Commands) → command_list c ≡ command_trees (commands_of c)
unfolding Rattle.ctd_program.specs.declared.tree.Action.TheViews.out-Commands Rattle.ctd_program.specs.declared.tree.Action.TheBlock.shown-the_row-Command-0 denote.Hole.Carrier.out denote.Hole.Carrier.shown
list_commands (Commands' shape row) = row_commands row ∙ ap command_trees (sym (items_shown-the_row-Command-0 shape row))

-- the commands of one list and then of another
abbrev pub joined : CommandList → CommandList → CommandList
joined Tree.done b = b
joined (Tree.then c rest) b = Tree.then c (joined rest b)

-- one more command at the end
pub trees_then : (cs : List Command) (c : Command) → command_trees (cs ++ c ∷ []) ≡ joined (command_trees cs) (Tree.then (command_tree c) Tree.done)
trees_then [] c = refl
trees_then (d ∷ ds) c = ap (Tree.then (command_tree d)) (trees_then ds c)
