-- What stands in loops and IF, by what their boxes hold.
use Rattle.ctd_traps.proofs.Common.{Action, Box, Choice, Command, Commands, If, List, Place, action_tree, all_commands, ap, ap₂, boxed_separator, choice_tree, command_list, command_trees, commands_of}
use Rattle.ctd_traps.proofs.Common.{Expr, [], arith, expr_list, length, ◌<◌, ◌∷◌}
use Rattle.ctd_program.specs.Tree
use Rattle.ctd_traps.proofs.Common.{commands_within, list_commands, loop_tree, out-Choice, out-Loop, separator_commands, sym, ◌++◌, ◌∙◌, ◌≡◌}
use Rattle.ctd_program.specs.declared.tree.Action.TheVariants as actions
use Rattle.ctd_program.specs.declared.tree.Loop.{Loop}

-- a list of expressions that has some
pub some_indices : (es : List Expr) → 0 < length es → expr_list es ≡ Tree.none → ⊥
some_indices [] some none = omega (arith, some)
some_indices (e ∷ es) some none = absurd (cc none)

-- the trees of a block
pub block_trees : (block : Commands) (cs : List Command) → cs ≡ commands_of block → command_trees cs ≡ command_list block
block_trees block cs is = ap command_trees is ∙ sym (list_commands block)

-- the commands of a block
block_commands : (block : Commands) (cs : List Command) → cs ≡ commands_of block → all_commands (command_trees cs) ≡ all_commands (command_list block)
block_commands block cs is = ap all_commands (block_trees block cs is)

pub within_loop : (a : Action) (x : Box Loop) (l : Loop) (place : Place) (cs : List Command) → a ≡ actions.Loop x → l ≡ x.value → cs ≡ commands_of (out-Loop l).body
    → commands_within (action_tree a place) ≡ separator_commands (boxed_separator (out-Loop l).between) ++ all_commands (command_trees cs)
within_loop a x l place cs is held body = ap commands_within (loop_tree a x l place is held)
    ∙ ap (λ r. separator_commands (boxed_separator (out-Loop l).between) ++ r) (sym (block_commands (out-Loop l).body cs body))

pub within_choice : (a : Action) (x : Box Choice) (c : Choice) (place : Place) (cs ds : List Command) → a ≡ If x → c ≡ x.value → cs ≡ commands_of (out-Choice c).then_do → ds ≡ commands_of (out-Choice c).else_do
    → commands_within (action_tree a place) ≡ all_commands (command_trees cs) ++ all_commands (command_trees ds)
within_choice a x c place cs ds is held then_do else_do = ap commands_within (choice_tree a x c place is held)
    ∙ sym (ap₂ (λ xs ys. xs ++ ys) (block_commands (out-Choice c).then_do cs then_do) (block_commands (out-Choice c).else_do ds else_do))
