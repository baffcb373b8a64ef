-- The pure trees that the trees of the code stand for, apart from where these lie in memory.
use Rattle.ctd_program.specs.Tree
use Rattle.std.specs.Prelude.{Option, Some, None}
use Rattle.std.specs.Global.{Box}
use Rattle.ctd_program.specs.Tree.{ExprTree, Separator}
use Rattle.ctd_program.specs.declared.tree.Element.{Element}
use Rattle.ctd_program.specs.declared.tree.Command.{Command}
use Rattle.ctd_program.specs.calls.View.{exprs_of, expr_list, command_tree}

-- an element of an array
abbrev pub element_tree : Element → ExprTree
element_tree x = Tree.variable x.name (expr_list (exprs_of x.indices))

-- the separator of a loop in its box, or none
abbrev pub boxed_separator : Option (Box Command) → Separator
boxed_separator None = Tree.nothing
boxed_separator (Some boxed) = Tree.between (command_tree boxed.value)
