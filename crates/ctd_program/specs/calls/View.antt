-- The pure trees that the trees of the code stand for, apart from where these lie in memory.
use Rattle.ctd_program.specs.Tree
use Rattle.ctd_program.specs.declared.tree.LoopGuard.TheVariants as guards
use Rattle.ctd_program.specs.declared.tree.Action.TheVariants as actions
use Rattle.std.specs.Prelude.{ℕ, List, [], ◌∷◌, map, Option, Some, None}
use Rattle.std.specs.Global.{Box}
use Rattle.ctd_program.specs.Tree.{ExprTree, ExprList, VarTree, TestTree, GuardTree, CommandTree, CommandList, Separator}
use Rattle.ctd_token.specs.declared.text.Place.{Place}
use Rattle.ctd_program.specs.declared.tree.Expr.{Expr, Row_of-Expr, end_of-Expr, more_of-Expr}
use Rattle.ctd_program.specs.declared.tree.Expr.TheVariants.{Numeral, Text, Name, Element', Strlen', Minus', Add', Sub', Mul', Div', Rem', Pow'}
use Rattle.ctd_program.specs.declared.tree.Var.{Var}
use Rattle.ctd_program.specs.declared.tree.Exprs.{Exprs}
use Rattle.ctd_program.specs.declared.tree.Names.{Names}
use Rattle.ctd_program.specs.declared.tree.Test.{Test}
use Rattle.ctd_program.specs.declared.tree.Test.TheVariants.{Or', And', Not', Compare, Match, IsEof, Unique, InArray}
use Rattle.ctd_program.specs.declared.tree.Assignment.{Assignment}
use Rattle.ctd_program.specs.declared.tree.Assignments.{Assignments}
use Rattle.ctd_program.specs.declared.tree.Action.{Action}
use Rattle.ctd_program.specs.declared.tree.LoopGuard.{LoopGuard}
use Rattle.ctd_program.specs.declared.tree.Loop.{Loop', Held-Loop-between, None', Some'}
use Rattle.ctd_program.specs.declared.tree.Choice.{Choice'}
use Rattle.ctd_program.specs.declared.tree.Action.TheVariants.{Space, Newline, Eof, Int, String, Regex, Assert, Set, Unset, If'}
use Rattle.ctd_program.specs.declared.tree.Command.{Command}
use Rattle.ctd_program.specs.declared.tree.Commands.{Commands, Commands', out-Commands, Row_of-Command, end_of-Command, more_of-Command}

-- the elements of each list of a tree
abbrev pub exprs_of : Exprs → List Expr
exprs_of es = es.items.items

-- of names
abbrev pub names_of : Names → List (List ℕ)
names_of ns = ns.items.items

-- of assignments
abbrev pub assignments_of : Assignments → List Assignment
assignments_of xs = xs.items.items

-- of commands
abbrev pub commands_of : Commands → List Command
commands_of c = (out-Commands c).items.items

-- expressions
abbrev mutual
  -- the tree of an expression of the code
  pub expr_tree : Expr → ExprTree
  expr_tree (Numeral n) = Tree.numeral n
  expr_tree (Text t) = Tree.text t
  expr_tree (Name name) = Tree.variable name Tree.none
  expr_tree (Element' p name shape row) = Tree.variable name (expr_row row)
  expr_tree (Strlen' p e) = Tree.strlen (expr_tree e)
  expr_tree (Minus' p e) = Tree.minus (expr_tree e)
  expr_tree (Add' p a q b) = Tree.sum (expr_tree a) (expr_tree b)
  expr_tree (Sub' p a q b) = Tree.difference (expr_tree a) (expr_tree b)
  expr_tree (Mul' p a q b) = Tree.times (expr_tree a) (expr_tree b)
  expr_tree (Div' p a q b) = Tree.quotient (expr_tree a) (expr_tree b)
  expr_tree (Rem' p a q b) = Tree.remainder (expr_tree a) (expr_tree b)
  expr_tree (Pow' p a q b) = Tree.power (expr_tree a) (expr_tree b)

  -- the indices of an element, as they lie in it
  pub expr_row : {m : _} → Row_of-Expr m → ExprList
  expr_row end_of-Expr = Tree.none
  expr_row (more_of-Expr e rest) = Tree.some (expr_tree e) (expr_row rest)

-- a list of expressions
abbrev pub expr_list : List Expr → ExprList
expr_list [] = Tree.none
expr_list (e ∷ es) = Tree.some (expr_tree e) (expr_list es)

-- a variable that a command sets
abbrev pub var_tree : Var → VarTree
var_tree v = record { name = v.name; indices = expr_list (exprs_of v.indices) }

-- a target or none
abbrev pub target : Option Var → Option VarTree
target None = None
target (Some v) = Some (var_tree v)

-- a target in its box, or none
abbrev pub boxed_target : Option (Box Var) → Option VarTree
boxed_target None = None
boxed_target (Some v) = Some (var_tree v.value)

-- a test
abbrev pub test_tree : Test → TestTree
test_tree (Or' p a q b) = Tree.or (test_tree a) (test_tree b)
test_tree (And' p a q b) = Tree.and (test_tree a) (test_tree b)
test_tree (Not' p t) = Tree.not (test_tree t)
test_tree (Compare by a b) = Tree.compare by (expr_tree a) (expr_tree b)
test_tree (Match e) = Tree.matches (expr_tree e)
test_tree IsEof = Tree.at_end
test_tree (Unique names) = Tree.unique (names_of names)
test_tree (InArray e name) = Tree.in_array (expr_tree e) name

-- how long a loop goes on
abbrev pub guard_tree : LoopGuard → GuardTree
guard_tree (guards.Times count) = Tree.turns (expr_tree count.value)
guard_tree (guards.While t) = Tree.while (test_tree t.value)

-- an assignment
abbrev pub assignment : Assignment → VarTree × ExprTree
assignment a = (var_tree a.target, expr_tree a.value)

-- a command at its place
abbrev mutual
  -- the tree of a command of the code, with its place
  pub action_tree : Action → Place → CommandTree
  action_tree Space place = Tree.space place
  action_tree Newline place = Tree.newline place
  action_tree Eof place = Tree.eof place
  action_tree (Int int) place = Tree.int place (expr_tree int.value.low) (expr_tree int.value.high) (target int.value.target)
  action_tree (String e) place = Tree.string place (expr_tree e.value)
  action_tree (Regex regex) place = Tree.regex place regex.value.literal (target regex.value.target)
  action_tree (Assert t) place = Tree.assert place (test_tree t.value)
  action_tree (Set assignments) place = Tree.set place (map assignment (assignments_of assignments.value))
  action_tree (Unset names) place = Tree.unset place (names_of names.value)
  action_tree (actions.Loop' p (Loop' guard counter between body)) place = Tree.loop place (guard_tree guard) (boxed_target counter) (separator between) (command_list body)
  action_tree (If' p (Choice' t a b)) place = Tree.choice place (test_tree t.value) (command_list a) (command_list b)

  -- a separator or none
  pub separator : Held-Loop-between → Separator
  separator None' = Tree.nothing
  separator (Some' p place action) = Tree.between (action_tree action place)

  -- the commands of a block
  pub command_list : Commands → CommandList
  command_list (Commands' shape row) = command_row row

  -- as they lie in it
  pub command_row : {m : _} → Row_of-Command m → CommandList
  command_row end_of-Command = Tree.done
  command_row (more_of-Command place action rest) = Tree.then (action_tree action place) (command_row rest)

-- a command
abbrev pub command_tree : Command → CommandTree
command_tree c = action_tree c.action c.place

-- a list of them, as a program has it
abbrev pub command_trees : List Command → CommandList
command_trees [] = Tree.done
command_trees (c ∷ cs) = Tree.then (command_tree c) (command_trees cs)
