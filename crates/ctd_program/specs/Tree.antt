-- The trees of programs, apart from where they lie in memory.
use Rattle.std.specs.Prelude.{ℕ, ℤ, List, Option}
use Rattle.ctd_token.specs.declared.text.Place.{Place}
use Rattle.ctd_program.specs.declared.tree.Compare.{Compare}
use Rattle.ctd_program.specs.declared.tree.PatternLiteral.{PatternLiteral}

-- an expression, and a list of them
mutual
  -- an expression
  pub data ExprTree : Type 0 where
    numeral : (n : ℤ) → ExprTree
    text : (bytes : List ℕ) → ExprTree
    variable : (name : List ℕ) (indices : ExprList) → ExprTree
    strlen : (e : ExprTree) → ExprTree
    minus : (e : ExprTree) → ExprTree
    sum : (a b : ExprTree) → ExprTree
    difference : (a b : ExprTree) → ExprTree
    times : (a b : ExprTree) → ExprTree
    quotient : (a b : ExprTree) → ExprTree
    remainder : (a b : ExprTree) → ExprTree
    power : (a b : ExprTree) → ExprTree

  -- expressions one after the other
  pub data ExprList : Type 0 where
    none : ExprList
    some : (e : ExprTree) (rest : ExprList) → ExprList

-- a variable: its name and its indices
pub record VarTree : Type 0 where
  pub name : List ℕ
  pub indices : ExprList

-- a test
pub data TestTree : Type 0 where
  or : (a b : TestTree) → TestTree
  and : (a b : TestTree) → TestTree
  not : (t : TestTree) → TestTree
  compare : (by : Compare) (a b : ExprTree) → TestTree
  matches : (e : ExprTree) → TestTree
  at_end : TestTree
  unique : (names : List (List ℕ)) → TestTree
  in_array : (e : ExprTree) (name : List ℕ) → TestTree

-- how long a loop goes on: for a number of turns, or as long as a test is true
pub data GuardTree : Type 0 where
  turns : (count : ExprTree) → GuardTree
  while : (t : TestTree) → GuardTree

-- a command with its place, a separator or none, and a list of commands
mutual
  -- a command, with the place of its word
  pub data CommandTree : Type 0 where
    space : (place : Place) → CommandTree
    newline : (place : Place) → CommandTree
    eof : (place : Place) → CommandTree
    int : (place : Place) (low high : ExprTree) (target : Option VarTree) → CommandTree
    string : (place : Place) (e : ExprTree) → CommandTree
    regex : (place : Place) (literal : PatternLiteral) (target : Option VarTree) → CommandTree
    assert : (place : Place) (t : TestTree) → CommandTree
    set : (place : Place) (assignments : List (VarTree × ExprTree)) → CommandTree
    unset : (place : Place) (names : List (List ℕ)) → CommandTree
    loop : (place : Place) (guard : GuardTree) (counter : Option VarTree) (between : Separator) (body : CommandList) → CommandTree
    choice : (place : Place) (t : TestTree) (then_do else_do : CommandList) → CommandTree

  -- a separator or none
  pub data Separator : Type 0 where
    nothing : Separator
    between : (c : CommandTree) → Separator

  -- commands one after the other
  pub data CommandList : Type 0 where
    done : CommandList
    then : (c : CommandTree) (rest : CommandList) → CommandList
