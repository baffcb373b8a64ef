-- How tightly operators bind; for the contracts of private functions alone.
use Rattle.ctd_program.specs.Tree
use Rattle.std.specs.Prelude.{ℕ, ◌<◌, List, [], ◌∷◌, Option, Some, None}
use Rattle.ctd_token.specs.declared.token.Mark.TheVariants.{Plus, Minus, Times, Divide, Percent, Caret, OpenIndex}
use Rattle.ctd_syntax.specs.declared.expression.Operator.{Operator}
use Rattle.ctd_syntax.specs.declared.expression.Operator.TheVariants.{Add, Sub, Mul, Div, Rem}
use Rattle.ctd_syntax.specs.Lexeme.{Lexeme, mark}
use Rattle.ctd_program.specs.Tree.{ExprTree}

-- two expressions with an operator between them
abbrev pub join : Operator → ExprTree → ExprTree → ExprTree
join Add a b = Tree.sum a b
join Sub a b = Tree.difference a b
join Mul a b = Tree.times a b
join Div a b = Tree.quotient a b
join Rem a b = Tree.remainder a b

-- the operators of sums
abbrev pub sum_operator : Lexeme → Option Operator
sum_operator (mark Plus) = Some Add
sum_operator (mark Minus) = Some Sub
sum_operator _ = None

-- the operators of products
abbrev pub product_operator : Lexeme → Option Operator
product_operator (mark Times) = Some Mul
product_operator (mark Divide) = Some Div
product_operator (mark Percent) = Some Rem
product_operator _ = None

-- how tightly a token binds to the expression before it
abbrev pub binding : Lexeme → ℕ
binding (mark Plus) = 1
binding (mark Minus) = 1
binding (mark Times) = 2
binding (mark Divide) = 2
binding (mark Percent) = 2
binding (mark Caret) = 3
binding (mark OpenIndex) = 4
binding _ = 0

-- an expression of level n ends before these tokens
abbrev pub ends : ℕ → List Lexeme → Type 0
ends n [] = Unit {0}
ends n (t ∷ ts) = binding t < n
