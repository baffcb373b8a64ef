-- Which lists of tokens spell which trees.
use Rattle.std.specs.Prelude.{ℕ, ℤ, List, [], ◌∷◌, ◌++◌, Option, Some, None}
use Rattle.ctd_token.specs.declared.text.Place.{Place}
use Rattle.ctd_token.specs.declared.token.Mark.{Mark}
use Rattle.ctd_token.specs.declared.token.Mark.TheVariants as marks
use Rattle.ctd_token.specs.declared.token.Mark.TheVariants.{Open, Close, OpenIndex, CloseIndex, Comma, Assign, Plus, Minus, Times, Divide, Percent, Caret, Bang, AndAnd, OrOr}
use Rattle.ctd_syntax.specs.declared.keyword.Keyword.TheVariants as words
use Rattle.ctd_program.specs.declared.tree.Compare.{Compare}
use Rattle.ctd_program.specs.declared.tree.PatternLiteral.{PatternLiteral}
use Rattle.ctd_program.specs.declared.tree.Compare.TheVariants as comparisons
use Rattle.ctd_syntax.specs.Lexeme.{Lexeme, mark, keyword}
use Rattle.ctd_program.specs.Tree
use Rattle.ctd_program.specs.Tree.{ExprTree, ExprList, VarTree, TestTree, CommandTree, CommandList, Separator}

mutual
  -- sums and differences, from the left
  pub data IsExpr : List Lexeme → ExprTree → Type 0 where
    product : {ts : List Lexeme} {a : ExprTree} → IsProduct ts a → IsExpr ts a
    sum : {ts us : List Lexeme} {a b : ExprTree} → IsExpr ts a → IsProduct us b → IsExpr (ts ++ mark Plus ∷ us) (Tree.sum a b)
    difference : {ts us : List Lexeme} {a b : ExprTree} →
        IsExpr ts a → IsProduct us b → IsExpr (ts ++ mark Minus ∷ us) (Tree.difference a b)

  -- products and quotients, from the left
  pub data IsProduct : List Lexeme → ExprTree → Type 0 where
    signed : {ts : List Lexeme} {a : ExprTree} → IsSigned ts a → IsProduct ts a
    times : {ts us : List Lexeme} {a b : ExprTree} → IsProduct ts a → IsSigned us b → IsProduct (ts ++ mark Times ∷ us) (Tree.times a b)
    quotient : {ts us : List Lexeme} {a b : ExprTree} →
        IsProduct ts a → IsSigned us b → IsProduct (ts ++ mark Divide ∷ us) (Tree.quotient a b)
    remainder : {ts us : List Lexeme} {a b : ExprTree} →
        IsProduct ts a → IsSigned us b → IsProduct (ts ++ mark Percent ∷ us) (Tree.remainder a b)

  -- any number of minus signs
  pub data IsSigned : List Lexeme → ExprTree → Type 0 where
    unsigned : {ts : List Lexeme} {a : ExprTree} → IsPower ts a → IsSigned ts a
    minus : {ts : List Lexeme} {a : ExprTree} → IsSigned ts a → IsSigned (mark Minus ∷ ts) (Tree.minus a)

  -- a power, from the right
  pub data IsPower : List Lexeme → ExprTree → Type 0 where
    atom : {ts : List Lexeme} {a : ExprTree} → IsAtom ts a → IsPower ts a
    power : {ts us : List Lexeme} {a b : ExprTree} → IsAtom ts a → IsExponent us b → IsPower (ts ++ mark Caret ∷ us) (Tree.power a b)

  -- an exponent may have minus signs
  pub data IsExponent : List Lexeme → ExprTree → Type 0 where
    positive : {ts : List Lexeme} {a : ExprTree} → IsPower ts a → IsExponent ts a
    negative : {ts : List Lexeme} {a : ExprTree} → IsExponent ts a → IsExponent (mark Minus ∷ ts) (Tree.minus a)

  -- what binds most tightly
  pub data IsAtom : List Lexeme → ExprTree → Type 0 where
    numeral : {n : ℤ} → IsAtom (Lexeme.numeral n ∷ []) (Tree.numeral n)
    text : {bytes : List ℕ} {at : Place} → IsAtom (Lexeme.text bytes at ∷ []) (Tree.text bytes)
    variable : {ts : List Lexeme} {name : List ℕ} {indices : ExprList} → IsVariable ts name indices → IsAtom ts (Tree.variable name indices)
    strlen : {ts : List Lexeme} {a : ExprTree} {at : Place} →
        IsExpr ts a → IsAtom (keyword words.Strlen at ∷ mark Open ∷ ts ++ mark Close ∷ []) (Tree.strlen a)
    group : {ts : List Lexeme} {a : ExprTree} → IsExpr ts a → IsAtom (mark Open ∷ ts ++ mark Close ∷ []) a

  -- a name, alone or with indices
  pub data IsVariable : List Lexeme → List ℕ → ExprList → Type 0 where
    unindexed : {name : List ℕ} → IsVariable (Lexeme.name name ∷ []) name Tree.none
    indexed : {ts : List Lexeme} {name : List ℕ} {indices : ExprList} →
        IsExprs ts indices → IsVariable (Lexeme.name name ∷ mark OpenIndex ∷ ts ++ mark CloseIndex ∷ []) name indices

  -- one expression or more, with commas between them
  pub data IsExprs : List Lexeme → ExprList → Type 0 where
    one : {ts : List Lexeme} {a : ExprTree} → IsExpr ts a → IsExprs ts (Tree.some a Tree.none)
    more : {ts us : List Lexeme} {a : ExprTree} {rest : ExprList} →
        IsExpr ts a → IsExprs us rest → IsExprs (ts ++ mark Comma ∷ us) (Tree.some a rest)

-- a variable as the target of a command
abbrev pub IsTarget : List Lexeme → VarTree → Type 0
IsTarget ts v = IsVariable ts v.name v.indices

-- one name or more, with commas between them
pub data IsNames : List Lexeme → List (List ℕ) → Type 0 where
  one : {name : List ℕ} → IsNames (Lexeme.name name ∷ []) (name ∷ [])
  more : {ts : List Lexeme} {name : List ℕ} {names : List (List ℕ)} →
      IsNames ts names → IsNames (Lexeme.name name ∷ mark Comma ∷ ts) (name ∷ names)

-- the mark of a comparison
abbrev pub compare_mark : Compare → Mark
compare_mark comparisons.Less = marks.Less
compare_mark comparisons.Greater = marks.Greater
compare_mark comparisons.AtMost = marks.AtMost
compare_mark comparisons.AtLeast = marks.AtLeast
compare_mark comparisons.Equal = marks.Equal
compare_mark comparisons.Unequal = marks.Unequal

mutual
  -- || from the left
  pub data IsTest : List Lexeme → TestTree → Type 0 where
    both : {ts : List Lexeme} {a : TestTree} → IsBoth ts a → IsTest ts a
    or : {ts us : List Lexeme} {a b : TestTree} → IsTest ts a → IsBoth us b → IsTest (ts ++ mark OrOr ∷ us) (Tree.or a b)

  -- && from the left
  pub data IsBoth : List Lexeme → TestTree → Type 0 where
    negation : {ts : List Lexeme} {a : TestTree} → IsNegation ts a → IsBoth ts a
    and : {ts us : List Lexeme} {a b : TestTree} → IsBoth ts a → IsNegation us b → IsBoth (ts ++ mark AndAnd ∷ us) (Tree.and a b)

  -- any number of !
  pub data IsNegation : List Lexeme → TestTree → Type 0 where
    simple : {ts : List Lexeme} {a : TestTree} → IsSimpleTest ts a → IsNegation ts a
    not : {ts : List Lexeme} {a : TestTree} → IsNegation ts a → IsNegation (mark Bang ∷ ts) (Tree.not a)

  -- a comparison; MATCH, ISEOF, UNIQUE or INARRAY; or a test in parentheses
  pub data IsSimpleTest : List Lexeme → TestTree → Type 0 where
    compare : {ts us : List Lexeme} {a b : ExprTree} {by : Compare} →
        IsExpr ts a → IsExpr us b → IsSimpleTest (ts ++ mark (compare_mark by) ∷ us) (Tree.compare by a b)
    matches : {ts : List Lexeme} {a : ExprTree} {at : Place} →
        IsExpr ts a → IsSimpleTest (keyword words.Match at ∷ mark Open ∷ ts ++ mark Close ∷ []) (Tree.matches a)
    at_end : {at : Place} → IsSimpleTest (keyword words.IsEof at ∷ []) Tree.at_end
    unique : {ts : List Lexeme} {names : List (List ℕ)} {at : Place} →
        IsNames ts names → IsSimpleTest (keyword words.Unique at ∷ mark Open ∷ ts ++ mark Close ∷ []) (Tree.unique names)
    in_array : {ts : List Lexeme} {a : ExprTree} {name : List ℕ} {at : Place} →
        IsExpr ts a →
        IsSimpleTest (keyword words.InArray at ∷ mark Open ∷ ts ++ mark Comma ∷ Lexeme.name name ∷ mark Close ∷ []) (Tree.in_array a name)
    group : {ts : List Lexeme} {a : TestTree} → IsTest ts a → IsSimpleTest (mark Open ∷ ts ++ mark Close ∷ []) a

-- a target or none, and the closing parenthesis
pub data IsTargetEnd : List Lexeme → Option VarTree → Type 0 where
  none : IsTargetEnd (mark Close ∷ []) None
  some : {ts : List Lexeme} {v : VarTree} → IsTarget ts v → IsTargetEnd (mark Comma ∷ ts ++ mark Close ∷ []) (Some v)

-- one assignment or more, with commas between them
pub data IsAssignments : List Lexeme → List (VarTree × ExprTree) → Type 0 where
  one : {ts us : List Lexeme} {v : VarTree} {e : ExprTree} →
      IsTarget ts v → IsExpr us e → IsAssignments (ts ++ mark Assign ∷ us) ((v, e) ∷ [])
  more : {ts us vs : List Lexeme} {v : VarTree} {e : ExprTree} {rest : List (VarTree × ExprTree)} →
      IsTarget ts v → IsExpr us e → IsAssignments vs rest → IsAssignments (ts ++ mark Assign ∷ us ++ mark Comma ∷ vs) ((v, e) ∷ rest)

mutual
  -- a command, whose place is that of its word
  pub data IsCommand : List Lexeme → CommandTree → Type 0 where
    space : {at : Place} → IsCommand (keyword words.Space at ∷ []) (Tree.space at)
    newline : {at : Place} → IsCommand (keyword words.Newline at ∷ []) (Tree.newline at)
    eof : {at : Place} → IsCommand (keyword words.Eof at ∷ []) (Tree.eof at)
    int : {ts us vs : List Lexeme} {low high : ExprTree} {target : Option VarTree} {at : Place} →
        IsExpr ts low → IsExpr us high → IsTargetEnd vs target →
        IsCommand (keyword words.Int at ∷ mark Open ∷ ts ++ mark Comma ∷ us ++ vs) (Tree.int at low high target)
    string : {ts : List Lexeme} {e : ExprTree} {at : Place} →
        IsExpr ts e → IsCommand (keyword words.String at ∷ mark Open ∷ ts ++ mark Close ∷ []) (Tree.string at e)
    regex : {vs : List Lexeme} {literal : PatternLiteral} {target : Option VarTree} {at : Place} →
        IsTargetEnd vs target →
        IsCommand (keyword words.Regex at ∷ mark Open ∷ Lexeme.text literal.bytes literal.place ∷ vs) (Tree.regex at literal target)
    assert : {ts : List Lexeme} {t : TestTree} {at : Place} →
        IsTest ts t → IsCommand (keyword words.Assert at ∷ mark Open ∷ ts ++ mark Close ∷ []) (Tree.assert at t)
    set : {ts : List Lexeme} {assignments : List (VarTree × ExprTree)} {at : Place} →
        IsAssignments ts assignments → IsCommand (keyword words.Set at ∷ mark Open ∷ ts ++ mark Close ∷ []) (Tree.set at assignments)
    unset : {ts : List Lexeme} {names : List (List ℕ)} {at : Place} →
        IsNames ts names → IsCommand (keyword words.Unset at ∷ mark Open ∷ ts ++ mark Close ∷ []) (Tree.unset at names)
    rep : {ts us : List Lexeme} {count : ExprTree} {between : Separator} {body : CommandList} {at : Place} →
        IsExpr ts count → IsRepeated us between body →
        IsCommand (keyword words.Rep at ∷ mark Open ∷ ts ++ us) (Tree.loop at (Tree.turns count) None between body)
    repi : {ts us vs : List Lexeme} {counter : VarTree} {count : ExprTree} {between : Separator} {body : CommandList} {at : Place} →
        IsTarget ts counter → IsExpr us count → IsRepeated vs between body →
        IsCommand (keyword words.RepI at ∷ mark Open ∷ ts ++ mark Comma ∷ us ++ vs) (Tree.loop at (Tree.turns count) (Some counter) between body)
    while : {ts us : List Lexeme} {t : TestTree} {between : Separator} {body : CommandList} {at : Place} →
        IsTest ts t → IsRepeated us between body →
        IsCommand (keyword words.While at ∷ mark Open ∷ ts ++ us) (Tree.loop at (Tree.while t) None between body)
    whilei : {ts us vs : List Lexeme} {counter : VarTree} {t : TestTree} {between : Separator} {body : CommandList} {at : Place} →
        IsTarget ts counter → IsTest us t → IsRepeated vs between body →
        IsCommand (keyword words.WhileI at ∷ mark Open ∷ ts ++ mark Comma ∷ us ++ vs) (Tree.loop at (Tree.while t) (Some counter) between body)
    choice : {ts us : List Lexeme} {t : TestTree} {then_do else_do : CommandList} {at : Place} →
        IsTest ts t → IsBranches us then_do else_do →
        IsCommand (keyword words.If at ∷ mark Open ∷ ts ++ mark Close ∷ us) (Tree.choice at t then_do else_do)

  -- a separator or none, the closing parenthesis, the body, and END
  pub data IsRepeated : List Lexeme → Separator → CommandList → Type 0 where
    without_separator : {us : List Lexeme} {body : CommandList} →
        (at : Place) → IsCommands us body → IsRepeated (mark Close ∷ us ++ keyword words.End at ∷ []) Tree.nothing body
    with_separator : {ts us : List Lexeme} {c : CommandTree} {body : CommandList} →
        (at : Place) → IsCommand ts c → IsCommands us body →
        IsRepeated (mark Comma ∷ ts ++ mark Close ∷ us ++ keyword words.End at ∷ []) (Tree.between c) body

  -- a list of commands, perhaps ELSE and another one, and END
  pub data IsBranches : List Lexeme → CommandList → CommandList → Type 0 where
    one_way : {us : List Lexeme} {then_do : CommandList} →
        (at : Place) → IsCommands us then_do → IsBranches (us ++ keyword words.End at ∷ []) then_do Tree.done
    two_ways : {us vs : List Lexeme} {then_do else_do : CommandList} →
        (at else_at : Place) → IsCommands us then_do → IsCommands vs else_do →
        IsBranches (us ++ keyword words.Else else_at ∷ vs ++ keyword words.End at ∷ []) then_do else_do

  -- commands one after the other
  pub data IsCommands : List Lexeme → CommandList → Type 0 where
    done : IsCommands [] Tree.done
    then : {ts us : List Lexeme} {c : CommandTree} {rest : CommandList} →
        IsCommand ts c → IsCommands us rest → IsCommands (ts ++ us) (Tree.then c rest)
