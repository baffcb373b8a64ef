-- How deep the tokens of a program nest, counted before the grammar is asked.
use Rattle.ctd_syntax.specs.declared.keyword.Keyword.TheVariants as words
use Rattle.std.specs.Prelude.{ℕ, ◌+◌, ◌<◌, ◌≤◌, List, [], ◌∷◌, length, sum, take, fold}
use Rattle.ctd_token.specs.declared.token.Mark.{Mark}
use Rattle.ctd_token.specs.declared.token.Mark.TheVariants.{Open, Close, OpenIndex, CloseIndex, Comma, Assign}
use Rattle.ctd_syntax.specs.declared.keyword.Keyword.{Keyword}
use Rattle.ctd_syntax.specs.declared.nesting.CounterChange.{CounterChange}
use Rattle.ctd_syntax.specs.declared.nesting.CounterChange.TheVariants.{Opens, Closes, Restarts, Grows, Keeps}
use Rattle.ctd_token.specs.declared.limits.TheConstants.{NESTING_LIMIT}
use Rattle.ctd_syntax.specs.Lexeme.{Lexeme, mark, keyword}

-- every mark but brackets, comma and `=` is an operator
abbrev pub mark_change : Mark → CounterChange
mark_change Open = Opens
mark_change OpenIndex = Opens
mark_change Close = Closes
mark_change CloseIndex = Closes
mark_change Comma = Restarts
mark_change Assign = Keeps
mark_change _ = Grows

-- loops and IF open, ELSE restarts, END closes, and no other word changes anything
abbrev pub word_change : Keyword → CounterChange
word_change words.Rep = Opens
word_change words.RepI = Opens
word_change words.While = Opens
word_change words.WhileI = Opens
word_change words.If = Opens
word_change words.Else = Restarts
word_change words.End = Closes
word_change _ = Keeps

-- names, numbers and strings change nothing
abbrev pub change_of : Lexeme → CounterChange
change_of (mark m) = mark_change m
change_of (keyword k place) = word_change k
change_of _ = Keeps

-- the innermost counter, and the others from the inside out
abbrev pub step : CounterChange → ℕ × List ℕ → ℕ × List ℕ
step Opens (c, cs) = (0, c ∷ cs)
step Closes (c, []) = (c, [])
step Closes (c, d ∷ cs) = (d, cs)
step Restarts (c, cs) = (0, cs)
step Grows (c, cs) = (c + 1, cs)
step Keeps (c, cs) = (c, cs)

-- one counter, 0
abbrev pub start : ℕ × List ℕ
start = (0, [])

-- the sum of the counters and their number less 1
abbrev pub weight : ℕ × List ℕ → ℕ
weight (c, cs) = c + sum cs + length cs

-- the counters behind some tokens
abbrev pub counters_behind : List Lexeme → ℕ × List ℕ
counters_behind ts = fold (λ counters t. step (change_of t) counters) start ts

-- no prefix of the tokens has a weight that passes the limit
abbrev pub IsShallow : List Lexeme → Type 0
IsShallow ts = (n : ℕ) → weight (counters_behind (take n ts)) ≤ NESTING_LIMIT

-- the first prefix whose weight passes the limit ends with the token behind so many
pub record PassesLimitAt (ts : List Lexeme) (before : ℕ) : Type 0 where
  pub within : before < length ts
  pub light : (n : ℕ) → n ≤ before → weight (counters_behind (take n ts)) ≤ NESTING_LIMIT
  pub heavy : NESTING_LIMIT < weight (counters_behind (take (1 + before) ts))
