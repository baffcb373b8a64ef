-- The literals of REGEX in a program.
use Rattle.std.specs.Prelude.{List, [], ◌∷◌}
use Rattle.ctd_token.specs.declared.token.Mark.TheVariants.{Open}
use Rattle.ctd_syntax.specs.declared.keyword.Keyword.TheVariants as words
use Rattle.ctd_program.specs.declared.tree.PatternLiteral.{PatternLiteral}
use Rattle.ctd_syntax.specs.Lexeme.{Lexeme, keyword, mark, text}

-- the literals of REGEX among some tokens, in order
abbrev pub pattern_literals : List Lexeme → List PatternLiteral
pattern_literals [] = []
pattern_literals (keyword words.Regex at ∷ mark Open ∷ text bytes place ∷ ts) = record { bytes = bytes; place = place } ∷ pattern_literals ts
pattern_literals (t ∷ ts) = pattern_literals ts
