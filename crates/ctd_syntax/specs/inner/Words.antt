-- The words of the grammar by their kinds.
use Rattle.std.specs.Prelude.{ℕ, List, Option, None, Some, codes, if◌then◌else◌}
use Rattle.std.specs.Str.{bytes_eq}
use Rattle.ctd_syntax.specs.declared.keyword.Keyword.{Keyword}
use Rattle.ctd_syntax.specs.declared.keyword.Keyword.TheVariants as words

-- a word with which a command without a block begins
abbrev pub plain_word : List ℕ → Option Keyword
plain_word w =
    if bytes_eq w (codes "SPACE") then Some words.Space
    else if bytes_eq w (codes "NEWLINE") then Some words.Newline
    else if bytes_eq w (codes "EOF") then Some words.Eof
    else if bytes_eq w (codes "INT") then Some words.Int
    else if bytes_eq w (codes "STRING") then Some words.String
    else if bytes_eq w (codes "REGEX") then Some (words.Regex)
    else if bytes_eq w (codes "ASSERT") then Some words.Assert
    else if bytes_eq w (codes "SET") then Some words.Set
    else if bytes_eq w (codes "UNSET") then Some words.Unset
    else None

-- a word with which a block begins or ends
abbrev pub block_word : List ℕ → Option Keyword
block_word w =
    if bytes_eq w (codes "REP") then Some words.Rep
    else if bytes_eq w (codes "REPI") then Some words.RepI
    else if bytes_eq w (codes "WHILE") then Some words.While
    else if bytes_eq w (codes "WHILEI") then Some words.WhileI
    else if bytes_eq w (codes "IF") then Some words.If
    else if bytes_eq w (codes "ELSE") then Some words.Else
    else if bytes_eq w (codes "END") then Some words.End
    else None

-- a word of tests and expressions
abbrev pub test_word : List ℕ → Option Keyword
test_word w =
    if bytes_eq w (codes "STRLEN") then Some words.Strlen
    else if bytes_eq w (codes "MATCH") then Some words.Match
    else if bytes_eq w (codes "ISEOF") then Some words.IsEof
    else if bytes_eq w (codes "UNIQUE") then Some words.Unique
    else if bytes_eq w (codes "INARRAY") then Some words.InArray
    else None
