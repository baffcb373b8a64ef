-- Commands by their words; for the contracts of private functions alone.
use Rattle.ctd_syntax.specs.declared.keyword.Keyword.TheVariants as words
use Rattle.ctd_program.specs.Tree
use Rattle.std.specs.Prelude.{◌≡◌, ◌⊎◌, ℕ, Bool, true, false, List, [], ◌∷◌, Option, Some, None}
use Rattle.ctd_token.specs.declared.text.Place.{Place}
use Rattle.ctd_token.specs.declared.token.Mark.TheVariants.{Open, Close, Comma}
use Rattle.ctd_syntax.specs.declared.keyword.Keyword.{Keyword}
use Rattle.ctd_syntax.specs.declared.loop_head.LoopWord.{LoopWord}
use Rattle.ctd_syntax.specs.declared.loop_head.LoopWord.TheVariants.{Rep, RepI, While, WhileI}
use Rattle.ctd_syntax.specs.Lexeme.{Lexeme, keyword}
use Rattle.ctd_program.specs.Tree.{VarTree, GuardTree, CommandTree, CommandList, Separator}
use Rattle.ctd_syntax.specs.Grammar.{IsExpr, IsNames, IsTest, IsTarget, IsTargetEnd, IsAssignments, IsCommand, IsCommands}
use Rattle.ctd_syntax.specs.inner.Front.{Spelling, Following, IsBefore, IsBeforeWord, IsAfter, IsBuilt, IsPair}

-- whether a word begins a command
abbrev pub is_command_word : Keyword → Bool
is_command_word words.Space = true
is_command_word words.Newline = true
is_command_word words.Eof = true
is_command_word words.Int = true
is_command_word words.String = true
is_command_word words.Regex = true
is_command_word words.Assert = true
is_command_word words.Set = true
is_command_word words.Unset = true
is_command_word words.Rep = true
is_command_word words.RepI = true
is_command_word words.While = true
is_command_word words.WhileI = true
is_command_word words.If = true
is_command_word words.Else = false
is_command_word words.End = false
is_command_word words.Strlen = false
is_command_word words.Match = false
is_command_word words.IsEof = false
is_command_word words.Unique = false
is_command_word words.InArray = false
is_command_word words.Unknown = false

-- whether a token begins a command
abbrev pub begins_command : Lexeme → Bool
begins_command (keyword k at) = is_command_word k
begins_command _ = false

-- whether the first of some tokens begins a command
abbrev pub command_begins : List Lexeme → Bool
command_begins [] = false
command_begins (t ∷ ts) = begins_command t

-- a list of commands ends where no further one begins
abbrev pub CommandsEnd : Following
CommandsEnd ts = command_begins ts ≡ false

-- a string with its place
abbrev pub IsPatternText : Spelling (List ℕ × Place)
IsPatternText ts x = ts ≡ Lexeme.text x.0 x.1 ∷ []

-- the commands of a block, and its END
abbrev pub IsBlock : Spelling CommandList
IsBlock = IsBeforeWord words.End IsCommands

-- no counter
abbrev pub IsAbsent : Spelling (Option VarTree)
IsAbsent ts v = (ts ≡ []) × (v ≡ None)

-- the counter of a loop and the comma behind it, where its word has one
abbrev pub IsCounter : LoopWord → Spelling (Option VarTree)
IsCounter Rep = IsAbsent
IsCounter RepI = IsBuilt Some (IsBefore Comma IsTarget)
IsCounter While = IsAbsent
IsCounter WhileI = IsBuilt Some (IsBefore Comma IsTarget)

-- how long a loop goes on
abbrev pub IsGuard : LoopWord → Spelling GuardTree
IsGuard Rep = IsBuilt Tree.turns IsExpr
IsGuard RepI = IsBuilt Tree.turns IsExpr
IsGuard While = IsBuilt Tree.while IsTest
IsGuard WhileI = IsBuilt Tree.while IsTest

-- how a loop begins behind its word
abbrev pub IsLoopHead : LoopWord → Spelling (Option VarTree × GuardTree)
IsLoopHead word = IsAfter Open (IsPair (IsCounter word) (IsGuard word))

-- how a loop ends: `)` and its block; or a comma, the separator, `)` and its block
abbrev pub IsLoopEnd : Spelling (Separator × CommandList)
IsLoopEnd ts x =
    ((x.0 ≡ Tree.nothing) × IsAfter Close IsBlock ts x.1)
    ⊎ ((c : CommandTree) × (x.0 ≡ Tree.between c) × IsAfter Comma (IsPair (IsBefore Close IsCommand) IsBlock) ts (c, x.1))

-- what stands behind the word of a loop that has this place
abbrev pub IsLoopRest : LoopWord → Place → Spelling CommandTree
IsLoopRest word at = IsBuilt (λ x. Tree.loop at x.0.1 x.0.0 x.1.0 x.1.1) (IsPair (IsLoopHead word) IsLoopEnd)

-- how an IF ends, once its first commands are read: END; or ELSE and a block
abbrev pub IsBranchEnd : Spelling CommandList
IsBranchEnd ts b =
    ((at : Place) × (ts ≡ keyword words.End at ∷ []) × (b ≡ Tree.done))
    ⊎ ((at : Place) × (us : List Lexeme) × (ts ≡ keyword words.Else at ∷ us) × IsBlock us b)

-- what stands behind the word of a command that has this place
abbrev pub IsCommandRest : Keyword → Place → Spelling CommandTree
IsCommandRest words.Space at ts u = (ts ≡ []) × (u ≡ Tree.space at)
IsCommandRest words.Newline at ts u = (ts ≡ []) × (u ≡ Tree.newline at)
IsCommandRest words.Eof at ts u = (ts ≡ []) × (u ≡ Tree.eof at)
IsCommandRest words.Int at ts u = IsBuilt (λ x. Tree.int at x.0 x.1.0 x.1.1) (IsAfter Open (IsPair (IsBefore Comma IsExpr) (IsPair IsExpr IsTargetEnd))) ts u
IsCommandRest words.String at ts u = IsBuilt (Tree.string at) (IsAfter Open (IsBefore Close IsExpr)) ts u
IsCommandRest words.Regex at ts u = IsBuilt (λ x. Tree.regex at (record { bytes = x.0.0; place = x.0.1 }) x.1) (IsAfter Open (IsPair IsPatternText IsTargetEnd)) ts u
IsCommandRest words.Assert at ts u = IsBuilt (Tree.assert at) (IsAfter Open (IsBefore Close IsTest)) ts u
IsCommandRest words.Set at ts u = IsBuilt (Tree.set at) (IsAfter Open (IsBefore Close IsAssignments)) ts u
IsCommandRest words.Unset at ts u = IsBuilt (Tree.unset at) (IsAfter Open (IsBefore Close IsNames)) ts u
IsCommandRest words.Rep at ts u = IsLoopRest Rep at ts u
IsCommandRest words.RepI at ts u = IsLoopRest RepI at ts u
IsCommandRest words.While at ts u = IsLoopRest While at ts u
IsCommandRest words.WhileI at ts u = IsLoopRest WhileI at ts u
IsCommandRest words.If at ts u = IsBuilt (λ x. Tree.choice at x.0 x.1.0 x.1.1) (IsAfter Open (IsPair (IsBefore Close IsTest) (IsPair IsCommands IsBranchEnd))) ts u
IsCommandRest _ at ts u = ⊥
