-- The kinds of findings: the table of their names, ranks and texts.
use Rattle.ctd_findings.specs.declared.kind.Kind.TheVariants as kind
use Rattle.ctd_findings.specs.declared.kind.Rank.TheVariants as ranks
use Rattle.std.specs.Prelude.{ℕ, List, [], ◌∷◌, codes, Option, Some, None, if◌then◌else◌}
use Rattle.std.specs.Str.{bytes_eq}
use Rattle.ctd_findings.specs.declared.kind.Kind.{Kind}
use Rattle.ctd_findings.specs.declared.kind.Rank.{Rank}

-- all kinds
abbrev pub all_kinds : List Kind
all_kinds = kind.UnknownPreset ∷ kind.Unreachable ∷ kind.AfterEof ∷ kind.NoValue ∷ kind.Unread ∷ kind.OwnReads ∷ kind.WrongSort ∷ kind.LiteralIndex ∷ kind.CounterSet ∷ kind.CounterBehind ∷ kind.RangeTrue ∷ kind.RangeFalse ∷ kind.RepeatsBounds ∷ kind.AlwaysTrue ∷ kind.AlwaysFalse ∷ kind.KeptArray ∷ kind.NoIndex ∷ kind.OtherWord ∷ kind.SameSides ∷ kind.SameNames ∷ kind.EmptyRange ∷ kind.EmptyString ∷ kind.EmptyPattern ∷ kind.LetterRange ∷ kind.HiddenAlternative ∷ kind.Caret ∷ kind.Dollar ∷ kind.NoBound ∷ kind.LineFeed ∷ []

-- a row of the table of kinds: a name, how sure a finding of the kind is a mistake, and what it says without the name of a variable
pub record Row : Type 0 where
  pub name : List ℕ
  pub rank : Rank
  pub text : List ℕ

-- a row of a note
abbrev pub note : List ℕ → List ℕ → Row
note name text = record { name = name; rank = ranks.Note; text = text }

-- a row of a warning
abbrev pub warning : List ℕ → List ℕ → Row
warning name text = record { name = name; rank = ranks.Warning; text = text }

-- the table of kinds
abbrev pub kind_row : Kind → Row
kind_row kind.UnknownPreset = warning (codes "unknown-preset") (codes "the program does not mention this name")
kind_row kind.Unreachable = warning (codes "unreachable") (codes "never reached: the loop before does not end")
kind_row kind.AfterEof = warning (codes "after-eof") (codes "nothing can come here: EOF before it asks for the end of the data")
kind_row kind.NoValue = warning (codes "no-value") (codes "nothing gives this name a value (give it a default by SET, or one by -D)")
kind_row kind.Unread = note (codes "unread") (codes "nothing reads this variable")
kind_row kind.OwnReads = warning (codes "own-reads") (codes "only its own assignments read this variable")
kind_row kind.WrongSort = warning (codes "wrong-type") (codes "a number stands where a string is wanted, or a string where a number is wanted")
kind_row kind.LiteralIndex = note (codes "literal-index") (codes "nothing reads this counter, and the loop sets an element by a literal index")
kind_row kind.CounterSet = note (codes "counter-set") (codes "a command in the loop sets its counter too")
kind_row kind.CounterBehind = note (codes "counter-behind") (codes "the counter is read behind the loop, where it is the number of turns")
kind_row kind.RangeTrue = warning (codes "range-true") (codes "the test is true for all values that its variables can have here")
kind_row kind.RangeFalse = warning (codes "range-false") (codes "the test is false for all values that its variables can have here")
kind_row kind.RepeatsBounds = note (codes "repeats-bounds") (codes "the test asks for no more than the commands before it do")
kind_row kind.AlwaysTrue = warning (codes "always-true") (codes "the test is true whatever the data are")
kind_row kind.AlwaysFalse = warning (codes "always-false") (codes "the test is false whatever the data are")
kind_row kind.KeptArray = note (codes "kept-array") (codes "each turn of this loop also sees what earlier turns put into this array (see UNSET)")
kind_row kind.NoIndex = warning (codes "no-index") (codes "UNIQUE compares nothing: no index is ever given to this variable")
kind_row kind.OtherWord = warning (codes "other-word") (codes "no REGEX can give this variable this string")
kind_row kind.SameSides = warning (codes "same-sides") (codes "the two sides of a comparison are the same")
kind_row kind.SameNames = warning (codes "same-names") (codes "UNIQUE has a name twice")
kind_row kind.EmptyRange = warning (codes "empty-range") (codes "the least integer is above the greatest")
kind_row kind.EmptyString = warning (codes "empty-string") (codes "the string is empty")
kind_row kind.EmptyPattern = warning (codes "empty-pattern") (codes "the pattern is empty")
kind_row kind.LetterRange = warning (codes "letter-range") (codes "A-z has six signs that are no letters, from [ to `")
kind_row kind.HiddenAlternative = warning (codes "hidden-alternative") (codes "an alternative is never taken: an earlier one is its beginning")
kind_row kind.Caret = note (codes "caret") (codes "a match always begins here, so ^ has no effect")
kind_row kind.Dollar = warning (codes "dollar") (codes "$ is the end of the window, not of a line")
kind_row kind.NoBound = note (codes "no-bound") (codes "the pattern has no bound on its length")
kind_row kind.LineFeed = note (codes "line-feed") (codes "the pattern matches a line feed too")

-- the first of some kinds that has this name
abbrev pub named_among : List Kind → List ℕ → Option Kind
named_among [] name = None
named_among (k ∷ rest) name = if bytes_eq (kind_row k).name name then Some k else named_among rest name

-- the kind of a name, if there is one
abbrev pub kind_named : List ℕ → Option Kind
kind_named name = named_among all_kinds name
