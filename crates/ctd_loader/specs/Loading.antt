-- What loading a program gives.
use Rattle.ctd_pattern.specs.declared.pattern.PatternFault.TheVariants as patterns
use Rattle.std.specs.Prelude.{◌≡◌, ◌⊎◌, ◌<◌, ◌≤◌, ℕ, List, ◌∷◌, ◌++◌, length, All, IsUtf8, Some, None}
use Rattle.ctd_source.specs.declared.source.Seen.{Seen}
use Rattle.ctd_source.specs.declared.source.Seen.TheVariants.{Ended, Broken}
use Rattle.ctd_token.specs.declared.limits.TheConstants.{PROGRAM_LIMIT}
use Rattle.ctd_token.specs.declared.fault.LoadFault.{LoadFault}
use Rattle.ctd_token.specs.declared.fault.LoadKind.TheVariants.{BadPattern, ProgramTooLong, Read}
use Rattle.ctd_program.specs.declared.tree.PatternLiteral.{PatternLiteral}
use Rattle.ctd_program.specs.Tree.{CommandList}
use Rattle.ctd_syntax.specs.PatternLiterals.{pattern_literals}
use Rattle.ctd_syntax.specs.Reading.{IsRefused, Parses, lexemes}
use Rattle.ctd_pattern.specs.declared.pattern.PatternFault.{PatternFault}
use Rattle.ctd_pattern.specs.declared.pattern.PatternFault.TheVariants.{NotText, NotPattern, TooLarge}
use Rattle.ctd_pattern.specs.Pattern.{IsPattern, IsNoPattern}

-- the literals are patterns
abbrev pub ArePatterns : List PatternLiteral → Type 0
ArePatterns ls = All (λ l. IsPattern l.bytes) ls

-- why no pattern is built of a literal, where memory did not run out: it is not UTF-8; it is no pattern, or nests too deep; or it is one, which `regex` finds too large
abbrev pub IsUnbuilt : List ℕ → PatternFault → Type 0
IsUnbuilt literal NotText = ¬ (IsUtf8 literal)
IsUnbuilt literal NotPattern = IsNoPattern literal
IsUnbuilt literal TooLarge = IsPattern literal
IsUnbuilt literal patterns.Memory = ⊥

-- of a literal no pattern is built, and the fault has its place: those before it are patterns
pub record IsBadPattern (all : List PatternLiteral) (f : LoadFault) : Type 0 where
  pub kind : f.kind ≡ BadPattern
  pub before : List PatternLiteral
  pub literal : PatternLiteral
  pub after : List PatternLiteral
  pub split : all ≡ before ++ literal ∷ after
  pub patterns : ArePatterns before
  pub why : PatternFault
  pub unbuilt : IsUnbuilt literal.bytes why
  pub place : f.place ≡ Some literal.place

-- a program that is spelled has such a literal
pub record HasBadPattern (program : List ℕ) (f : LoadFault) : Type 0 where
  pub tree : CommandList
  pub parses : Parses program tree
  pub bad : IsBadPattern (pattern_literals (lexemes program parses.reads.tokens)) f

-- all literals of the one program that a text spells are patterns
abbrev pub IsReady : List ℕ → CommandList → Type 0
IsReady program tree = (parses : Parses program tree) × ArePatterns (pattern_literals (lexemes program parses.reads.tokens))

-- a text that came whole is refused with this fault
abbrev pub TextHasFault : List ℕ → LoadFault → Type 0
TextHasFault program f = IsRefused program f.kind f.place ⊎ HasBadPattern program f

-- a reader that gave these bytes, and of whose end this was seen, may be refused with this fault: one byte more than the limit came, whatever follows; or a read failed; or its whole text has the fault
pub data MayFail (bytes : List ℕ) (seen : Seen) (f : LoadFault) : Type 0 where
  too_long : PROGRAM_LIMIT < length bytes → f.kind ≡ ProgramTooLong → f.place ≡ None → MayFail bytes seen f
  unread : length bytes ≤ PROGRAM_LIMIT → seen ≡ Broken → f.kind ≡ Read → f.place ≡ None → MayFail bytes seen f
  of_text : seen ≡ Ended → TextHasFault bytes f → MayFail bytes seen f

-- the whole text of a reader that gave these bytes, and of whose end this was seen, is this program
abbrev pub Loads : List ℕ → Seen → CommandList → Type 0
Loads bytes seen tree = (seen ≡ Ended) × IsReady bytes tree
