-- What loading answers, by what came of the text.
use Rattle.std.proofs.Common.{◌≡◌, ◌≢◌, ◌≤◌, ◌<◌, ◌+◌, ◌∙◌, ℕ, List, length, ap, None, Result, Ok, Err, IfErr, refl, sym, subst}
use Rattle.std.specs.Result.{IsErr, IsErrAnd}
use Rattle.ctd_source.specs.declared.source.Source.{Ghosts}
use Rattle.ctd_source.specs.declared.source.Seen.TheVariants.{Ended, Broken}
use Rattle.ctd_source.specs.SourceReads.{GaveBytes}
use Rattle.ctd_token.specs.declared.fault.LoadFault.{LoadFault}
use Rattle.ctd_token.specs.declared.limits.TheConstants.{PROGRAM_LIMIT}
use Rattle.ctd_token.specs.declared.fault.LoadKind.TheVariants.{Memory, ProgramTooLong, Read}
use Rattle.ctd_program.specs.Tree.{CommandList}
use Rattle.ctd_program.specs.declared.tree.PatternLiteral.{PatternLiteral}
use Rattle.ctd_syntax.specs.Reading.{Parses, lexemes}
use Rattle.ctd_syntax.specs.PatternLiterals.{pattern_literals}
use Rattle.ctd_syntax.specs.inner.PatternLiterals.{literals}
use Rattle.ctd_syntax.proofs.RegexLiterals.{spelled_literals}
use Rattle.ctd_loader.specs.Loading.{ArePatterns, HasBadPattern, IsBadPattern, IsReady, TextHasFault, of_text, too_long, unread}
use Rattle.ctd_loader.specs.calls.Loading.{GivesProgramOrFault, LoadsFrom}

-- nothing is said of the text, whatever came of it
pub wants_memory : {V R : Type 0} (tree_of : V → CommandList) (G : Ghosts R) (old new : R) (q : Result V LoadFault) → IsErr q × IsErrAnd q (λ e. e ≡ record { kind = Memory; place = None })
    → (bytes : List ℕ) × (length bytes ≤ PROGRAM_LIMIT + 1) × GaveBytes G old new bytes → LoadsFrom tree_of G old new q
wants_memory tree_of G old new (Ok x) is came = absurd is.1
wants_memory tree_of G old new (Err e) is (bytes, short, gave) = record { bytes = bytes; gave = gave; short = short; answer = λ other. absurd (other (ap (λ f. f.kind) is.1)) }

-- `Memory` is no bad pattern
pub memory_alone : {A : Type 0} (P : LoadFault → Type 0) (q : Result A LoadFault) → IsErr q × IsErrAnd q (λ e. e ≡ record { kind = Memory; place = None }) → IfErr q (λ f. f.kind ≢ Memory → P f)
memory_alone P (Ok x) is = tt
memory_alone P (Err e) is = λ other. absurd (other (ap (λ f. f.kind) is.1))

module _ {V R : Type 0} (tree_of : V → CommandList) (G : Ghosts R) (old new : R) (bytes : List ℕ) (gave : GaveBytes G old new bytes) (short : length bytes ≤ PROGRAM_LIMIT + 1) where
  -- a byte more came than a program may have
  pub came_too_long : PROGRAM_LIMIT < length bytes → LoadsFrom tree_of G old new (Err (record { kind = ProgramTooLong; place = None }))
  came_too_long long = record { bytes = bytes; gave = gave; short = short; answer = λ other. too_long long refl refl }

  -- a read failed
  pub came_unread : length bytes ≤ PROGRAM_LIMIT → G.seen new ≡ Broken → LoadsFrom tree_of G old new (Err (record { kind = Read; place = None }))
  came_unread within broken = record { bytes = bytes; gave = gave; short = short; answer = λ other. unread within broken refl refl }

  -- the whole text came
  pub came_whole : (q : Result V LoadFault) → G.seen new ≡ Ended → GivesProgramOrFault (IsReady bytes) (TextHasFault bytes) tree_of q → LoadsFrom tree_of G old new q
  came_whole (Ok plan) ended ready = record { bytes = bytes; gave = gave; short = short; answer = (ended, ready) }
  came_whole (Err f) ended has = record { bytes = bytes; gave = gave; short = short; answer = λ other. of_text ended (has other) }

-- the literals of a program stand among the tokens of its text
stand : (text : List ℕ) (tree : CommandList) (p : Parses text tree) (P : List PatternLiteral → Type 0) → P (literals tree) → P (pattern_literals (lexemes text p.reads.tokens))
stand text tree p P of_tree = subst P (sym (spelled_literals (lexemes text p.reads.tokens) tree p.reads.spells)) of_tree

-- a program whose literals are patterns is ready
pub ready : (text : List ℕ) (tree : CommandList) → Parses text tree → ArePatterns (literals tree) → IsReady text tree
ready text tree p are = (p, stand text tree p ArePatterns are)

-- a literal of which no pattern is built is a fault of the text
pub has_bad_pattern : (text : List ℕ) (tree : CommandList) (f : LoadFault) → Parses text tree → IsBadPattern (literals tree) f → HasBadPattern text f
has_bad_pattern text tree f p bad = record { tree = tree; parses = p; bad = stand text tree p (λ ls. IsBadPattern ls f) bad }

-- the fault that `?` returns
pub refused_on_return : {V : Type 0} (tree_of : V → CommandList) (text : List ℕ) (f : LoadFault) (q : Result V LoadFault) → IsErr q × IsErrAnd q (λ e. e ≡ f) → (f.kind ≢ Memory → TextHasFault text f)
    → GivesProgramOrFault (IsReady text) (TextHasFault text) tree_of q
refused_on_return tree_of text f (Ok x) is has = absurd is.1
refused_on_return tree_of text f (Err e) is has = λ other. subst (TextHasFault text) (sym is.1) (has (λ memory. other (ap (λ g. g.kind) is.1 ∙ memory)))
