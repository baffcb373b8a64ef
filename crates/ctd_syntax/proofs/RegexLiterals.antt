-- The literals of REGEX among the tokens of a program are those of its tree.
use Rattle.std.proofs.Common.{◌≡◌, List, [], ◌∷◌, ◌++◌, Option, false, refl, sym, ap, ◌∙◌, subst, append_assoc, append-nil}
use Rattle.ctd_token.specs.declared.text.Place.{Place}
use Rattle.ctd_token.specs.declared.token.Mark.TheVariants.{Close, CloseIndex, Comma}
use Rattle.ctd_program.specs.declared.tree.PatternLiteral.{PatternLiteral}
use Rattle.ctd_program.specs.Tree.{VarTree, CommandTree, CommandList, Separator}
use Rattle.ctd_syntax.specs.declared.keyword.Keyword.{Keyword}
use Rattle.ctd_syntax.specs.declared.keyword.Keyword.TheVariants as words
use Rattle.ctd_syntax.specs.Lexeme.{Lexeme, mark, keyword}
use Rattle.ctd_syntax.specs.Grammar
use Rattle.ctd_syntax.specs.Grammar.{IsTargetEnd, IsCommand, IsRepeated, IsBranches, IsCommands}
use Rattle.ctd_syntax.specs.PatternLiterals.{pattern_literals}
use Rattle.ctd_syntax.specs.inner.PatternLiterals.{command_literals, separator_literals, literals}
use Rattle.ctd_syntax.proofs.Balanced.{Balanced, is_regex, is_regex_token, expr_balanced, variable_balanced, names_balanced, test_balanced, assignments_balanced, target_balanced}

-- no literal is among these tokens, whatever follows
abbrev HoldNone : List Lexeme → Type 0
HoldNone ts = (us : List Lexeme) → pattern_literals (ts ++ us) ≡ pattern_literals us

one_word : (k : Keyword) (at : Place) (us : List Lexeme) → is_regex k ≡ false → pattern_literals (keyword k at ∷ us) ≡ pattern_literals us
one_word words.Space at us none = refl
one_word words.Newline at us none = refl
one_word words.Eof at us none = refl
one_word words.Int at us none = refl
one_word words.String at us none = refl
one_word words.Assert at us none = refl
one_word words.Set at us none = refl
one_word words.Unset at us none = refl
one_word words.Rep at us none = refl
one_word words.RepI at us none = refl
one_word words.While at us none = refl
one_word words.WhileI at us none = refl
one_word words.If at us none = refl
one_word words.Else at us none = refl
one_word words.End at us none = refl
one_word words.Strlen at us none = refl
one_word words.Match at us none = refl
one_word words.IsEof at us none = refl
one_word words.Unique at us none = refl
one_word words.InArray at us none = refl
one_word words.Unknown at us none = refl
one_word words.Regex at us none = absurd (cc)

one_token : (t : Lexeme) (us : List Lexeme) → is_regex_token t ≡ false → pattern_literals (t ∷ us) ≡ pattern_literals us
one_token (keyword k at) us none = one_word k at us none
one_token (Lexeme.name bytes) us none = refl
one_token (Lexeme.numeral z) us none = refl
one_token (Lexeme.text bytes at) us none = refl
one_token (mark m) us none = refl

none-append : (ts us : List Lexeme) → HoldNone ts → HoldNone us → HoldNone (ts ++ us)
none-append ts us f g vs = ap pattern_literals (append_assoc ts us vs) ∙ f (us ++ vs) ∙ g vs

-- none is among balanced tokens
none_in : (ts : List Lexeme) → Balanced ts → HoldNone ts
none_in ts Balanced.none us = refl
none_in ts (Balanced.alone {t} l) us = one_token t us l.1
none_in ts (Balanced.append {ts = ps} {us = qs} a b) us = none-append ps qs (none_in ps a) (none_in qs b) us
none_in ts (Balanced.parenthesized {ts = ps} a) us = none-append ps (mark Close ∷ []) (none_in ps a) (λ vs. refl) us
none_in ts (Balanced.indexed {ts = ps} a) us = none-append ps (mark CloseIndex ∷ []) (none_in ps a) (λ vs. refl) us

-- and none at the end of a command with a target
target_none : (ts : List Lexeme) (target : Option VarTree) → IsTargetEnd ts target → HoldNone ts
target_none ts target i = let b = target_balanced ts target i in subst HoldNone (sym b.1) (none-append b.0 (mark Close ∷ []) (none_in b.0 b.2) (λ vs. refl))

-- the literals among these tokens are these, whatever follows
abbrev Hold : List Lexeme → List PatternLiteral → Type 0
Hold ts ls = (us : List Lexeme) → pattern_literals (ts ++ us) ≡ ls ++ pattern_literals us

hold-append : (ts us : List Lexeme) (ls ms : List PatternLiteral) → Hold ts ls → Hold us ms → Hold (ts ++ us) (ls ++ ms)
hold-append ts us ls ms f g vs = ap pattern_literals (append_assoc ts us vs) ∙ f (us ++ vs) ∙ ap (λ l. ls ++ l) (g vs) ∙ sym (append_assoc ls ms (pattern_literals vs))

-- tokens without a literal in front, or behind
hold_behind : (ts us : List Lexeme) (ls : List PatternLiteral) → HoldNone ts → Hold us ls → Hold (ts ++ us) ls
hold_behind ts us ls f g vs = ap pattern_literals (append_assoc ts us vs) ∙ f (us ++ vs) ∙ g vs

hold_before : (ts us : List Lexeme) (ls : List PatternLiteral) → Hold ts ls → HoldNone us → Hold (ts ++ us) ls
hold_before ts us ls f g vs = ap pattern_literals (append_assoc ts us vs) ∙ f (us ++ vs) ∙ ap (λ l. ls ++ l) (g vs)

mutual
  command_holds : (ts : List Lexeme) (u : CommandTree) → IsCommand ts u → Hold ts (command_literals u)
  command_holds ts u Grammar.space vs = refl
  command_holds ts u Grammar.newline vs = refl
  command_holds ts u Grammar.eof vs = refl
  command_holds ts u (Grammar.int {ts = ws} {us} {vs} i j k) xs = none-append (ws ++ mark Comma ∷ us) vs (none-append ws (mark Comma ∷ us) (none_in ws (expr_balanced ws _ i)) (none_in us (expr_balanced us _ j))) (target_none vs _ k) xs
  command_holds ts u (Grammar.string {ts = us} i) xs = none-append us (mark Close ∷ []) (none_in us (expr_balanced us _ i)) (λ vs. refl) xs
  command_holds ts u (Grammar.regex {vs} {literal} k) xs = ap (λ l. literal ∷ l) (target_none vs _ k xs)
  command_holds ts u (Grammar.assert {ts = us} i) xs = none-append us (mark Close ∷ []) (none_in us (test_balanced us _ i)) (λ vs. refl) xs
  command_holds ts u (Grammar.set {ts = us} i) xs = none-append us (mark Close ∷ []) (none_in us (assignments_balanced us _ i)) (λ vs. refl) xs
  command_holds ts u (Grammar.unset {ts = us} i) xs = none-append us (mark Close ∷ []) (none_in us (names_balanced us _ i)) (λ vs. refl) xs
  command_holds ts u (Grammar.rep {ts = ws} {us} {between = separator} {body} i r) xs = hold_behind ws us (separator_literals separator ++ literals body) (none_in ws (expr_balanced ws _ i)) (repeated_holds us separator body r) xs
  command_holds ts u (Grammar.repi {ts = ws} {us} {vs} {between = separator} {body} i j r) xs =
      hold_behind (ws ++ mark Comma ∷ us) vs (separator_literals separator ++ literals body) (none-append ws (mark Comma ∷ us) (none_in ws (variable_balanced ws _ _ i)) (none_in us (expr_balanced us _ j))) (repeated_holds vs separator body r) xs
  command_holds ts u (Grammar.while {ts = ws} {us} {between = separator} {body} i r) xs = hold_behind ws us (separator_literals separator ++ literals body) (none_in ws (test_balanced ws _ i)) (repeated_holds us separator body r) xs
  command_holds ts u (Grammar.whilei {ts = ws} {us} {vs} {between = separator} {body} i j r) xs =
      hold_behind (ws ++ mark Comma ∷ us) vs (separator_literals separator ++ literals body) (none-append ws (mark Comma ∷ us) (none_in ws (variable_balanced ws _ _ i)) (none_in us (test_balanced us _ j))) (repeated_holds vs separator body r) xs
  command_holds ts u (Grammar.choice {ts = ws} {us} {then_do} {else_do} i r) xs =
      hold_behind ws (mark Close ∷ us) (literals then_do ++ literals else_do) (none_in ws (test_balanced ws _ i)) (branches_hold us then_do else_do r) xs

  repeated_holds : (ts : List Lexeme) (separator : Separator) (body : CommandList) → IsRepeated ts separator body → Hold ts (separator_literals separator ++ literals body)
  repeated_holds ts separator body (Grammar.without_separator {us} at i) xs = hold_before us (keyword words.End at ∷ []) (literals body) (commands_hold us body i) (λ vs. refl) xs
  repeated_holds ts separator body (Grammar.with_separator {ts = ws} {us} {c} at i j) xs =
      hold_before (ws ++ mark Close ∷ us) (keyword words.End at ∷ []) (command_literals c ++ literals body)
      (hold-append ws (mark Close ∷ us) (command_literals c) (literals body) (command_holds ws c i) (commands_hold us body j)) (λ vs. refl) xs

  branches_hold : (ts : List Lexeme) (then_do else_do : CommandList) → IsBranches ts then_do else_do → Hold ts (literals then_do ++ literals else_do)
  branches_hold ts then_do else_do (Grammar.one_way {us} at i) xs = hold-append us (keyword words.End at ∷ []) (literals then_do) [] (commands_hold us then_do i) (λ vs. refl) xs
  branches_hold ts then_do else_do (Grammar.two_ways {us} {vs} at else_at i j) xs =
      hold_before (us ++ keyword words.Else else_at ∷ vs) (keyword words.End at ∷ []) (literals then_do ++ literals else_do)
      (hold-append us (keyword words.Else else_at ∷ vs) (literals then_do) (literals else_do) (commands_hold us then_do i) (commands_hold vs else_do j)) (λ ws. refl) xs

  commands_hold : (ts : List Lexeme) (u : CommandList) → IsCommands ts u → Hold ts (literals u)
  commands_hold ts u Grammar.done xs = refl
  commands_hold ts u (Grammar.then {ts = ws} {us} {c} {rest} i j) xs = hold-append ws us (command_literals c) (literals rest) (command_holds ws c i) (commands_hold us rest j) xs

-- the literals of a program stand among its tokens, in order
pub spelled_literals : (ts : List Lexeme) (tree : CommandList) → IsCommands ts tree → pattern_literals ts ≡ literals tree
spelled_literals ts tree spells = ap pattern_literals (sym (append-nil ts)) ∙ commands_hold ts tree spells [] ∙ append-nil (literals tree)
