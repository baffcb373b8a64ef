-- Commands that are read a batch at a time are those of the whole text: where one ends is told by its tokens alone.
use Rattle.std.proofs.Common.{◌≡◌, ℕ, zero, suc, List, [], ◌∷◌, ◌++◌, Bool, true, false, if◌then◌else◌, Option, refl, sym, ap, ◌∙◌, subst, append_assoc, append-nil}
use Rattle.std.proofs.lemmas.List.{append_cancel_right}
use Rattle.ctd_syntax.specs.Lexeme.{Lexeme, mark, keyword}
use Rattle.ctd_program.specs.Tree
use Rattle.ctd_program.specs.Tree.{VarTree, CommandTree, CommandList, Separator}
use Rattle.ctd_program.proofs.Trees.{joined}
use Rattle.ctd_syntax.specs.Grammar
use Rattle.ctd_syntax.specs.Grammar.{IsTargetEnd, IsCommand, IsRepeated, IsBranches, IsCommands}
use Rattle.ctd_syntax.specs.inner.Front.{OneTree, Always}
use Rattle.ctd_syntax.specs.inner.CommandWords.{begins_command, command_begins}
use Rattle.ctd_syntax.specs.Nesting.{change_of}
use Rattle.ctd_syntax.specs.inner.Batches.{SpellsOnly}
use Rattle.ctd_syntax.specs.declared.nesting.CounterChange.{CounterChange}
use Rattle.ctd_syntax.specs.declared.nesting.CounterChange.TheVariants.{Opens, Closes, Restarts, Grows, Keeps}
use Rattle.ctd_token.specs.declared.token.Mark.TheVariants.{Open, Close, CloseIndex, Comma}
use Rattle.ctd_syntax.specs.declared.keyword.Keyword.TheVariants as words
use Rattle.ctd_syntax.proofs.CommandReads.{joined_again, joined_done}
use Rattle.ctd_syntax.proofs.Balanced.{Balanced, IsLevelChange, over, expr_balanced, variable_balanced, names_balanced, test_balanced, assignments_balanced, target_balanced}

-- ---- where a command ends

-- how many parentheses, brackets and blocks are open behind a token
abbrev depth_after : CounterChange → ℕ → ℕ
depth_after Opens d = suc d
depth_after Closes zero = zero
depth_after Closes (suc d) = d
depth_after Restarts d = d
depth_after Grows d = d
depth_after Keeps d = d

-- whether the next command begins with a token, where so many are open
abbrev stops : ℕ → Lexeme → Bool
stops zero t = begins_command t
stops (suc d) t = false

-- the tokens from the next command on, where so many are open
abbrev cut : ℕ → List Lexeme → List Lexeme
cut d [] = []
cut d (t ∷ ts) = if stops d t then t ∷ ts else cut (depth_after (change_of t) d) ts

-- the same behind the first token, whatever it is
abbrev cut_behind : ℕ → List Lexeme → List Lexeme
cut_behind d [] = []
cut_behind d (t ∷ ts) = cut (depth_after (change_of t) d) ts

-- within others, the tokens leave as many open as there were
abbrev Passes : List Lexeme → Type 0
Passes ts = (d : ℕ) (rest : List Lexeme) → cut (suc d) (ts ++ rest) ≡ cut (suc d) rest

-- the tokens close one
abbrev Ends : List Lexeme → Type 0
Ends ts = (d : ℕ) (rest : List Lexeme) → cut (suc d) (ts ++ rest) ≡ cut d rest

-- the tokens close two
abbrev EndsTwo : List Lexeme → Type 0
EndsTwo ts = (d : ℕ) (rest : List Lexeme) → cut (suc (suc d)) (ts ++ rest) ≡ cut d rest

-- behind the first, the tokens leave as many open as there were before it
abbrev Closed : List Lexeme → Type 0
Closed ts = (d : ℕ) (rest : List Lexeme) → cut_behind d (ts ++ rest) ≡ cut d rest

-- a token that opens and closes nothing leaves as many open as there were
level_depth : (x : CounterChange) → IsLevelChange x → (d : ℕ) → depth_after x d ≡ d
level_depth Opens l d = absurd l
level_depth Closes l d = absurd l
level_depth Restarts l d = refl
level_depth Grows l d = refl
level_depth Keeps l d = refl

-- tokens that pass do so one behind the other
passes_append : (ts us : List Lexeme) → Passes ts → Passes us → Passes (ts ++ us)
passes_append ts us f g d rest = ap (cut (suc d)) (append_assoc ts us rest) ∙ f d (us ++ rest) ∙ g d rest

-- behind tokens that pass, one that closes closes one
closes : (ts : List Lexeme) (t : Lexeme) → change_of t ≡ Closes → Passes ts → Ends (ts ++ t ∷ [])
closes ts t e f d rest = ap (cut (suc d)) (append_assoc ts (t ∷ []) rest) ∙ f d (t ∷ rest) ∙ ap (λ x. cut (depth_after x (suc d)) rest) e

-- behind tokens that pass, tokens that close one do so too
ends_over : (ts us : List Lexeme) → Passes ts → Ends us → Ends (ts ++ us)
ends_over ts us f g d rest = ap (cut (suc d)) (append_assoc ts us rest) ∙ f d (us ++ rest) ∙ g d rest

-- and those that close two
two_over : (ts us : List Lexeme) → Passes ts → EndsTwo us → EndsTwo (ts ++ us)
two_over ts us f g d rest = ap (cut (suc (suc d))) (append_assoc ts us rest) ∙ f (suc d) (us ++ rest) ∙ g d rest

-- balanced tokens leave as many open as there were
passes : (ts : List Lexeme) → Balanced ts → Passes ts
passes ts Balanced.none d rest = refl
passes ts (Balanced.alone {t} l) d rest = ap (λ e. cut e rest) (level_depth (change_of t) l.0 (suc d))
passes ts (Balanced.append {ts = us} {us = vs} a b) d rest = passes_append us vs (passes us a) (passes vs b) d rest
passes ts (Balanced.parenthesized {ts = us} a) d rest = closes us (mark Close) refl (passes us a) (suc d) rest
passes ts (Balanced.indexed {ts = us} a) d rest = closes us (mark CloseIndex) refl (passes us a) (suc d) rest

-- an opening parenthesis and what closes it
called : (ts : List Lexeme) → Ends ts → (d : ℕ) (rest : List Lexeme) → cut d (mark Open ∷ (ts ++ rest)) ≡ cut d rest
called ts f zero rest = f zero rest
called ts f (suc d) rest = f (suc d) rest

-- balanced tokens in parentheses
asked : (ts : List Lexeme) → Balanced ts → (d : ℕ) (rest : List Lexeme) → cut d (mark Open ∷ ((ts ++ mark Close ∷ []) ++ rest)) ≡ cut d rest
asked ts b = called (ts ++ mark Close ∷ []) (closes ts (mark Close) refl (passes ts b))

-- the end of a command with a target closes its parenthesis
target_ends : (ts : List Lexeme) (target : Option VarTree) → IsTargetEnd ts target → Ends ts
target_ends ts target i = let b = target_balanced ts target i in subst Ends (sym b.1) (closes b.0 (mark Close) refl (passes b.0 b.2))

-- behind a first token that is closed, some tokens pass
closed_passes : (ts : List Lexeme) → Closed ts → Passes ts
closed_passes [] f d rest = refl
closed_passes (t ∷ ts) f d rest = f (suc d) rest

mutual
  -- a command is closed
  command_closed : (ts : List Lexeme) (u : CommandTree) → IsCommand ts u → Closed ts
  command_closed ts u Grammar.space = λ d rest. refl
  command_closed ts u Grammar.newline = λ d rest. refl
  command_closed ts u Grammar.eof = λ d rest. refl
  command_closed ts u (Grammar.int {ts = ws} {us} {vs} i j k) = called ((ws ++ mark Comma ∷ us) ++ vs) (ends_over (ws ++ mark Comma ∷ us) vs (passes _ (over ws us (mark Comma) (tt, refl) (expr_balanced ws _ i) (expr_balanced us _ j))) (target_ends vs _ k))
  command_closed ts u (Grammar.string {ts = us} i) = asked us (expr_balanced us _ i)
  command_closed ts u (Grammar.regex {vs} {literal} k) = called (Lexeme.text literal.bytes literal.place ∷ vs) (target_ends vs _ k)
  command_closed ts u (Grammar.assert {ts = us} i) = asked us (test_balanced us _ i)
  command_closed ts u (Grammar.set {ts = us} i) = asked us (assignments_balanced us _ i)
  command_closed ts u (Grammar.unset {ts = us} i) = asked us (names_balanced us _ i)
  command_closed ts u (Grammar.rep {ts = ws} {us} {between = separator} {body} i r) = two_over ws us (passes ws (expr_balanced ws _ i)) (repeated_ends us separator body r)
  command_closed ts u (Grammar.repi {ts = ws} {us} {vs} {between = separator} {body} i j r) =
      two_over (ws ++ mark Comma ∷ us) vs (passes _ (over ws us (mark Comma) (tt, refl) (variable_balanced ws _ _ i) (expr_balanced us _ j))) (repeated_ends vs separator body r)
  command_closed ts u (Grammar.while {ts = ws} {us} {between = separator} {body} i r) = two_over ws us (passes ws (test_balanced ws _ i)) (repeated_ends us separator body r)
  command_closed ts u (Grammar.whilei {ts = ws} {us} {vs} {between = separator} {body} i j r) =
      two_over (ws ++ mark Comma ∷ us) vs (passes _ (over ws us (mark Comma) (tt, refl) (variable_balanced ws _ _ i) (test_balanced us _ j))) (repeated_ends vs separator body r)
  command_closed ts u (Grammar.choice {ts = ws} {us} {then_do} {else_do} i r) = two_over ws (mark Close ∷ us) (passes ws (test_balanced ws _ i)) (branches_end us then_do else_do r)

  -- what follows the head of a loop closes its parenthesis and its block
  repeated_ends : (ts : List Lexeme) (separator : Separator) (body : CommandList) → IsRepeated ts separator body → EndsTwo ts
  repeated_ends ts separator body (Grammar.without_separator {us} at i) = closes us (keyword words.End at) refl (commands_pass us body i)
  repeated_ends ts separator body (Grammar.with_separator {ts = ws} {us} {c} at i j) =
      subst (λ l. EndsTwo (mark Comma ∷ l)) (sym (append_assoc ws (mark Close ∷ us) (keyword words.End at ∷ [])))
      (two_over ws (mark Close ∷ us ++ keyword words.End at ∷ []) (closed_passes ws (command_closed ws c i)) (closes us (keyword words.End at) refl (commands_pass us body j)))

  -- what follows the head of an IF closes its block
  branches_end : (ts : List Lexeme) (then_do else_do : CommandList) → IsBranches ts then_do else_do → Ends ts
  branches_end ts then_do else_do (Grammar.one_way {us} at i) = closes us (keyword words.End at) refl (commands_pass us then_do i)
  branches_end ts then_do else_do (Grammar.two_ways {us} {vs} at else_at i j) =
      closes (us ++ keyword words.Else else_at ∷ vs) (keyword words.End at) refl (passes_append us (keyword words.Else else_at ∷ vs) (commands_pass us then_do i) (commands_pass vs else_do j))

  -- commands one after the other pass
  commands_pass : (ts : List Lexeme) (u : CommandList) → IsCommands ts u → Passes ts
  commands_pass ts u Grammar.done = λ d rest. refl
  commands_pass ts u (Grammar.then {ts = ws} {us} {c} {rest} i j) = passes_append ws us (closed_passes ws (command_closed ws c i)) (commands_pass us rest j)

-- no tokens, or those from a command on
abbrev IsBoundary : List Lexeme → Type 0
IsBoundary [] = Unit {0}
IsBoundary (t ∷ ts) = begins_command t ≡ true

-- there the next command is all that is left
boundary_cut : (ts : List Lexeme) → IsBoundary ts → cut zero ts ≡ ts
boundary_cut [] h = refl
boundary_cut (t ∷ ts) h = ap (λ b. if b then t ∷ ts else cut (depth_after (change_of t) zero) ts) h

-- behind a command, the next one is told
command_cut : (ts rest : List Lexeme) (u : CommandTree) → IsCommand ts u → IsBoundary rest → cut_behind zero (ts ++ rest) ≡ rest
command_cut ts rest u i h = command_closed ts u i zero rest ∙ boundary_cut rest h

-- a command begins with its word
command_begins_so : (ts rest : List Lexeme) (u : CommandTree) → IsCommand ts u → command_begins (ts ++ rest) ≡ true
command_begins_so ts rest u Grammar.space = refl
command_begins_so ts rest u Grammar.newline = refl
command_begins_so ts rest u Grammar.eof = refl
command_begins_so ts rest u (Grammar.int i j k) = refl
command_begins_so ts rest u (Grammar.string i) = refl
command_begins_so ts rest u (Grammar.regex k) = refl
command_begins_so ts rest u (Grammar.assert i) = refl
command_begins_so ts rest u (Grammar.set i) = refl
command_begins_so ts rest u (Grammar.unset i) = refl
command_begins_so ts rest u (Grammar.rep i r) = refl
command_begins_so ts rest u (Grammar.repi i j r) = refl
command_begins_so ts rest u (Grammar.while i r) = refl
command_begins_so ts rest u (Grammar.whilei i j r) = refl
command_begins_so ts rest u (Grammar.choice i r) = refl

-- so do the tokens at whose front one is found
pub found_begins : (ts after : List Lexeme) (u : CommandTree) → OneTree IsCommand Always ts u after → command_begins ts ≡ true
found_begins ts after u f = ap command_begins f.split ∙ command_begins_so f.front after u f.spells

-- tokens that begin a command are those from a command on
begins_boundary : (ts : List Lexeme) → command_begins ts ≡ true → IsBoundary ts
begins_boundary [] h = tt
begins_boundary (t ∷ ts) h = h

-- behind commands there may be others or nothing
commands_begin_so : (ts rest : List Lexeme) (u : CommandList) → IsCommands ts u → IsBoundary rest → IsBoundary (ts ++ rest)
commands_begin_so ts rest u Grammar.done h = h
commands_begin_so ts rest u (Grammar.then {ts = ws} {us} {c} i j) h = subst IsBoundary (sym (append_assoc ws us rest)) (begins_boundary (ws ++ (us ++ rest)) (command_begins_so ws (us ++ rest) c i))

-- or there are none before them
commands_boundary : (ts : List Lexeme) (u : CommandList) → IsCommands ts u → IsBoundary ts
commands_boundary ts u i = subst IsBoundary (append-nil ts) (commands_begin_so ts [] u i tt)

-- ---- commands that are known at the front

-- where tokens are a command and more, they are not empty
not_empty : {A : Type 0} (ts rest : List Lexeme) (u : CommandTree) → IsCommand ts u → [] ≡ ts ++ rest → A
not_empty ts rest u i e = absurd (let clash : false ≡ true = ap command_begins e ∙ command_begins_so ts rest u i in cc)

-- two commands with commands behind them are of the same tokens
same_behind : (ts us vs ws : List Lexeme) (a b : CommandTree) → IsCommand ts a → IsCommand vs b → IsBoundary us → IsBoundary ws → ts ++ us ≡ vs ++ ws → us ≡ ws
same_behind ts us vs ws a b i j g h e = sym (command_cut ts us a i g) ∙ ap (cut_behind zero) e ∙ command_cut vs ws b j h

-- commands of the tokens that two lists of commands have together are those of the first and those of the second
parted : (ts us whole : List Lexeme) (a u : CommandList) → IsCommands ts a → IsBoundary us → whole ≡ ts ++ us → IsCommands whole u → (v w : CommandList) × IsCommands ts v × IsCommands us w × (u ≡ joined v w)
parted ts us whole a u Grammar.done h e w = (Tree.done, u, Grammar.done, subst (λ l. IsCommands l u) e w, refl)
parted ts us whole a u (Grammar.then {ts = fs} {us = gs} {c} i r) h e Grammar.done = not_empty fs (gs ++ us) c i (e ∙ append_assoc fs gs us)
parted ts us whole a u (Grammar.then {ts = fs} {us = gs} {c} {rest} i r) h e (Grammar.then {ts = ks} {us = ls} {c = d} {rest = more} j s) =
    let split : ks ++ ls ≡ fs ++ (gs ++ us) = e ∙ append_assoc fs gs us in
    let tails : ls ≡ gs ++ us = same_behind ks ls fs (gs ++ us) d c j i (commands_boundary ls more s) (commands_begin_so gs us rest r h) split in
    let heads : ks ≡ fs = append_cancel_right ks fs (gs ++ us) (ap (λ l. ks ++ l) (sym tails) ∙ split) in
    let p = parted gs us ls rest more r h tails s in
    (Tree.then d p.0, p.1, Grammar.then (subst (λ l. IsCommand l d) heads j) p.2, p.3, ap (Tree.then d) p.4)

-- commands behind commands
appended : (ts us : List Lexeme) (a b : CommandList) → IsCommands ts a → IsCommands us b → IsCommands (ts ++ us) (joined a b)
appended ts us a b Grammar.done j = j
appended ts us a b (Grammar.then {ts = fs} {us = gs} {c} {rest} i r) j = subst (λ l. IsCommands l (Tree.then c (joined rest b))) (sym (append_assoc fs gs us)) (Grammar.then i (appended gs us rest b r j))

-- the tokens spell these commands, and whatever program goes on behind them begins with these
pub record BeginsWith (ts : List Lexeme) (a : CommandList) : Type 0 where
  pub spells : IsCommands ts a
  pub only : (us : List Lexeme) (u : CommandList) → IsBoundary us → IsCommands (ts ++ us) u → (w : CommandList) × IsCommands us w × (u ≡ joined a w)

-- before the first batch
pub nothing_yet : BeginsWith [] Tree.done
nothing_yet = record { spells = Grammar.done; only = λ us u h i. (u, i, refl) }

-- a batch more
pub batch_more : (ts us : List Lexeme) (a b : CommandList) → BeginsWith ts a → SpellsOnly us b → BeginsWith (ts ++ us) (joined a b)
batch_more ts us a b f s = record {
  spells = appended ts us a b f.spells s.spells;
  only = λ vs u h i.
      let p = f.only (us ++ vs) u (commands_begin_so us vs b s.spells h) (subst (λ l. IsCommands l u) (append_assoc ts us vs) i) in
      let q = parted us vs (us ++ vs) b p.0 s.spells h refl p.1 in
      (q.1, q.3, p.2 ∙ ap (joined a) (q.4 ∙ ap (λ v. joined v q.1) (s.only q.0 q.2)) ∙ sym (joined_again a b q.1));
}

-- commands of no tokens
none_left : (ts : List Lexeme) (u : CommandList) → [] ≡ ts → IsCommands ts u → u ≡ Tree.done
none_left ts u e Grammar.done = refl
none_left ts u e (Grammar.then {ts = fs} {us = gs} {c} i r) = not_empty fs gs c i e

-- where nothing is left, these are the commands
pub all_read : (ts : List Lexeme) (a : CommandList) → BeginsWith ts a → SpellsOnly ts a
all_read ts a f = record {
  spells = f.spells;
  only = λ u i.
      let p = f.only [] u tt (subst (λ l. IsCommands l u) (sym (append-nil ts)) i) in
      p.2 ∙ ap (joined a) (none_left [] p.0 refl p.1) ∙ joined_done a;
}

-- no tokens spell no commands
pub nothing_spelled : SpellsOnly [] Tree.done
nothing_spelled = all_read [] Tree.done nothing_yet
