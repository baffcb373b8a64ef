-- A program whose tokens do not nest too deep has few blocks open at each of its commands.
use Rattle.std.proofs.Common.{◌≡◌, ℕ, suc, ◌+◌, ◌≤◌, max, List, [], ◌∷◌, ◌++◌, length, sum, Option, Some, None, option_map, if◌then◌else◌, Bool, true, false, nat_lt, ltb-false, refl, sym, subst, append_assoc, append-nil, arith}
use Rattle.std.proofs.Math.Nat.{max-zero, zero-max}
use Rattle.ctd_syntax.specs.Lexeme.{Lexeme, mark, keyword}
use Rattle.ctd_program.specs.Tree.{VarTree, CommandTree, CommandList, Separator}
use Rattle.ctd_program.specs.calls.Blocks.{blocks, separator_blocks, list_blocks}
use Rattle.ctd_syntax.specs.Grammar
use Rattle.ctd_syntax.specs.Grammar.{IsTargetEnd, IsCommand, IsRepeated, IsBranches, IsCommands}
use Rattle.ctd_syntax.specs.Nesting.{change_of, word_change, step, start, weight}
use Rattle.ctd_syntax.specs.inner.Nesting.{too_deep}
use Rattle.ctd_token.specs.declared.text.Place.{Place}
use Rattle.ctd_token.specs.declared.limits.TheConstants.{NESTING_LIMIT}
use Rattle.ctd_syntax.specs.declared.nesting.CounterChange.{CounterChange}
use Rattle.ctd_syntax.specs.declared.nesting.CounterChange.TheVariants.{Opens, Closes, Restarts, Grows, Keeps}
use Rattle.ctd_token.specs.declared.token.Mark.TheVariants.{Open, Close, OpenIndex, CloseIndex, Comma}
use Rattle.ctd_syntax.specs.declared.keyword.Keyword.{Keyword}
use Rattle.ctd_syntax.specs.declared.keyword.Keyword.TheVariants as words
use Rattle.ctd_syntax.proofs.Balanced.{Balanced, IsLevelChange, over, expr_balanced, variable_balanced, names_balanced, test_balanced, assignments_balanced, target_balanced}

-- the tokens are never too heavy, from these counters on
abbrev pub IsLight : ℕ × List ℕ → List Lexeme → Type 0
IsLight counters ts = too_deep counters ts ≡ None

-- nothing is too deep: the first token is not, and the others are not
light_by : (heavy : Bool) (rest : Option ℕ) → (if heavy then Some 0 else option_map (λ n. n + 1) rest) ≡ None → (heavy ≡ false) × (rest ≡ None)
light_by true rest e = absurd (cc)
light_by false None e = (refl, refl)
light_by false (Some n) e = absurd (cc)

-- a first token that is not too heavy, and the tokens behind it
pub next : (counters : ℕ × List ℕ) (t : Lexeme) (ts : List Lexeme) → IsLight counters (t ∷ ts) → (weight (step (change_of t) counters) ≤ NESTING_LIMIT) × IsLight (step (change_of t) counters) ts
next counters t ts h =
    let both = light_by (nat_lt NESTING_LIMIT (weight (step (change_of t) counters))) (too_deep (step (change_of t) counters) ts) h in
    (ltb-false NESTING_LIMIT (weight (step (change_of t) counters)) both.0, both.1)

-- two lists, one behind the other, are read apart
apart : (counters : ℕ × List ℕ) (ts us rest : List Lexeme) → IsLight counters ((ts ++ us) ++ rest) → IsLight counters (ts ++ (us ++ rest))
apart counters ts us rest h = subst (IsLight counters) (append_assoc ts us rest) h

-- the tokens leave the outer counters as they were
abbrev Even : List Lexeme → Type 0
Even ts = (c : ℕ) (cs : List ℕ) (rest : List Lexeme) → IsLight (c, cs) (ts ++ rest) → (d : ℕ) × IsLight (d, cs) rest

-- the tokens leave all counters as they were
abbrev Stays : List Lexeme → Type 0
Stays ts = (c : ℕ) (cs : List ℕ) (rest : List Lexeme) → IsLight (c, cs) (ts ++ rest) → IsLight (c, cs) rest

-- the tokens drop the innermost counter
abbrev Ends : List Lexeme → Type 0
Ends ts = (c d : ℕ) (cs : List ℕ) (rest : List Lexeme) → IsLight (c, d ∷ cs) (ts ++ rest) → IsLight (d, cs) rest

-- behind an even list, a token that closes drops the innermost counter
closes : (ts : List Lexeme) (t : Lexeme) → change_of t ≡ Closes → Even ts → Ends (ts ++ t ∷ [])
closes ts t e f c d cs rest h =
    let m = f c (d ∷ cs) (t ∷ rest) (apart (c, d ∷ cs) ts (t ∷ []) rest h) in
    subst (λ x. IsLight (step x (m.0, d ∷ cs)) rest) e (next (m.0, d ∷ cs) t rest m.1).1

-- a token that opens adds the counter that the tokens behind it drop
opens : (t : Lexeme) (ts : List Lexeme) → change_of t ≡ Opens → Ends ts → Stays (t ∷ ts)
opens t ts e f c cs rest h = f 0 c cs rest (subst (λ x. IsLight (step x (c, cs)) (ts ++ rest)) e (next (c, cs) t (ts ++ rest) h).1)

-- behind an even list, tokens that drop the innermost counter drop it as well
ends_over : (ts us : List Lexeme) → Even ts → Ends us → Ends (ts ++ us)
ends_over ts us f g c d cs rest h = let m = f c (d ∷ cs) (us ++ rest) (apart (c, d ∷ cs) ts us rest h) in g m.0 d cs rest m.1

-- a word that changes nothing, its parenthesis and what closes it leave all counters as they were
called : (k : Keyword) (at : Place) (ts : List Lexeme) → word_change k ≡ Keeps → Ends ts → Stays (keyword k at ∷ mark Open ∷ ts)
called k at ts e f c cs rest h = opens (mark Open) ts refl f c cs rest (subst (λ x. IsLight (step x (c, cs)) (mark Open ∷ (ts ++ rest))) e (next (c, cs) (keyword k at) (mark Open ∷ (ts ++ rest)) h).1)

-- so do such a word and an even list in parentheses
asked : (k : Keyword) (at : Place) (ts : List Lexeme) → word_change k ≡ Keeps → Even ts → Stays (keyword k at ∷ mark Open ∷ ts ++ mark Close ∷ [])
asked k at ts e f = called k at (ts ++ mark Close ∷ []) e (closes ts (mark Close) refl f)

-- a token that opens and closes nothing changes the innermost counter alone
level_step : (x : CounterChange) → IsLevelChange x → (c : ℕ) (cs : List ℕ) → (d : ℕ) × (step x (c, cs) ≡ (d, cs))
level_step Opens l c cs = absurd l
level_step Closes l c cs = absurd l
level_step Restarts l c cs = (0, refl)
level_step Grows l c cs = (c + 1, refl)
level_step Keeps l c cs = (c, refl)

-- balanced tokens leave the outer counters as they were
even : (ts : List Lexeme) → Balanced ts → Even ts
even ts Balanced.none c cs rest h = (c, h)
even ts (Balanced.alone {t} l) c cs rest h = let s = level_step (change_of t) l.0 c cs in (s.0, subst (λ s. IsLight s rest) s.1 (next (c, cs) t rest h).1)
even ts (Balanced.append {ts = us} {us = vs} a b) c cs rest h = let m = even us a c cs (vs ++ rest) (apart (c, cs) us vs rest h) in even vs b m.0 cs rest m.1
even ts (Balanced.parenthesized {ts = us} a) c cs rest h = (c, opens (mark Open) (us ++ mark Close ∷ []) refl (closes us (mark Close) refl (even us a)) c cs rest h)
even ts (Balanced.indexed {ts = us} a) c cs rest h = (c, opens (mark OpenIndex) (us ++ mark CloseIndex ∷ []) refl (closes us (mark CloseIndex) refl (even us a)) c cs rest h)

-- the end of a command with a target drops the innermost counter
target_ends : (ts : List Lexeme) (target : Option VarTree) → IsTargetEnd ts target → Ends ts
target_ends ts target i = let b = target_balanced ts target i in subst Ends (sym b.1) (closes b.0 (mark Close) refl (even b.0 b.2))

-- the tokens leave all counters as they were, and so many blocks fit
abbrev Holds : List Lexeme → ℕ → Type 0
Holds ts n = (c : ℕ) (cs : List ℕ) (rest : List Lexeme) → length cs ≤ NESTING_LIMIT → IsLight (c, cs) (ts ++ rest) → (n + length cs ≤ NESTING_LIMIT) × IsLight (c, cs) rest

-- the tokens after the parentheses of a block drop its counter, and so many blocks fit
abbrev HoldsWithin : List Lexeme → ℕ → Type 0
HoldsWithin ts n = (d : ℕ) (cs : List ℕ) (rest : List Lexeme) → suc (length cs) ≤ NESTING_LIMIT → IsLight (0, d ∷ cs) (ts ++ rest) → (n + suc (length cs) ≤ NESTING_LIMIT) × IsLight (d, cs) rest

-- tokens that close these parentheses too drop its counter, and so many blocks fit
abbrev HoldsBehind : List Lexeme → ℕ → Type 0
HoldsBehind ts n = (c d : ℕ) (cs : List ℕ) (rest : List Lexeme) → suc (length cs) ≤ NESTING_LIMIT → IsLight (c, 0 ∷ d ∷ cs) (ts ++ rest) → (n + suc (length cs) ≤ NESTING_LIMIT) × IsLight (d, cs) rest

-- tokens that leave all counters as they were hold 0 blocks
no_blocks : (ts : List Lexeme) → Stays ts → Holds ts 0
no_blocks ts f c cs rest l h = (omega (arith, l), f c cs rest h)

-- a word that changes nothing holds 0 blocks
word_alone : (k : Keyword) (at : Place) → word_change k ≡ Keeps → Holds (keyword k at ∷ []) 0
word_alone k at e c cs rest l h = (omega (arith, l), subst (λ x. IsLight (step x (c, cs)) rest) e (next (c, cs) (keyword k at) rest h).1)

-- a word that opens, a parenthesis, an even list and the rest of the block hold one block more than that rest
block : (k : Keyword) (at : Place) (ts us : List Lexeme) (n : ℕ) → word_change k ≡ Opens → Even ts → HoldsBehind us n → Holds (keyword k at ∷ mark Open ∷ ts ++ us) (1 + n)
block k at ts us n e f g c cs rest l h =
    let opened = subst (λ x. (weight (step x (c, cs)) ≤ NESTING_LIMIT) × IsLight (step x (c, cs)) (mark Open ∷ ((ts ++ us) ++ rest))) e (next (c, cs) (keyword k at) (mark Open ∷ ((ts ++ us) ++ rest)) h) in
    let inner = (next (0, c ∷ cs) (mark Open) ((ts ++ us) ++ rest) opened.1).1 in
    let behind = f 0 (0 ∷ c ∷ cs) (us ++ rest) (apart (0, 0 ∷ c ∷ cs) ts us rest inner) in
    let light : 0 + sum (c ∷ cs) + suc (length cs) ≤ NESTING_LIMIT = opened.0 in
    let held = g behind.0 c cs rest (omega (arith, light)) behind.1 in
    (omega (arith, held.0), held.1)

-- the rest of a block, behind its closing parenthesis
closed : (ts : List Lexeme) (n : ℕ) → HoldsWithin ts n → HoldsBehind (mark Close ∷ ts) n
closed ts n f c d cs rest l h = f d cs rest l (next (c, 0 ∷ d ∷ cs) (mark Close) (ts ++ rest) h).1

-- a separator stands within the parentheses, and holds its blocks there
separator_behind : (ts us : List Lexeme) (m n : ℕ) → Holds ts m → HoldsBehind us n → HoldsBehind (mark Comma ∷ ts ++ us) (max m n)
separator_behind ts us m n f g c d cs rest l h =
    let restarted = next (c, 0 ∷ d ∷ cs) (mark Comma) ((ts ++ us) ++ rest) h in
    let light : 0 + sum (0 ∷ d ∷ cs) + suc (suc (length cs)) ≤ NESTING_LIMIT = restarted.0 in
    let first = f 0 (0 ∷ d ∷ cs) (us ++ rest) (omega (arith, light)) (apart (0, 0 ∷ d ∷ cs) ts us rest restarted.1) in
    let within : m + suc (suc (length cs)) ≤ NESTING_LIMIT = first.0 in
    let second = g 0 d cs rest l first.1 in
    (omega (arith, within, second.0), second.1)

-- commands and END end a block
one_body : (ts : List Lexeme) (at : Place) (n : ℕ) → Holds ts n → HoldsWithin (ts ++ keyword words.End at ∷ []) n
one_body ts at n f d cs rest l h =
    let held = f 0 (d ∷ cs) (keyword words.End at ∷ rest) l (apart (0, d ∷ cs) ts (keyword words.End at ∷ []) rest h) in
    (held.0, (next (0, d ∷ cs) (keyword words.End at) rest held.1).1)

-- commands, ELSE and what ends a block end it too
two_bodies : (ts us : List Lexeme) (at : Place) (m n : ℕ) → Holds ts m → HoldsWithin us n → HoldsWithin (ts ++ keyword words.Else at ∷ us) (max m n)
two_bodies ts us at m n f g d cs rest l h =
    let first = f 0 (d ∷ cs) (keyword words.Else at ∷ (us ++ rest)) l (apart (0, d ∷ cs) ts (keyword words.Else at ∷ us) rest h) in
    let within : m + suc (length cs) ≤ NESTING_LIMIT = first.0 in
    let second = g d cs rest l (next (0, d ∷ cs) (keyword words.Else at) (us ++ rest) first.1).1 in
    (omega (arith, within, second.0), second.1)

-- two lists, one behind the other, hold the greater number of blocks
one_more : (ts us : List Lexeme) (m n : ℕ) → Holds ts m → Holds us n → Holds (ts ++ us) (max m n)
one_more ts us m n f g c cs rest l h =
    let first = f c cs (us ++ rest) l (apart (c, cs) ts us rest h) in
    let second = g c cs rest l first.1 in
    (omega (arith, first.0, second.0), second.1)

mutual
  -- a command leaves all counters as they were, and its blocks fit
  command_holds : (ts : List Lexeme) (u : CommandTree) → IsCommand ts u → Holds ts (blocks u)
  command_holds ts u (Grammar.space {at}) = word_alone words.Space at refl
  command_holds ts u (Grammar.newline {at}) = word_alone words.Newline at refl
  command_holds ts u (Grammar.eof {at}) = word_alone words.Eof at refl
  command_holds ts u (Grammar.int {ts = ws} {us} {vs} {at} i j k) =
      no_blocks ts (called words.Int at ((ws ++ mark Comma ∷ us) ++ vs) refl (ends_over (ws ++ mark Comma ∷ us) vs (even (ws ++ mark Comma ∷ us) (over ws us (mark Comma) (tt, refl) (expr_balanced ws _ i) (expr_balanced us _ j))) (target_ends vs _ k)))
  command_holds ts u (Grammar.string {ts = us} {at} i) = no_blocks ts (asked words.String at us refl (even us (expr_balanced us _ i)))
  command_holds ts u (Grammar.regex {vs} {literal} {at} k) = no_blocks ts (called words.Regex at (Lexeme.text literal.bytes literal.place ∷ vs) refl (ends_over (Lexeme.text literal.bytes literal.place ∷ []) vs (even (Lexeme.text literal.bytes literal.place ∷ []) (Balanced.alone (tt, refl))) (target_ends vs _ k)))
  command_holds ts u (Grammar.assert {ts = us} {at} i) = no_blocks ts (asked words.Assert at us refl (even us (test_balanced us _ i)))
  command_holds ts u (Grammar.set {ts = us} {at} i) = no_blocks ts (asked words.Set at us refl (even us (assignments_balanced us _ i)))
  command_holds ts u (Grammar.unset {ts = us} {at} i) = no_blocks ts (asked words.Unset at us refl (even us (names_balanced us _ i)))
  command_holds ts u (Grammar.rep {ts = ws} {us} {between = separator} {body} {at} i r) = block words.Rep at ws us (max (separator_blocks separator) (list_blocks body)) refl (even ws (expr_balanced ws _ i)) (repeated_holds us separator body r)
  command_holds ts u (Grammar.repi {ts = ws} {us} {vs} {between = separator} {body} {at} i j r) =
      block words.RepI at (ws ++ mark Comma ∷ us) vs (max (separator_blocks separator) (list_blocks body)) refl (even (ws ++ mark Comma ∷ us) (over ws us (mark Comma) (tt, refl) (variable_balanced ws _ _ i) (expr_balanced us _ j))) (repeated_holds vs separator body r)
  command_holds ts u (Grammar.while {ts = ws} {us} {between = separator} {body} {at} i r) = block words.While at ws us (max (separator_blocks separator) (list_blocks body)) refl (even ws (test_balanced ws _ i)) (repeated_holds us separator body r)
  command_holds ts u (Grammar.whilei {ts = ws} {us} {vs} {between = separator} {body} {at} i j r) =
      block words.WhileI at (ws ++ mark Comma ∷ us) vs (max (separator_blocks separator) (list_blocks body)) refl (even (ws ++ mark Comma ∷ us) (over ws us (mark Comma) (tt, refl) (variable_balanced ws _ _ i) (test_balanced us _ j))) (repeated_holds vs separator body r)
  command_holds ts u (Grammar.choice {ts = ws} {us} {then_do} {else_do} {at} i r) =
      block words.If at ws (mark Close ∷ us) (max (list_blocks then_do) (list_blocks else_do)) refl (even ws (test_balanced ws _ i)) (closed us (max (list_blocks then_do) (list_blocks else_do)) (branches_hold us then_do else_do r))

  -- what follows the head of a loop holds so many blocks
  repeated_holds : (ts : List Lexeme) (separator : Separator) (body : CommandList) → IsRepeated ts separator body → HoldsBehind ts (max (separator_blocks separator) (list_blocks body))
  repeated_holds ts separator body (Grammar.without_separator {us} at i) = subst (HoldsBehind ts) (sym (zero-max (list_blocks body))) (closed (us ++ keyword words.End at ∷ []) (list_blocks body) (one_body us at (list_blocks body) (commands_hold us body i)))
  repeated_holds ts separator body (Grammar.with_separator {ts = ws} {us} {c} at i j) =
      subst (λ l. HoldsBehind (mark Comma ∷ l) (max (blocks c) (list_blocks body))) (sym (append_assoc ws (mark Close ∷ us) (keyword words.End at ∷ [])))
      (separator_behind ws (mark Close ∷ us ++ keyword words.End at ∷ []) (blocks c) (list_blocks body) (command_holds ws c i) (closed (us ++ keyword words.End at ∷ []) (list_blocks body) (one_body us at (list_blocks body) (commands_hold us body j))))

  -- what follows the head of an IF holds so many blocks
  branches_hold : (ts : List Lexeme) (then_do else_do : CommandList) → IsBranches ts then_do else_do → HoldsWithin ts (max (list_blocks then_do) (list_blocks else_do))
  branches_hold ts then_do else_do (Grammar.one_way {us} at i) = subst (HoldsWithin ts) (sym (max-zero (list_blocks then_do))) (one_body us at (list_blocks then_do) (commands_hold us then_do i))
  branches_hold ts then_do else_do (Grammar.two_ways {us} {vs} at else_at i j) =
      subst (λ l. HoldsWithin l (max (list_blocks then_do) (list_blocks else_do))) (sym (append_assoc us (keyword words.Else else_at ∷ vs) (keyword words.End at ∷ [])))
      (two_bodies us (vs ++ keyword words.End at ∷ []) else_at (list_blocks then_do) (list_blocks else_do) (commands_hold us then_do i) (one_body vs at (list_blocks else_do) (commands_hold vs else_do j)))

  -- commands one after the other hold so many blocks
  commands_hold : (ts : List Lexeme) (u : CommandList) → IsCommands ts u → Holds ts (list_blocks u)
  commands_hold ts u Grammar.done = no_blocks [] (λ c cs rest h. h)
  commands_hold ts u (Grammar.then {ts = ws} {us} {c} {rest} i j) = one_more ws us (blocks c) (list_blocks rest) (command_holds ws c i) (commands_hold us rest j)

-- where the tokens of commands do not nest too deep, their blocks do not either
pub blocks_within : (ts : List Lexeme) (tree : CommandList) → IsCommands ts tree → too_deep start ts ≡ None → list_blocks tree ≤ NESTING_LIMIT
blocks_within ts tree i h =
    let held = commands_hold ts tree i 0 [] [] (omega arith) (subst (IsLight start) (sym (append-nil ts)) h) in
    let within : list_blocks tree + 0 ≤ NESTING_LIMIT = held.0 in
    omega (arith, within)
