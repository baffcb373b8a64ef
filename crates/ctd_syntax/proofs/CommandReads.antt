-- A command is told by its word, and a list of commands ends where no word of a command follows.
use Rattle.std.proofs.Common.{◌≡◌, ◌⊎◌, inl, inr, ℕ, List, [], ◌∷◌, ◌++◌, true, false, Option, Some, None, refl, sym, ap, ◌∙◌, subst, append_assoc, append-nil, arith}
use Rattle.ctd_syntax.specs.Lexeme.{Lexeme, mark, keyword}
use Rattle.ctd_program.proofs.Trees.{joined}
use Rattle.ctd_program.specs.Tree
use Rattle.ctd_program.specs.Tree.{VarTree, GuardTree, CommandTree, CommandList, Separator}
use Rattle.ctd_syntax.specs.Grammar
use Rattle.ctd_syntax.specs.Grammar.{IsTarget, IsTargetEnd, IsCommand, IsCommands, IsRepeated, IsBranches}
use Rattle.ctd_syntax.specs.inner.Front.{OneTree, NoTree, Always, IsBefore, IsBuilt, IsPair, Spelling}
use Rattle.ctd_syntax.specs.inner.Levels.{ends}
use Rattle.ctd_syntax.specs.inner.TestGrammar.{test_ends}
use Rattle.ctd_syntax.specs.inner.CommandWords.{IsCommandRest, CommandsEnd, IsBlock, IsBranchEnd, IsAbsent, IsCounter, IsGuard, IsLoopRest, IsLoopEnd, IsPatternText, command_begins, is_command_word}
use Rattle.ctd_syntax.specs.declared.loop_head.LoopWord.{LoopWord}
use Rattle.ctd_syntax.specs.declared.loop_head.LoopWord.TheVariants.{Rep, RepI, While, WhileI}
use Rattle.ctd_token.specs.declared.text.Place.{Place}
use Rattle.ctd_token.specs.declared.token.Mark.TheVariants.{Open, Close, Comma}
use Rattle.ctd_syntax.specs.declared.keyword.Keyword.{Keyword}
use Rattle.ctd_syntax.specs.declared.keyword.Keyword.TheVariants as words
use Rattle.ctd_syntax.proofs.Fronts.{built, not_built}

-- an expression ends before the end of its command
pub before_target_end : (vs us : List Lexeme) (target : Option VarTree) → IsTargetEnd vs target → Always us → ends 1 (vs ++ us)
before_target_end vs us target Grammar.none h = omega arith
before_target_end vs us target (Grammar.some i) h = omega arith

-- the head of a loop ends before its end
pub before_loop_end : (vs us : List Lexeme) (x : Separator × CommandList) → IsLoopEnd vs x → Always us → test_ends 1 (vs ++ us)
before_loop_end vs us x (inl (none, (ts, is, i))) h = subst (λ l. test_ends 1 (l ++ us)) (sym is) (omega arith, omega arith)
before_loop_end vs us x (inr (c, some, (ts, is, i))) h = subst (λ l. test_ends 1 (l ++ us)) (sym is) (omega arith, omega arith)

-- a loop without a counter
pub no_counter : (tokens : List Lexeme) → OneTree IsAbsent Always tokens None tokens
no_counter tokens = record {
  front = [];
  split = refl;
  spells = (refl, refl);
  only = λ ts us u split h w. (w.1, sym (split ∙ ap (λ l. l ++ us) w.0));
}

-- a loop with one
pub counter_reads : (word : LoopWord) (tokens rest : List Lexeme) (v : VarTree) → (word ≡ RepI) ⊎ (word ≡ WhileI) → OneTree (IsBefore Comma IsTarget) Always tokens v rest → OneTree (IsCounter word) Always tokens (Some v) rest
counter_reads word tokens rest v (inl is) f = subst (λ w. OneTree (IsCounter w) Always tokens (Some v) rest) (sym is) (built Some (IsBefore Comma IsTarget) Always tokens rest v f)
counter_reads word tokens rest v (inr is) f = subst (λ w. OneTree (IsCounter w) Always tokens (Some v) rest) (sym is) (built Some (IsBefore Comma IsTarget) Always tokens rest v f)

pub counter_none : (word : LoopWord) (tokens : List Lexeme) → (word ≡ RepI) ⊎ (word ≡ WhileI) → NoTree (IsBefore Comma IsTarget) Always tokens → NoTree (IsCounter word) Always tokens
counter_none word tokens (inl is) not = subst (λ w. NoTree (IsCounter w) Always tokens) (sym is) (not_built Some (IsBefore Comma IsTarget) Always tokens not)
counter_none word tokens (inr is) not = subst (λ w. NoTree (IsCounter w) Always tokens) (sym is) (not_built Some (IsBefore Comma IsTarget) Always tokens not)

-- what ends a test ends an expression
pub ends_both : (us : List Lexeme) → test_ends 1 us → ends 1 us
ends_both [] h = tt
ends_both (t ∷ ts) h = h.1

-- commands end before ELSE and END
pub before_branch_end : (vs us : List Lexeme) (b : CommandList) → IsBranchEnd vs b → Always us → CommandsEnd (vs ++ us)
before_branch_end vs us b (inl (at, is, done)) h = subst (λ l. CommandsEnd (l ++ us)) (sym is) refl
before_branch_end vs us b (inr (at, ts, is, i)) h = subst (λ l. CommandsEnd (l ++ us)) (sym is) refl

-- whatever ends by itself
pub whatever : {T : Type 0} (A : Spelling T) (vs us : List Lexeme) (b : T) → A vs b → Always us → Always (vs ++ us)
whatever A vs us b i h = tt

-- a string with its place
pub pattern_found : (tokens rest : List Lexeme) (bytes : List ℕ) (at : Place) → tokens ≡ Lexeme.text bytes at ∷ rest → OneTree IsPatternText Always tokens (bytes, at) rest
pattern_found tokens rest bytes at e = record {
  front = Lexeme.text bytes at ∷ [];
  split = e;
  spells = refl;
  only = λ ts us u split h w. same_text (sym e ∙ split ∙ ap (λ l. l ++ us) w);
}
  where
    same_text : {bytes : List ℕ} {at : Place} {rest us : List Lexeme} {u : List ℕ × Place} → Lexeme.text bytes at ∷ rest ≡ Lexeme.text u.0 u.1 ∷ us → (u ≡ (bytes, at)) × (us ≡ rest)
    same_text {bytes} {at} {rest} {us} {u} e = let a : u.0 ≡ bytes = cc in let p : u.1 ≡ at = cc in let b : us ≡ rest = cc in (ap (λ x. (x, u.1)) a ∙ ap (λ x. (bytes, x)) p, b)

pub no_pattern : (tokens : List Lexeme) → ((bytes : List ℕ) (at : Place) (r : List Lexeme) → tokens ≡ Lexeme.text bytes at ∷ r → ⊥) → NoTree IsPatternText Always tokens
no_pattern tokens none ts us u split h w = none u.0 u.1 us (split ∙ ap (λ l. l ++ us) w)

-- the end of a loop as the grammar has it, and back
loop_end_from : (ts : List Lexeme) (between : Separator) (body : CommandList) → IsRepeated ts between body → IsLoopEnd ts (between, body)
loop_end_from ts b l (Grammar.without_separator {us} {body} at i) = inl (refl, (us ++ keyword words.End at ∷ [], refl, (us, at, refl, i)))
loop_end_from ts b l (Grammar.with_separator {ts = vs} {us} {c} {body} at i j) = inr (c, refl, ((vs ++ mark Close ∷ us) ++ keyword words.End at ∷ [], refl, (vs ++ mark Close ∷ [], us ++ keyword words.End at ∷ [], append_assoc vs (mark Close ∷ us) (keyword words.End at ∷ []) ∙ sym (append_assoc vs (mark Close ∷ []) (us ++ keyword words.End at ∷ [])), (vs, refl, i), (us, at, refl, j))))

loop_end_to : (ts : List Lexeme) (x : Separator × CommandList) → IsLoopEnd ts x → IsRepeated ts x.0 x.1
loop_end_to ts x (inl (none, (vs, closing, (us, at, ended, i)))) =
    subst (λ l. IsRepeated l x.0 x.1) (sym (closing ∙ ap (λ l. mark Close ∷ l) ended)) (subst (λ s. IsRepeated (mark Close ∷ us ++ keyword words.End at ∷ []) s x.1) (sym none) (Grammar.without_separator at i))
loop_end_to ts x (inr (c, some, (vs, comma, (us, ws, split, (cs, closing, i), (bs, at, ended, j))))) =
    let tokens : vs ≡ (cs ++ mark Close ∷ bs) ++ keyword words.End at ∷ [] =
    split ∙ ap (λ l. l ++ ws) closing ∙ append_assoc cs (mark Close ∷ []) ws ∙ ap (λ l. cs ++ mark Close ∷ l) ended ∙ sym (append_assoc cs (mark Close ∷ bs) (keyword words.End at ∷ [])) in
    subst (λ l. IsRepeated l x.0 x.1) (sym (comma ∙ ap (λ l. mark Comma ∷ l) tokens)) (subst (λ s. IsRepeated (mark Comma ∷ (cs ++ mark Close ∷ bs) ++ keyword words.End at ∷ []) s x.1) (sym some) (Grammar.with_separator at i j))

-- the branches of an IF as the grammar has them, and back
branches_from : (ts : List Lexeme) (a b : CommandList) → IsBranches ts a b → IsPair IsCommands IsBranchEnd ts (a, b)
branches_from ts a b (Grammar.one_way {us} at i) = (us, keyword words.End at ∷ [], refl, i, inl (at, refl, refl))
branches_from ts a b (Grammar.two_ways {us} {vs} at else_at i j) = (us, keyword words.Else else_at ∷ vs ++ keyword words.End at ∷ [], append_assoc us (keyword words.Else else_at ∷ vs) (keyword words.End at ∷ []), i, inr (else_at, vs ++ keyword words.End at ∷ [], refl, (vs, at, refl, j)))

branches_to : (ts : List Lexeme) (x : CommandList × CommandList) → IsPair IsCommands IsBranchEnd ts x → IsBranches ts x.0 x.1
branches_to ts x (us, vs, split, i, inl (at, ended, done)) =
    subst (λ l. IsBranches l x.0 x.1) (sym (split ∙ ap (λ l. us ++ l) ended)) (subst (λ b. IsBranches (us ++ keyword words.End at ∷ []) x.0 b) (sym done) (Grammar.one_way at i))
branches_to ts x (us, vs, split, i, inr (else_at, ws, parted, (bs, at, ended, j))) =
    subst (λ l. IsBranches l x.0 x.1) (sym (split ∙ ap (λ l. us ++ l) (parted ∙ ap (λ l. keyword words.Else else_at ∷ l) ended) ∙ sym (append_assoc us (keyword words.Else else_at ∷ bs) (keyword words.End at ∷ [])))) (Grammar.two_ways at else_at i j)

-- the head of a loop without a counter, and with one
head_alone : {T : Type 0} (A : Spelling T) (ts : List Lexeme) (x : T) → A ts x → IsPair IsAbsent A ts (None, x)
head_alone A ts x i = ([], ts, refl, (refl, refl), i)

head_counted : {T : Type 0} (A : Spelling T) (cs ts : List Lexeme) (v : VarTree) (x : T) → IsTarget cs v → A ts x → IsPair (IsBuilt Some (IsBefore Comma IsTarget)) A (cs ++ mark Comma ∷ ts) (Some v, x)
head_counted A cs ts v x i j = (cs ++ mark Comma ∷ [], ts, sym (append_assoc cs (mark Comma ∷ []) ts), (v, refl, (cs, refl, i)), j)

-- the parts of a loop, and its tokens behind the word
loop_from : (word : LoopWord) (at : Place) (ts us : List Lexeme) (counter : Option VarTree) (guard : GuardTree) (separator : Separator) (body : CommandList) → IsPair (IsCounter word) (IsGuard word) ts (counter, guard) → IsRepeated us separator body → IsLoopRest word at (mark Open ∷ ts ++ us) (Tree.loop at guard counter separator body)
loop_from word at ts us counter guard separator body i r = (((counter, guard), (separator, body)), refl, (mark Open ∷ ts, us, refl, (ts, refl, i), loop_end_from us separator body r))

-- a command is its word and what stands behind it
abbrev Worded : List Lexeme → CommandTree → Type 0
Worded ts u = (k : Keyword) × (at : Place) × (vs : List Lexeme) × (ts ≡ keyword k at ∷ vs) × (is_command_word k ≡ true) × IsCommandRest k at vs u

worded : (ts : List Lexeme) (u : CommandTree) → IsCommand ts u → Worded ts u
worded ts u (Grammar.space {at}) = (words.Space, at, [], refl, refl, (refl, refl))
worded ts u (Grammar.newline {at}) = (words.Newline, at, [], refl, refl, (refl, refl))
worded ts u (Grammar.eof {at}) = (words.Eof, at, [], refl, refl, (refl, refl))
worded ts u (Grammar.int {ts = ls} {us = hs} {vs} {low} {high} {target} {at} i j e) = (words.Int, at, mark Open ∷ (ls ++ mark Comma ∷ hs) ++ vs, refl, refl, ((low, (high, target)), refl, ((ls ++ mark Comma ∷ hs) ++ vs, refl, (ls ++ mark Comma ∷ [], hs ++ vs, append_assoc ls (mark Comma ∷ hs) vs ∙ sym (append_assoc ls (mark Comma ∷ []) (hs ++ vs)), (ls, refl, i), (hs, vs, refl, j, e)))))
worded ts u (Grammar.string {ts = es} {e} {at} i) = (words.String, at, mark Open ∷ es ++ mark Close ∷ [], refl, refl, (e, refl, (es ++ mark Close ∷ [], refl, (es, refl, i))))
worded ts u (Grammar.regex {vs} {literal} {target} {at} e) = (words.Regex, at, mark Open ∷ Lexeme.text literal.bytes literal.place ∷ vs, refl, refl, (((literal.bytes, literal.place), target), refl, (Lexeme.text literal.bytes literal.place ∷ vs, refl, (Lexeme.text literal.bytes literal.place ∷ [], vs, refl, refl, e))))
worded ts u (Grammar.assert {ts = es} {t} {at} i) = (words.Assert, at, mark Open ∷ es ++ mark Close ∷ [], refl, refl, (t, refl, (es ++ mark Close ∷ [], refl, (es, refl, i))))
worded ts u (Grammar.set {ts = es} {assignments} {at} i) = (words.Set, at, mark Open ∷ es ++ mark Close ∷ [], refl, refl, (assignments, refl, (es ++ mark Close ∷ [], refl, (es, refl, i))))
worded ts u (Grammar.unset {ts = es} {names} {at} i) = (words.Unset, at, mark Open ∷ es ++ mark Close ∷ [], refl, refl, (names, refl, (es ++ mark Close ∷ [], refl, (es, refl, i))))
worded ts u (Grammar.rep {ts = es} {us} {count} {between = separator} {body} {at} i r) = (words.Rep, at, mark Open ∷ es ++ us, refl, refl, loop_from Rep at es us None (Tree.turns count) separator body (head_alone (IsGuard Rep) es (Tree.turns count) (count, refl, i)) r)
worded ts u (Grammar.repi {ts = cs} {us = es} {vs} {counter} {count} {between = separator} {body} {at} i j r) = (words.RepI, at, mark Open ∷ (cs ++ mark Comma ∷ es) ++ vs, refl, refl, loop_from RepI at (cs ++ mark Comma ∷ es) vs (Some counter) (Tree.turns count) separator body (head_counted (IsGuard RepI) cs es counter (Tree.turns count) i (count, refl, j)) r)
worded ts u (Grammar.while {ts = es} {us} {t} {between = separator} {body} {at} i r) = (words.While, at, mark Open ∷ es ++ us, refl, refl, loop_from While at es us None (Tree.while t) separator body (head_alone (IsGuard While) es (Tree.while t) (t, refl, i)) r)
worded ts u (Grammar.whilei {ts = cs} {us = es} {vs} {counter} {t} {between = separator} {body} {at} i j r) = (words.WhileI, at, mark Open ∷ (cs ++ mark Comma ∷ es) ++ vs, refl, refl, loop_from WhileI at (cs ++ mark Comma ∷ es) vs (Some counter) (Tree.while t) separator body (head_counted (IsGuard WhileI) cs es counter (Tree.while t) i (t, refl, j)) r)
worded ts u (Grammar.choice {ts = es} {us} {t} {then_do} {else_do} {at} i b) = (words.If, at, mark Open ∷ (es ++ mark Close ∷ us), refl, refl, ((t, (then_do, else_do)), refl, (es ++ mark Close ∷ us, refl, (es ++ mark Close ∷ [], us, sym (append_assoc es (mark Close ∷ []) us), (es, refl, i), branches_from us then_do else_do b))))

-- what stands between the parentheses of a command with a comma
paired : (ts us ws ls hs es : List Lexeme) → ts ≡ us ++ ws → us ≡ ls ++ mark Comma ∷ [] → ws ≡ hs ++ es → ts ≡ (ls ++ mark Comma ∷ hs) ++ es
paired ts us ws ls hs es split comma ends_so = split ∙ ap (λ l. l ++ ws) comma ∙ append_assoc ls (mark Comma ∷ []) ws ∙ ap (λ l. ls ++ mark Comma ∷ l) ends_so ∙ sym (append_assoc ls (mark Comma ∷ hs) es)

-- a loop by its parts
loop_as : (k : Keyword) (at : Place) (vs ts : List Lexeme) (u : CommandTree) (x : (Option VarTree × GuardTree) × (Separator × CommandList)) (counter : Option VarTree) (guard : GuardTree) → vs ≡ ts → u ≡ Tree.loop at x.0.1 x.0.0 x.1.0 x.1.1 → x.0.0 ≡ counter → x.0.1 ≡ guard → IsCommand (keyword k at ∷ ts) (Tree.loop at guard counter x.1.0 x.1.1) → IsCommand (keyword k at ∷ vs) u
loop_as k at vs ts u x counter guard is tree counts goes_on i =
    let parts : u ≡ Tree.loop at guard counter x.1.0 x.1.1 = tree ∙ ap (λ g. Tree.loop at g x.0.0 x.1.0 x.1.1) goes_on ∙ ap (λ v. Tree.loop at guard v x.1.0 x.1.1) counts in
    subst (λ l. IsCommand (keyword k at ∷ l) u) (sym is) (subst (IsCommand _) (sym parts) i)

-- the tokens of a loop behind its word
headed : (vs hs ls ts cs es : List Lexeme) → vs ≡ hs ++ ls → hs ≡ mark Open ∷ ts → ts ≡ cs ++ es → vs ≡ mark Open ∷ (cs ++ es) ++ ls
headed vs hs ls ts cs es split opened parted = split ∙ ap (λ l. l ++ ls) (opened ∙ ap (λ l. mark Open ∷ l) parted)

headed_alone : (vs hs ls ts cs es : List Lexeme) → vs ≡ hs ++ ls → hs ≡ mark Open ∷ ts → ts ≡ cs ++ es → cs ≡ [] → vs ≡ mark Open ∷ es ++ ls
headed_alone vs hs ls ts cs es split opened parted none = headed vs hs ls ts cs es split opened parted ∙ ap (λ l. mark Open ∷ (l ++ es) ++ ls) none

headed_counted : (vs hs ls ts cs es bs : List Lexeme) → vs ≡ hs ++ ls → hs ≡ mark Open ∷ ts → ts ≡ cs ++ es → cs ≡ bs ++ mark Comma ∷ [] → vs ≡ mark Open ∷ (bs ++ mark Comma ∷ es) ++ ls
headed_counted vs hs ls ts cs es bs split opened parted comma = headed vs hs ls ts cs es split opened parted ∙ ap (λ l. mark Open ∷ (l ++ es) ++ ls) comma ∙ ap (λ l. mark Open ∷ l ++ ls) (append_assoc bs (mark Comma ∷ []) es)

-- what stands behind its word makes a command
pub command_of : (k : Keyword) (at : Place) (vs : List Lexeme) (u : CommandTree) → IsCommandRest k at vs u → IsCommand (keyword k at ∷ vs) u
command_of words.Space at vs u (none, tree) = subst (λ l. IsCommand (keyword words.Space at ∷ l) u) (sym none) (subst (IsCommand _) (sym tree) Grammar.space)
command_of words.Newline at vs u (none, tree) = subst (λ l. IsCommand (keyword words.Newline at ∷ l) u) (sym none) (subst (IsCommand _) (sym tree) Grammar.newline)
command_of words.Eof at vs u (none, tree) = subst (λ l. IsCommand (keyword words.Eof at ∷ l) u) (sym none) (subst (IsCommand _) (sym tree) Grammar.eof)
command_of words.Int at vs u (x, tree, (ts, opened, (us, ws, split, (ls, comma, i), (hs, es, ends_so, j, e)))) =
    subst (λ l. IsCommand (keyword words.Int at ∷ l) u) (sym (opened ∙ ap (λ l. mark Open ∷ l) (paired ts us ws ls hs es split comma ends_so))) (subst (IsCommand _) (sym tree) (Grammar.int i j e))
command_of words.String at vs u (x, tree, (ts, opened, (es, closing, i))) =
    subst (λ l. IsCommand (keyword words.String at ∷ l) u) (sym (opened ∙ ap (λ l. mark Open ∷ l) closing)) (subst (IsCommand _) (sym tree) (Grammar.string i))
command_of words.Regex at vs u (x, tree, (ts, opened, (us, ws, split, pattern, e))) =
    subst (λ l. IsCommand (keyword words.Regex at ∷ l) u) (sym (opened ∙ ap (λ l. mark Open ∷ l) (split ∙ ap (λ l. l ++ ws) pattern))) (subst (IsCommand _) (sym tree) (Grammar.regex e))
command_of words.Assert at vs u (x, tree, (ts, opened, (es, closing, i))) =
    subst (λ l. IsCommand (keyword words.Assert at ∷ l) u) (sym (opened ∙ ap (λ l. mark Open ∷ l) closing)) (subst (IsCommand _) (sym tree) (Grammar.assert i))
command_of words.Set at vs u (x, tree, (ts, opened, (es, closing, i))) =
    subst (λ l. IsCommand (keyword words.Set at ∷ l) u) (sym (opened ∙ ap (λ l. mark Open ∷ l) closing)) (subst (IsCommand _) (sym tree) (Grammar.set i))
command_of words.Unset at vs u (x, tree, (ts, opened, (es, closing, i))) =
    subst (λ l. IsCommand (keyword words.Unset at ∷ l) u) (sym (opened ∙ ap (λ l. mark Open ∷ l) closing)) (subst (IsCommand _) (sym tree) (Grammar.unset i))
command_of words.Rep at vs u (x, tree, (hs, ls, split, (ts, opened, (cs, es, parted, (none, alone), (goes_on, guard, i))), r)) =
    loop_as words.Rep at vs (mark Open ∷ es ++ ls) u x None (Tree.turns goes_on) (headed_alone vs hs ls ts cs es split opened parted none) tree alone guard (Grammar.rep i (loop_end_to ls x.1 r))
command_of words.RepI at vs u (x, tree, (hs, ls, split, (ts, opened, (cs, es, parted, (v, counts, (bs, comma, i)), (goes_on, guard, j))), r)) =
    loop_as words.RepI at vs (mark Open ∷ (bs ++ mark Comma ∷ es) ++ ls) u x (Some v) (Tree.turns goes_on) (headed_counted vs hs ls ts cs es bs split opened parted comma) tree counts guard (Grammar.repi i j (loop_end_to ls x.1 r))
command_of words.While at vs u (x, tree, (hs, ls, split, (ts, opened, (cs, es, parted, (none, alone), (goes_on, guard, i))), r)) =
    loop_as words.While at vs (mark Open ∷ es ++ ls) u x None (Tree.while goes_on) (headed_alone vs hs ls ts cs es split opened parted none) tree alone guard (Grammar.while i (loop_end_to ls x.1 r))
command_of words.WhileI at vs u (x, tree, (hs, ls, split, (ts, opened, (cs, es, parted, (v, counts, (bs, comma, i)), (goes_on, guard, j))), r)) =
    loop_as words.WhileI at vs (mark Open ∷ (bs ++ mark Comma ∷ es) ++ ls) u x (Some v) (Tree.while goes_on) (headed_counted vs hs ls ts cs es bs split opened parted comma) tree counts guard (Grammar.whilei i j (loop_end_to ls x.1 r))
command_of words.If at vs u (x, tree, (ts, opened, (us, ws, split, (es, closing, i), b))) =
    subst (λ l. IsCommand (keyword words.If at ∷ l) u) (sym (opened ∙ ap (λ l. mark Open ∷ l) (split ∙ ap (λ l. l ++ ws) closing ∙ append_assoc es (mark Close ∷ []) ws))) (subst (IsCommand _) (sym tree) (Grammar.choice i (branches_to ws x.1 b)))
command_of _ at vs u w = absurd w

-- a command is behind a word at the front
begins_worded : (tokens r ts us : List Lexeme) (k : Keyword) (at : Place) (u : CommandTree) → tokens ≡ keyword k at ∷ r → tokens ≡ ts ++ us → IsCommand ts u → (vs : List Lexeme) × (r ≡ vs ++ us) × IsCommandRest k at vs u
begins_worded tokens r ts us k at u e split w =
    let is = worded ts u w in
    let whole : keyword k at ∷ r ≡ keyword is.0 is.1 ∷ (is.2 ++ us) = sym e ∙ split ∙ ap (λ l. l ++ us) is.3 in
    let word : is.0 ≡ k = cc in
    let place : is.1 ≡ at = cc in
    let tail : r ≡ is.2 ++ us = cc in
    (is.2, tail, subst (λ p. IsCommandRest k p is.2 u) place (subst (λ x. IsCommandRest x is.1 is.2 u) word is.5))

pub command_reads : (tokens r : List Lexeme) (k : Keyword) (at : Place) → tokens ≡ keyword k at ∷ r → (u : CommandTree) (after : List Lexeme) → OneTree (IsCommandRest k at) Always r u after → OneTree IsCommand Always tokens u after
command_reads tokens r k at e u after f = record {
  front = keyword k at ∷ f.front;
  split = e ∙ ap (λ l. keyword k at ∷ l) f.split;
  spells = command_of k at f.front u f.spells;
  only = λ ts us v split h w.
      let i = begins_worded tokens r ts us k at v e split w in
      f.only i.0 us v i.1 tt i.2;
}

pub command_none : (tokens r : List Lexeme) (k : Keyword) (at : Place) → tokens ≡ keyword k at ∷ r → NoTree (IsCommandRest k at) Always r → NoTree IsCommand Always tokens
command_none tokens r k at e not ts us v split h w = let i = begins_worded tokens r ts us k at v e split w in not i.0 us v i.1 tt i.2

-- a word of a command begins one
pub begins_at : (tokens r : List Lexeme) (k : Keyword) (at : Place) → tokens ≡ keyword k at ∷ r → is_command_word k ≡ true → command_begins tokens ≡ true
begins_at tokens r k at e word = ap command_begins e ∙ word

-- no commands behind others
pub joined_done : (a : CommandList) → joined a Tree.done ≡ a
joined_done Tree.done = refl
joined_done (Tree.then c rest) = ap (Tree.then c) (joined_done rest)

-- three lists of commands, one behind the other
pub joined_again : (a b c : CommandList) → joined (joined a b) c ≡ joined a (joined b c)
joined_again Tree.done b c = refl
joined_again (Tree.then x rest) b c = ap (Tree.then x) (joined_again rest b c)

-- one more command at the end
pub extend : (ts us : List Lexeme) (xs : CommandList) (c : CommandTree) → IsCommands ts xs → IsCommand us c → IsCommands (ts ++ us) (joined xs (Tree.then c Tree.done))
extend ts us xs c Grammar.done w = subst (λ l. IsCommands l (Tree.then c Tree.done)) (append-nil us) (Grammar.then w Grammar.done)
extend ts us xs c (Grammar.then {ts = vs} {us = ws} {c = d} {rest} i r) w = subst (λ l. IsCommands l (Tree.then d (joined rest (Tree.then c Tree.done)))) (sym (append_assoc vs ws us)) (Grammar.then i (extend ws us rest c r w))

-- what is read of a list of commands: each reading of all the tokens begins with it
pub record PartCommands (tokens : List Lexeme) (xs : CommandList) (rest : List Lexeme) : Type 0 where
  pub front : List Lexeme
  pub split : tokens ≡ front ++ rest
  pub spells : IsCommands front xs
  pub only : (ts us : List Lexeme) (u : CommandList) → tokens ≡ ts ++ us → CommandsEnd us → IsCommands ts u → (vs : List Lexeme) × (w : CommandList) × (rest ≡ vs ++ us) × IsCommands vs w × (u ≡ joined xs w)

pub commands_start : (tokens : List Lexeme) → PartCommands tokens Tree.done tokens
commands_start tokens = record { front = []; split = refl; spells = Grammar.done; only = λ ts us u split h w. (ts, u, split, w, refl) }

-- commands where one begins are that one and further ones
first_of : (rest vs us : List Lexeme) (w : CommandList) → command_begins rest ≡ true → rest ≡ vs ++ us → CommandsEnd us → IsCommands vs w → (ts ws : List Lexeme) × (c : CommandTree) × (more : CommandList) × (rest ≡ ts ++ (ws ++ us)) × IsCommand ts c × IsCommands ws more × (w ≡ Tree.then c more)
first_of rest vs us w begins split ended Grammar.done = absurd (let clash : true ≡ false = sym begins ∙ ap command_begins split ∙ ended in cc)
first_of rest vs us w begins split ended (Grammar.then {ts} {us = ws} {c} {rest = more} i r) = (ts, ws, c, more, split ∙ append_assoc ts ws us, i, r, refl)

pub commands_next : (tokens rest after : List Lexeme) (xs : CommandList) (c : CommandTree) → PartCommands tokens xs rest → command_begins rest ≡ true → OneTree IsCommand Always rest c after → PartCommands tokens (joined xs (Tree.then c Tree.done)) after
commands_next tokens rest after xs c part begins f = record {
  front = part.front ++ f.front;
  split = part.split ∙ ap (λ l. part.front ++ l) f.split ∙ sym (append_assoc part.front f.front after);
  spells = extend part.front f.front xs c part.spells f.spells;
  only = λ ts us u split h w.
      let p = part.only ts us u split h w in
      let q = first_of rest p.0 us p.1 begins p.2 h p.3 in
      let same = f.only q.0 (q.1 ++ us) q.2 q.4 tt q.5 in
      (q.1, q.3, sym same.1, q.6, p.4 ∙ ap (joined xs) (q.7 ∙ ap (λ x. Tree.then x q.3) same.0) ∙ sym (joined_again xs (Tree.then c Tree.done) q.3));
}

pub commands_no_next : (tokens rest : List Lexeme) (xs : CommandList) → PartCommands tokens xs rest → command_begins rest ≡ true → NoTree IsCommand Always rest → NoTree IsCommands CommandsEnd tokens
commands_no_next tokens rest xs part begins not ts us u split h w =
    let p = part.only ts us u split h w in
    let q = first_of rest p.0 us p.1 begins p.2 h p.3 in
    not q.0 (q.1 ++ us) q.2 q.4 tt q.5

-- a command begins with the word of one
pub command_heads : (ts us : List Lexeme) (c : CommandTree) → IsCommand ts c → command_begins (ts ++ us) ≡ true
command_heads ts us c w = let is = worded ts c w in ap (λ l. command_begins (l ++ us)) is.3 ∙ is.4

-- where none begins there are none
no_first : (rest vs us : List Lexeme) (w : CommandList) → command_begins rest ≡ false → rest ≡ vs ++ us → IsCommands vs w → (vs ≡ []) × (w ≡ Tree.done)
no_first rest vs us w none split Grammar.done = (refl, refl)
no_first rest vs us w none split (Grammar.then {ts} {us = ws} {c} i r) = absurd (let clash : false ≡ true = sym none ∙ ap command_begins (split ∙ append_assoc ts ws us) ∙ command_heads ts (ws ++ us) c i in cc)

pub commands_end : (tokens rest : List Lexeme) (xs : CommandList) → PartCommands tokens xs rest → command_begins rest ≡ false → OneTree IsCommands CommandsEnd tokens xs rest
commands_end tokens rest xs part none = record {
  front = part.front;
  split = part.split;
  spells = part.spells;
  only = λ ts us u split h w.
      let p = part.only ts us u split h w in
      let n = no_first rest p.0 us p.1 none p.2 p.3 in
      (p.4 ∙ ap (joined xs) n.1 ∙ joined_done xs, sym (p.2 ∙ ap (λ l. l ++ us) n.0));
}

-- the end of a loop without a separator
pub loop_end_plain : (tokens r after : List Lexeme) (body : CommandList) → tokens ≡ mark Close ∷ r → OneTree IsBlock Always r body after → OneTree IsLoopEnd Always tokens (Tree.nothing, body) after
loop_end_plain tokens r after body e f = record {
  front = mark Close ∷ f.front;
  split = e ∙ ap (λ l. mark Close ∷ l) f.split;
  spells = inl (refl, (f.front, refl, f.spells));
  only = λ ts us u split h w. plain_only ts us u (sym e ∙ split) w;
}
  where
    plain_only : (ts us : List Lexeme) (u : Separator × CommandList) → mark Close ∷ r ≡ ts ++ us → IsLoopEnd ts u → (u ≡ (Tree.nothing, body)) × (us ≡ after)
    plain_only ts us u split (inl (none, (vs, is, i))) =
        let whole : mark Close ∷ r ≡ mark Close ∷ (vs ++ us) = split ∙ ap (λ l. l ++ us) is in
        let tail : r ≡ vs ++ us = cc in
        let same = f.only vs us u.1 tail tt i in
        (ap (λ x. (x, u.1)) none ∙ ap (λ x. (Tree.nothing, x)) same.0, same.1)
    plain_only ts us u split (inr (c, some, (vs, is, i))) = absurd (let clash : mark Close ∷ r ≡ mark Comma ∷ (vs ++ us) = split ∙ ap (λ l. l ++ us) is in cc)

pub loop_end_no_block : (tokens r : List Lexeme) → tokens ≡ mark Close ∷ r → NoTree IsBlock Always r → NoTree IsLoopEnd Always tokens
loop_end_no_block tokens r e not ts us u split h w = plain_none ts us u (sym e ∙ split) w
  where
    plain_none : (ts us : List Lexeme) (u : Separator × CommandList) → mark Close ∷ r ≡ ts ++ us → IsLoopEnd ts u → ⊥
    plain_none ts us u split (inl (none, (vs, is, i))) =
        let whole : mark Close ∷ r ≡ mark Close ∷ (vs ++ us) = split ∙ ap (λ l. l ++ us) is in
        let tail : r ≡ vs ++ us = cc in
        not vs us u.1 tail tt i
    plain_none ts us u split (inr (c, some, (vs, is, i))) = let clash : mark Close ∷ r ≡ mark Comma ∷ (vs ++ us) = split ∙ ap (λ l. l ++ us) is in cc

-- a separator and a block
abbrev pub IsSeparated : Spelling (CommandTree × CommandList)
IsSeparated = IsPair (IsBefore Close IsCommand) IsBlock

-- the end of a loop with one
pub loop_end_separated : (tokens r after : List Lexeme) (c : CommandTree) (body : CommandList) → tokens ≡ mark Comma ∷ r → OneTree IsSeparated Always r (c, body) after → OneTree IsLoopEnd Always tokens (Tree.between c, body) after
loop_end_separated tokens r after c body e f = record {
  front = mark Comma ∷ f.front;
  split = e ∙ ap (λ l. mark Comma ∷ l) f.split;
  spells = inr (c, refl, (f.front, refl, f.spells));
  only = λ ts us u split h w. separated_only ts us u (sym e ∙ split) w;
}
  where
    separated_only : (ts us : List Lexeme) (u : Separator × CommandList) → mark Comma ∷ r ≡ ts ++ us → IsLoopEnd ts u → (u ≡ (Tree.between c, body)) × (us ≡ after)
    separated_only ts us u split (inl (none, (vs, is, i))) = absurd (let clash : mark Comma ∷ r ≡ mark Close ∷ (vs ++ us) = split ∙ ap (λ l. l ++ us) is in cc)
    separated_only ts us u split (inr (d, some, (vs, is, i))) =
        let whole : mark Comma ∷ r ≡ mark Comma ∷ (vs ++ us) = split ∙ ap (λ l. l ++ us) is in
        let tail : r ≡ vs ++ us = cc in
        let same = f.only vs us (d, u.1) tail tt i in
        (ap (λ x. (x, u.1)) some ∙ ap (λ x. (Tree.between x.0, x.1)) same.0, same.1)

pub loop_end_no_separated : (tokens r : List Lexeme) → tokens ≡ mark Comma ∷ r → NoTree IsSeparated Always r → NoTree IsLoopEnd Always tokens
loop_end_no_separated tokens r e not ts us u split h w = separated_none ts us u (sym e ∙ split) w
  where
    separated_none : (ts us : List Lexeme) (u : Separator × CommandList) → mark Comma ∷ r ≡ ts ++ us → IsLoopEnd ts u → ⊥
    separated_none ts us u split (inl (none, (vs, is, i))) = let clash : mark Comma ∷ r ≡ mark Close ∷ (vs ++ us) = split ∙ ap (λ l. l ++ us) is in cc
    separated_none ts us u split (inr (d, some, (vs, is, i))) =
        let whole : mark Comma ∷ r ≡ mark Comma ∷ (vs ++ us) = split ∙ ap (λ l. l ++ us) is in
        let tail : r ≡ vs ++ us = cc in
        not vs us (d, u.1) tail tt i

-- the end of an IF
pub branch_ended : (tokens r : List Lexeme) (at : Place) → tokens ≡ keyword words.End at ∷ r → OneTree IsBranchEnd Always tokens Tree.done r
branch_ended tokens r at e = record {
  front = keyword words.End at ∷ [];
  split = e;
  spells = inl (at, refl, refl);
  only = λ ts us u split h w. ended_only ts us u (sym e ∙ split) w;
}
  where
    ended_only : (ts us : List Lexeme) (u : CommandList) → keyword words.End at ∷ r ≡ ts ++ us → IsBranchEnd ts u → (u ≡ Tree.done) × (us ≡ r)
    ended_only ts us u split (inl (place, is, tree)) =
        let whole : keyword words.End at ∷ r ≡ keyword words.End place ∷ us = split ∙ ap (λ l. l ++ us) is in
        let tail : us ≡ r = cc in
        (tree, tail)
    ended_only ts us u split (inr (place, vs, is, i)) = absurd (let clash : keyword words.End at ∷ r ≡ keyword words.Else place ∷ (vs ++ us) = split ∙ ap (λ l. l ++ us) is in cc)

pub branch_goes_on : (tokens r : List Lexeme) (at : Place) → tokens ≡ keyword words.Else at ∷ r → (body : CommandList) (after : List Lexeme) → OneTree IsBlock Always r body after → OneTree IsBranchEnd Always tokens body after
branch_goes_on tokens r at e body after f = record {
  front = keyword words.Else at ∷ f.front;
  split = e ∙ ap (λ l. keyword words.Else at ∷ l) f.split;
  spells = inr (at, f.front, refl, f.spells);
  only = λ ts us u split h w. block_only ts us u (sym e ∙ split) w;
}
  where
    block_only : (ts us : List Lexeme) (u : CommandList) → keyword words.Else at ∷ r ≡ ts ++ us → IsBranchEnd ts u → (u ≡ body) × (us ≡ after)
    block_only ts us u split (inl (place, is, tree)) = absurd (let clash : keyword words.Else at ∷ r ≡ keyword words.End place ∷ us = split ∙ ap (λ l. l ++ us) is in cc)
    block_only ts us u split (inr (place, vs, is, i)) =
        let whole : keyword words.Else at ∷ r ≡ keyword words.Else place ∷ (vs ++ us) = split ∙ ap (λ l. l ++ us) is in
        let tail : r ≡ vs ++ us = cc in
        f.only vs us u tail tt i

pub branch_no_block : (tokens r : List Lexeme) (at : Place) → tokens ≡ keyword words.Else at ∷ r → NoTree IsBlock Always r → NoTree IsBranchEnd Always tokens
branch_no_block tokens r at e not ts us u split h w = block_none ts us u (sym e ∙ split) w
  where
    block_none : (ts us : List Lexeme) (u : CommandList) → keyword words.Else at ∷ r ≡ ts ++ us → IsBranchEnd ts u → ⊥
    block_none ts us u split (inl (place, is, tree)) = let clash : keyword words.Else at ∷ r ≡ keyword words.End place ∷ us = split ∙ ap (λ l. l ++ us) is in cc
    block_none ts us u split (inr (place, vs, is, i)) =
        let whole : keyword words.Else at ∷ r ≡ keyword words.Else place ∷ (vs ++ us) = split ∙ ap (λ l. l ++ us) is in
        let tail : r ≡ vs ++ us = cc in
        not vs us u tail tt i

-- neither END nor ELSE
pub branch_other : (tokens : List Lexeme) → ((at : Place) (r : List Lexeme) → tokens ≡ keyword words.End at ∷ r → ⊥) → ((at : Place) (r : List Lexeme) → tokens ≡ keyword words.Else at ∷ r → ⊥) → NoTree IsBranchEnd Always tokens
branch_other tokens no_end no_else ts us u split h (inl (at, is, tree)) = no_end at us (split ∙ ap (λ l. l ++ us) is)
branch_other tokens no_end no_else ts us u split h (inr (at, vs, is, i)) = no_else at (vs ++ us) (split ∙ ap (λ l. l ++ us) is)

-- neither a parenthesis nor a comma
pub loop_end_other : (tokens : List Lexeme) → ((r : List Lexeme) → tokens ≡ mark Close ∷ r → ⊥) → ((r : List Lexeme) → tokens ≡ mark Comma ∷ r → ⊥) → NoTree IsLoopEnd Always tokens
loop_end_other tokens not_closed not_comma ts us u split h (inl (none, (vs, is, i))) = not_closed (vs ++ us) (split ∙ ap (λ l. l ++ us) is)
loop_end_other tokens not_closed not_comma ts us u split h (inr (c, some, (vs, is, i))) = not_comma (vs ++ us) (split ∙ ap (λ l. l ++ us) is)

-- no command where none begins
pub no_command : (tokens : List Lexeme) → command_begins tokens ≡ false → NoTree IsCommand Always tokens
no_command tokens none ts us u split h w = let clash : false ≡ true = sym none ∙ ap command_begins split ∙ command_heads ts us u w in cc
