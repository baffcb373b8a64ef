-- Commands, whatever follows.
use Rattle.std.proofs.Common.{◌≡◌, ◌⊎◌, inl, inr, ℕ, List, [], ◌∷◌, ◌++◌, length, true, false, Some, None, refl, sym, ap, ◌∙◌, subst, append_assoc}
use Rattle.std.proofs.lemmas.List.{append_cancel_right}
use Rattle.ctd_syntax.specs.Lexeme.{Lexeme, mark, keyword}
use Rattle.ctd_program.proofs.Trees.{joined}
use Rattle.ctd_program.specs.Tree
use Rattle.ctd_program.specs.Tree.{ExprTree, TestTree, VarTree, GuardTree, CommandTree, CommandList, Separator}
use Rattle.ctd_syntax.specs.Grammar
use Rattle.ctd_syntax.specs.Grammar.{IsExpr, IsTest, IsTarget, IsTargetEnd, IsCommand, IsCommands}
use Rattle.ctd_syntax.specs.inner.Front.{Stays, OneTree, NoTree, HasTree, HasNoTree, Always, IsBefore, IsAfter, IsBuilt, IsPair, Spelling, Following, first_of}
use Rattle.ctd_syntax.specs.inner.Levels.{ends}
use Rattle.ctd_syntax.specs.inner.TestGrammar.{test_ends}
use Rattle.ctd_syntax.specs.inner.CommandWords.{IsCommandRest, CommandsEnd, IsBlock, IsBranchEnd, IsCounter, IsGuard, IsLoopEnd, IsPatternText, command_begins, begins_command}
use Rattle.ctd_syntax.specs.declared.loop_head.LoopWord.{LoopWord}
use Rattle.ctd_syntax.specs.declared.loop_head.LoopWord.TheVariants.{Rep, RepI, While, WhileI}
use Rattle.ctd_token.specs.declared.text.Place.{Place}
use Rattle.ctd_token.specs.declared.token.Mark.{Mark}
use Rattle.ctd_token.specs.declared.token.Mark.TheVariants.{Open, Close, Comma}
use Rattle.ctd_syntax.specs.declared.keyword.Keyword.{Keyword}
use Rattle.ctd_syntax.specs.declared.keyword.Keyword.TheVariants as words
use Rattle.ctd_syntax.proofs.CommandReads as here
use Rattle.ctd_syntax.proofs.CommandReads.{IsSeparated, ends_both, command_of, extend}
use Rattle.ctd_syntax.proofs.Boundaries.{found_begins}
use Rattle.ctd_syntax.proofs.Fronts as fronts
use Rattle.ctd_syntax.proofs.Staying.{so, and_then, one_read, not_then, same_first, none_same, none_behind, none_first_at, whole}
use Rattle.ctd_syntax.proofs.StayFronts.{Possible, some_place, built, not_built, after_reads, after_none, not_after}
use Rattle.ctd_syntax.proofs.StayAtoms.{some_expr}
use Rattle.ctd_syntax.proofs.StayTargets.{some_target, some_target_end}

-- shortest ones
abbrev pub pair_of : {T U : Type 0} (A : Spelling T) (B : Spelling U) → Possible A → Possible B → Possible (IsPair A B)
pair_of A B p q = (p.0 ++ q.0, (p.1, q.1), (p.0, q.0, refl, p.2, q.2))

abbrev pub before_of : {T : Type 0} (m : Mark) (A : Spelling T) → Possible A → Possible (IsBefore m A)
before_of m A p = (p.0 ++ mark m ∷ [], p.1, (p.0, refl, p.2))

pub some_test : Possible IsTest
some_test = (keyword words.IsEof some_place ∷ [], Tree.at_end, Grammar.both (Grammar.negation (Grammar.simple Grammar.at_end)))

pub some_command : Possible IsCommand
some_command = (keyword words.Space some_place ∷ [], Tree.space some_place, Grammar.space)

pub some_block : Possible IsBlock
some_block = (keyword words.End some_place ∷ [], Tree.done, ([], some_place, refl, Grammar.done))

pub some_branch_end : Possible IsBranchEnd
some_branch_end = (keyword words.End some_place ∷ [], Tree.done, inl (some_place, refl, refl))

pub some_branches : Possible (IsPair IsCommands IsBranchEnd)
some_branches = pair_of IsCommands IsBranchEnd ([], Tree.done, Grammar.done) some_branch_end

pub some_loop_end : Possible IsLoopEnd
some_loop_end = (mark Close ∷ some_block.0, (Tree.nothing, some_block.1), inl (refl, (some_block.0, refl, some_block.2)))

pub some_pattern : Possible IsPatternText
some_pattern = (Lexeme.text [] some_place ∷ [], ([], some_place), refl)

pub some_upper : Possible (IsPair IsExpr IsTargetEnd)
some_upper = pair_of IsExpr IsTargetEnd some_expr some_target_end

pub some_counter : (word : LoopWord) → Possible (IsCounter word)
some_counter Rep = ([], None, (refl, refl))
some_counter RepI = (some_target.0 ++ mark Comma ∷ [], Some some_target.1, (some_target.1, refl, (some_target.0, refl, some_target.2)))
some_counter While = ([], None, (refl, refl))
some_counter WhileI = (some_target.0 ++ mark Comma ∷ [], Some some_target.1, (some_target.1, refl, (some_target.0, refl, some_target.2)))

pub some_guard : (word : LoopWord) → Possible (IsGuard word)
some_guard Rep = (some_expr.0, Tree.turns some_expr.1, (some_expr.1, refl, some_expr.2))
some_guard RepI = (some_expr.0, Tree.turns some_expr.1, (some_expr.1, refl, some_expr.2))
some_guard While = (some_test.0, Tree.while some_test.1, (some_test.1, refl, some_test.2))
some_guard WhileI = (some_test.0, Tree.while some_test.1, (some_test.1, refl, some_test.2))

-- a tree that is built of what stands behind an opening parenthesis
pub opened_reads : {T U : Type 0} (f : T → U) (A : Spelling T) (E : Following) (tokens r after : List Lexeme) (a : T) → tokens ≡ mark Open ∷ r → HasTree A E r a after → HasTree (IsBuilt f (IsAfter Open A)) E tokens (f a) after
opened_reads f A E tokens r after a e found = built f (IsAfter Open A) E tokens after a (after_reads A E Open tokens r after a e found)

pub opened_none : {T U : Type 0} (f : T → U) (A : Spelling T) (E : Following) (tokens r : List Lexeme) → tokens ≡ mark Open ∷ r → (left : ℕ) → HasNoTree A E r left → HasNoTree (IsBuilt f (IsAfter Open A)) E tokens left
opened_none f A E tokens r e left not = not_built f (IsAfter Open A) E tokens left (after_none A E Open tokens r e left not)

pub not_opened : {T U : Type 0} (f : T → U) (A : Spelling T) (E : Following) → Possible A → (tokens : List Lexeme) → ((r : List Lexeme) → tokens ≡ mark Open ∷ r → ⊥) → HasNoTree (IsBuilt f (IsAfter Open A)) E tokens (length tokens)
not_opened f A E possible tokens none = not_built f (IsAfter Open A) E tokens (length tokens) (not_after A E Open possible tokens none)

-- a loop without a counter
pub no_counter : (word : LoopWord) (tokens : List Lexeme) → (word ≡ Rep) ⊎ (word ≡ While) → HasTree (IsCounter word) Always tokens None tokens
no_counter word tokens is = record { front = []; split = refl; holds = λ others e. absent others is }
  where
    absent : (others : List Lexeme) → (word ≡ Rep) ⊎ (word ≡ While) → OneTree (IsCounter word) Always others None others
    absent others (inl is) = subst (λ w. OneTree (IsCounter w) Always others None others) (sym is) (here.no_counter others)
    absent others (inr is) = subst (λ w. OneTree (IsCounter w) Always others None others) (sym is) (here.no_counter others)

-- a loop with one
pub counter_reads : (word : LoopWord) (tokens rest : List Lexeme) (v : VarTree) → (word ≡ RepI) ⊎ (word ≡ WhileI) → HasTree (IsBefore Comma IsTarget) Always tokens v rest → HasTree (IsCounter word) Always tokens (Some v) rest
counter_reads word tokens rest v (inl is) f = subst (λ w. HasTree (IsCounter w) Always tokens (Some v) rest) (sym is) (built Some (IsBefore Comma IsTarget) Always tokens rest v f)
counter_reads word tokens rest v (inr is) f = subst (λ w. HasTree (IsCounter w) Always tokens (Some v) rest) (sym is) (built Some (IsBefore Comma IsTarget) Always tokens rest v f)

pub counter_none : (word : LoopWord) (tokens : List Lexeme) → (word ≡ RepI) ⊎ (word ≡ WhileI) → (left : ℕ) → HasNoTree (IsBefore Comma IsTarget) Always tokens left → HasNoTree (IsCounter word) Always tokens left
counter_none word tokens (inl is) left not = subst (λ w. HasNoTree (IsCounter w) Always tokens left) (sym is) (not_built Some (IsBefore Comma IsTarget) Always tokens left not)
counter_none word tokens (inr is) left not = subst (λ w. HasNoTree (IsCounter w) Always tokens left) (sym is) (not_built Some (IsBefore Comma IsTarget) Always tokens left not)

-- how long a loop goes on
times_found : (tokens rest : List Lexeme) (a : ExprTree) → HasTree IsExpr (ends 1) tokens a rest → HasTree (IsBuilt Tree.turns IsExpr) (test_ends 1) tokens (Tree.turns a) rest
times_found tokens rest a f = so (λ ts us. OneTree IsExpr (ends 1) ts a us) (λ ts us. OneTree (IsBuilt Tree.turns IsExpr) (test_ends 1) ts (Tree.turns a) us) tokens rest
    (λ ts us p. fronts.built Tree.turns IsExpr (test_ends 1) ts us a (fronts.found_under IsExpr (ends 1) (test_ends 1) (λ vs h. ends_both vs h) ts us a p)) f

times_none : (tokens : List Lexeme) (left : ℕ) → HasNoTree IsExpr (ends 1) tokens left → HasNoTree (IsBuilt Tree.turns IsExpr) (test_ends 1) tokens left
times_none tokens left n = none_same IsExpr (IsBuilt Tree.turns IsExpr) (ends 1) (test_ends 1) tokens
    (λ ts not. fronts.not_built Tree.turns IsExpr (test_ends 1) ts (fronts.none_under IsExpr (ends 1) (test_ends 1) (λ vs h. ends_both vs h) ts not))
    (λ ts a i. ([], Tree.turns a, (a, refl, whole IsExpr ts a i))) left n

pub guard_times : (word : LoopWord) (tokens rest : List Lexeme) (a : ExprTree) → (word ≡ Rep) ⊎ (word ≡ RepI) → HasTree IsExpr (ends 1) tokens a rest → HasTree (IsGuard word) (test_ends 1) tokens (Tree.turns a) rest
guard_times word tokens rest a (inl is) f = subst (λ w. HasTree (IsGuard w) (test_ends 1) tokens (Tree.turns a) rest) (sym is) (times_found tokens rest a f)
guard_times word tokens rest a (inr is) f = subst (λ w. HasTree (IsGuard w) (test_ends 1) tokens (Tree.turns a) rest) (sym is) (times_found tokens rest a f)

pub no_guard_times : (word : LoopWord) (tokens : List Lexeme) → (word ≡ Rep) ⊎ (word ≡ RepI) → (left : ℕ) → HasNoTree IsExpr (ends 1) tokens left → HasNoTree (IsGuard word) (test_ends 1) tokens left
no_guard_times word tokens (inl is) left n = subst (λ w. HasNoTree (IsGuard w) (test_ends 1) tokens left) (sym is) (times_none tokens left n)
no_guard_times word tokens (inr is) left n = subst (λ w. HasNoTree (IsGuard w) (test_ends 1) tokens left) (sym is) (times_none tokens left n)

pub guard_while : (word : LoopWord) (tokens rest : List Lexeme) (a : TestTree) → (word ≡ While) ⊎ (word ≡ WhileI) → HasTree IsTest (test_ends 1) tokens a rest → HasTree (IsGuard word) (test_ends 1) tokens (Tree.while a) rest
guard_while word tokens rest a (inl is) f = subst (λ w. HasTree (IsGuard w) (test_ends 1) tokens (Tree.while a) rest) (sym is) (built Tree.while IsTest (test_ends 1) tokens rest a f)
guard_while word tokens rest a (inr is) f = subst (λ w. HasTree (IsGuard w) (test_ends 1) tokens (Tree.while a) rest) (sym is) (built Tree.while IsTest (test_ends 1) tokens rest a f)

pub no_guard_while : (word : LoopWord) (tokens : List Lexeme) → (word ≡ While) ⊎ (word ≡ WhileI) → (left : ℕ) → HasNoTree IsTest (test_ends 1) tokens left → HasNoTree (IsGuard word) (test_ends 1) tokens left
no_guard_while word tokens (inl is) left n = subst (λ w. HasNoTree (IsGuard w) (test_ends 1) tokens left) (sym is) (not_built Tree.while IsTest (test_ends 1) tokens left n)
no_guard_while word tokens (inr is) left n = subst (λ w. HasNoTree (IsGuard w) (test_ends 1) tokens left) (sym is) (not_built Tree.while IsTest (test_ends 1) tokens left n)

-- a string with its place
pub pattern_found : (tokens rest : List Lexeme) (bytes : List ℕ) (at : Place) → tokens ≡ Lexeme.text bytes at ∷ rest → HasTree IsPatternText Always tokens (bytes, at) rest
pattern_found tokens rest bytes at e = record { front = Lexeme.text bytes at ∷ []; split = e; holds = λ others f. here.pattern_found (Lexeme.text bytes at ∷ others) others bytes at refl }

pub no_pattern : (tokens : List Lexeme) → ((bytes : List ℕ) (at : Place) (r : List Lexeme) → tokens ≡ Lexeme.text bytes at ∷ r → ⊥) → HasNoTree IsPatternText Always tokens (length tokens)
no_pattern tokens none = none_first_at IsPatternText Always tokens (λ others e. here.no_pattern others (λ bytes at r is. not_then (Lexeme.text bytes at) tokens (none bytes at) others e r is)) some_pattern.0 some_pattern.1 some_pattern.2

-- a command by its word
pub command_reads : (tokens r : List Lexeme) (k : Keyword) (at : Place) → tokens ≡ keyword k at ∷ r → (u : CommandTree) (after : List Lexeme) → HasTree (IsCommandRest k at) Always r u after → HasTree IsCommand Always tokens u after
command_reads tokens r k at e u after f =
    and_then (λ ts us. ts ≡ keyword k at ∷ us) (λ ts us. OneTree (IsCommandRest k at) Always ts u us) (λ ts us. OneTree IsCommand Always ts u us) tokens r after
    (λ ts vs us p q. here.command_reads ts vs k at p u us q) (one_read (keyword k at) tokens r e) f

pub command_none : (tokens r : List Lexeme) (k : Keyword) (at : Place) → tokens ≡ keyword k at ∷ r → (left : ℕ) → HasNoTree (IsCommandRest k at) Always r left → HasNoTree IsCommand Always tokens left
command_none tokens r k at e left n = none_behind (IsCommandRest k at) IsCommand Always Always (keyword k at) tokens r e (λ ts us p not. here.command_none ts us k at p not) (λ ts a i. ([], a, command_of k at (ts ++ []) a (whole (IsCommandRest k at) ts a i))) left n

-- whether a command begins is told by the first token
begins_same : (tokens others : List Lexeme) → first_of others ≡ first_of tokens → command_begins others ≡ command_begins tokens
begins_same [] [] e = refl
begins_same [] (t ∷ ts) e = absurd (cc)
begins_same (s ∷ ss) [] e = absurd (cc)
begins_same (s ∷ ss) (t ∷ ts) e = let same : t ≡ s = cc in ap begins_command same

pub no_command : (tokens : List Lexeme) → command_begins tokens ≡ false → HasNoTree IsCommand Always tokens (length tokens)
no_command tokens none = none_first_at IsCommand Always tokens (λ others e. here.no_command others (begins_same tokens others e ∙ none)) some_command.0 some_command.1 some_command.2

-- what is read of a list of commands, whatever follows
abbrev pub PartCommands : (tokens : List Lexeme) (xs : CommandList) (rest : List Lexeme) → Type 0
PartCommands tokens xs rest = Stays (λ ts us. here.PartCommands ts xs us) tokens rest

pub part_spells : (tokens : List Lexeme) (xs : CommandList) (rest : List Lexeme) (p : PartCommands tokens xs rest) → IsCommands p.front xs
part_spells tokens xs rest p =
    let o = p.holds rest refl in
    subst (λ l. IsCommands l xs) (sym (append_cancel_right p.front o.front rest o.split)) o.spells

pub commands_start : (tokens : List Lexeme) → PartCommands tokens Tree.done tokens
commands_start tokens = record { front = []; split = refl; holds = λ others e. here.commands_start others }

pub commands_next : (tokens rest after : List Lexeme) (xs : CommandList) (c : CommandTree) → PartCommands tokens xs rest → command_begins rest ≡ true → HasTree IsCommand Always rest c after → PartCommands tokens (joined xs (Tree.then c Tree.done)) after
commands_next tokens rest after xs c part begins f =
    and_then (λ ts us. here.PartCommands ts xs us) (λ ts us. OneTree IsCommand Always ts c us) (λ ts us. here.PartCommands ts (joined xs (Tree.then c Tree.done)) us) tokens rest after
    (λ ts vs us p q. here.commands_next ts vs us xs c p (found_begins vs us c q) q) part f

pub commands_no_next : (tokens rest : List Lexeme) (xs : CommandList) → PartCommands tokens xs rest → command_begins rest ≡ true → (left : ℕ) → HasNoTree IsCommand Always rest left → HasNoTree IsCommands CommandsEnd tokens left
commands_no_next tokens rest xs part begins left n = record {
  rest = n.rest;
  counted = n.counted;
  known = record {
    front = part.front ++ n.known.front;
    split = part.split ∙ ap (λ l. part.front ++ l) n.known.split ∙ sym (append_assoc part.front n.known.front n.rest);
    holds = λ others e.
        let same : first_of (n.known.front ++ others) ≡ first_of rest = stays_first others e in
        subst (NoTree IsCommands CommandsEnd) (sym (append_assoc part.front n.known.front others))
        (here.commands_no_next (part.front ++ (n.known.front ++ others)) (n.known.front ++ others) xs (part.holds (n.known.front ++ others) same) (begins_same rest (n.known.front ++ others) same ∙ begins) (n.known.holds others e));
  };
  more = n.more;
  some = joined xs (Tree.then n.some Tree.done);
  goes_on = subst (λ l. IsCommands l (joined xs (Tree.then n.some Tree.done))) (sym (append_assoc part.front n.known.front n.more)) (extend part.front (n.known.front ++ n.more) xs n.some (part_spells tokens xs rest part) n.goes_on);
}
  where
    stays_first : (others : List Lexeme) → first_of others ≡ first_of n.rest → first_of (n.known.front ++ others) ≡ first_of rest
    stays_first others e = same_first (λ ts us. NoTree IsCommand Always ts) rest n.rest n.known others e

pub commands_end : (tokens rest : List Lexeme) (xs : CommandList) → PartCommands tokens xs rest → command_begins rest ≡ false → HasTree IsCommands CommandsEnd tokens xs rest
commands_end tokens rest xs part none = record { front = part.front; split = part.split; holds = λ others e. here.commands_end (part.front ++ others) others xs (part.holds others e) (begins_same rest others e ∙ none) }

-- the end of a loop
pub loop_end_plain : (tokens r after : List Lexeme) (body : CommandList) → tokens ≡ mark Close ∷ r → HasTree IsBlock Always r body after → HasTree IsLoopEnd Always tokens (Tree.nothing, body) after
loop_end_plain tokens r after body e f =
    and_then (λ ts us. ts ≡ mark Close ∷ us) (λ ts us. OneTree IsBlock Always ts body us) (λ ts us. OneTree IsLoopEnd Always ts (Tree.nothing, body) us) tokens r after
    (λ ts vs us p q. here.loop_end_plain ts vs us body p q) (one_read (mark Close) tokens r e) f

pub loop_end_no_block : (tokens r : List Lexeme) → tokens ≡ mark Close ∷ r → (left : ℕ) → HasNoTree IsBlock Always r left → HasNoTree IsLoopEnd Always tokens left
loop_end_no_block tokens r e left n = none_behind IsBlock IsLoopEnd Always Always (mark Close) tokens r e (λ ts us p not. here.loop_end_no_block ts us p not) (λ ts b i. ([], (Tree.nothing, b), inl (refl, (ts ++ [], refl, whole IsBlock ts b i)))) left n

pub loop_end_separated : (tokens r after : List Lexeme) (c : CommandTree) (body : CommandList) → tokens ≡ mark Comma ∷ r → HasTree IsSeparated Always r (c, body) after → HasTree IsLoopEnd Always tokens (Tree.between c, body) after
loop_end_separated tokens r after c body e f =
    and_then (λ ts us. ts ≡ mark Comma ∷ us) (λ ts us. OneTree IsSeparated Always ts (c, body) us) (λ ts us. OneTree IsLoopEnd Always ts (Tree.between c, body) us) tokens r after
    (λ ts vs us p q. here.loop_end_separated ts vs us c body p q) (one_read (mark Comma) tokens r e) f

pub loop_end_no_separated : (tokens r : List Lexeme) → tokens ≡ mark Comma ∷ r → (left : ℕ) → HasNoTree IsSeparated Always r left → HasNoTree IsLoopEnd Always tokens left
loop_end_no_separated tokens r e left n = none_behind IsSeparated IsLoopEnd Always Always (mark Comma) tokens r e (λ ts us p not. here.loop_end_no_separated ts us p not) (λ ts x i. ([], (Tree.between x.0, x.1), inr (x.0, refl, (ts ++ [], refl, whole IsSeparated ts x i)))) left n

pub loop_end_other : (tokens : List Lexeme) → ((r : List Lexeme) → tokens ≡ mark Close ∷ r → ⊥) → ((r : List Lexeme) → tokens ≡ mark Comma ∷ r → ⊥) → HasNoTree IsLoopEnd Always tokens (length tokens)
loop_end_other tokens not_closed not_comma = none_first_at IsLoopEnd Always tokens (λ others e. here.loop_end_other others (not_then (mark Close) tokens not_closed others e) (not_then (mark Comma) tokens not_comma others e)) some_loop_end.0 some_loop_end.1 some_loop_end.2

-- the end of an IF
pub branch_ended : (tokens r : List Lexeme) (at : Place) → tokens ≡ keyword words.End at ∷ r → HasTree IsBranchEnd Always tokens Tree.done r
branch_ended tokens r at e = record { front = keyword words.End at ∷ []; split = e; holds = λ others f. here.branch_ended (keyword words.End at ∷ others) others at refl }

pub branch_goes_on : (tokens r : List Lexeme) (at : Place) → tokens ≡ keyword words.Else at ∷ r → (body : CommandList) (after : List Lexeme) → HasTree IsBlock Always r body after → HasTree IsBranchEnd Always tokens body after
branch_goes_on tokens r at e body after f =
    and_then (λ ts us. ts ≡ keyword words.Else at ∷ us) (λ ts us. OneTree IsBlock Always ts body us) (λ ts us. OneTree IsBranchEnd Always ts body us) tokens r after
    (λ ts vs us p q. here.branch_goes_on ts vs at p body us q) (one_read (keyword words.Else at) tokens r e) f

pub branch_no_block : (tokens r : List Lexeme) (at : Place) → tokens ≡ keyword words.Else at ∷ r → (left : ℕ) → HasNoTree IsBlock Always r left → HasNoTree IsBranchEnd Always tokens left
branch_no_block tokens r at e left n = none_behind IsBlock IsBranchEnd Always Always (keyword words.Else at) tokens r e (λ ts us p not. here.branch_no_block ts us at p not) (λ ts b i. ([], b, inr (at, ts ++ [], refl, whole IsBlock ts b i))) left n

pub branch_other : (tokens : List Lexeme) → ((at : Place) (r : List Lexeme) → tokens ≡ keyword words.End at ∷ r → ⊥) → ((at : Place) (r : List Lexeme) → tokens ≡ keyword words.Else at ∷ r → ⊥) → HasNoTree IsBranchEnd Always tokens (length tokens)
branch_other tokens no_end no_else = none_first_at IsBranchEnd Always tokens (λ others e. here.branch_other others (λ at r is. not_then (keyword words.End at) tokens (no_end at) others e r is) (λ at r is. not_then (keyword words.Else at) tokens (no_else at) others e r is)) some_branch_end.0 some_branch_end.1 some_branch_end.2
