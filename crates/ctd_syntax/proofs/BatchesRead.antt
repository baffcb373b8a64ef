-- The loop that reads the tokens of a text, and their commands a batch at a time.
use Rattle.std.proofs.Common.{◌≡◌, ℕ, ◌+◌, ◌≤◌, List, [], ◌∷◌, ◌++◌, length, arith, Option, Some, None, option_map, Bool, false, if◌then◌else◌, nat_lt, refl, sym, ap, ◌∙◌, subst, append_assoc, append-nil}
use Rattle.std.proofs.lemmas.Bool.{le-ltb}
use Rattle.ctd_syntax.specs.Lexeme.{Lexeme}
use Rattle.ctd_program.specs.Tree
use Rattle.ctd_program.specs.calls.View.{command_tree, command_trees}
use Rattle.ctd_program.specs.declared.tree.Command.{Command}
use Rattle.ctd_program.proofs.Trees.{joined}
use Rattle.ctd_token.specs.calls.Lexing.{Uncut, IsEnd}
use Rattle.ctd_token.specs.declared.limits.TheConstants.{NESTING_LIMIT, PROGRAM_LIMIT}
use Rattle.ctd_syntax.specs.Nesting.{change_of, step, start, weight}
use Rattle.ctd_syntax.specs.inner.Nesting.{too_deep}
use Rattle.ctd_syntax.specs.Reading.{Parses, lexemes}
use Rattle.ctd_syntax.specs.inner.Batches.{IsNextSeen, ReadsOff, SpellsOnly}
use Rattle.ctd_syntax.proofs.Parsing.{parsed}
use Rattle.ctd_syntax.proofs.Boundaries.{BeginsWith, nothing_yet, nothing_spelled, batch_more, all_read}
use Rattle.ctd_syntax.proofs.TokensRead as tokens_read
use Rattle.ctd_syntax.proofs.TokensRead.{HasRead}

-- the commands of two lists, one behind the other
pub trees_append : (a b : List Command) → command_trees (a ++ b) ≡ joined (command_trees a) (command_trees b)
trees_append [] b = refl
trees_append (c ∷ cs) b = ap (Tree.then (command_tree c)) (trees_append cs b)

-- nothing is read off
pub none_off : (ts : List Lexeme) (cs : List Command) → ReadsOff ts cs ts cs
none_off ts cs = record { front = []; commands = []; split = refl; put = sym (append-nil cs); only = nothing_spelled }

-- what is read so far: commands, and the tokens of a batch behind them, which do not nest too deep
pub record InBatches (text : List ℕ) (commands : List Command) (batch : List Lexeme) (u : Uncut) (counters : ℕ × List ℕ) : Type 0 where
  pub seen : List Lexeme
  pub read : HasRead text (seen ++ batch) u
  pub begins : BeginsWith seen (command_trees commands)
  pub light : weight counters ≤ NESTING_LIMIT
  pub shallow : (ts : List Lexeme) → too_deep counters ts ≡ None → too_deep start ((seen ++ batch) ++ ts) ≡ None

-- before the first token
pub begin : (text : List ℕ) (commands : List Command) (u : Uncut) (counters : ℕ × List ℕ) → commands ≡ [] → u ≡ record { text = text; at = 0 } → counters ≡ start → InBatches text commands [] u counters
begin text commands u counters none is at_start = record {
  seen = [];
  read = tokens_read.begin text u is;
  begins = subst (λ l. BeginsWith [] (command_trees l)) (sym none) nothing_yet;
  light = subst (λ s. weight s ≤ NESTING_LIMIT) (sym at_start) (omega arith);
  shallow = λ ts h. subst (λ s. too_deep s ts ≡ None) at_start h;
}

-- commands are read off the batch
pub off : (text : List ℕ) (commands behind : List Command) (batch left : List Lexeme) (u : Uncut) (counters : ℕ × List ℕ) → InBatches text commands batch u counters → ReadsOff batch commands left behind → InBatches text behind left u counters
off text commands behind batch left u counters s r =
    let regrouped : s.seen ++ batch ≡ (s.seen ++ r.front) ++ left = ap (λ l. s.seen ++ l) r.split ∙ sym (append_assoc s.seen r.front left) in
    record {
      seen = s.seen ++ r.front;
      read = subst (λ l. HasRead text l u) regrouped s.read;
      begins = subst (BeginsWith (s.seen ++ r.front)) (sym (ap command_trees r.put ∙ trees_append commands r.commands)) (batch_more s.seen r.front (command_trees commands) (command_trees r.commands) s.begins r.only);
      light = s.light;
      shallow = λ ts h. subst (λ l. too_deep start (l ++ ts) ≡ None) regrouped (s.shallow ts h);
    }

-- a token after which the weight is within the limit
light_next : (b : Bool) (rest : Option ℕ) → b ≡ false → rest ≡ None → (if b then Some 0 else option_map (λ n. n + 1) rest) ≡ None
light_next b rest light none = ap (λ x. if x then Some 0 else option_map (λ n. n + 1) rest) light ∙ ap (option_map (λ n. n + 1)) none

-- one token more
pub more : (text : List ℕ) (commands : List Command) (batch : List Lexeme) (u rest : Uncut) (l : Lexeme) (counters after : ℕ × List ℕ) → InBatches text commands batch u counters → IsNextSeen u l rest → after ≡ step (change_of l) counters → weight after ≤ NESTING_LIMIT → InBatches text commands (batch ++ l ∷ []) rest after
more text commands batch u rest l counters after s next is light =
    let regrouped : (s.seen ++ batch) ++ l ∷ [] ≡ s.seen ++ (batch ++ l ∷ []) = append_assoc s.seen batch (l ∷ []) in
    record {
      seen = s.seen;
      read = subst (λ l. HasRead text l rest) regrouped (tokens_read.more text (s.seen ++ batch) u l rest s.read next);
      begins = s.begins;
      light = light;
      shallow = λ ts h.
          let stepped : weight (step (change_of l) counters) ≤ NESTING_LIMIT = subst (λ c. weight c ≤ NESTING_LIMIT) is light in
          let behind : too_deep counters (l ∷ ts) ≡ None = light_next (nat_lt NESTING_LIMIT (weight (step (change_of l) counters))) (too_deep (step (change_of l) counters) ts) (le-ltb _ _ stepped) (subst (λ c. too_deep c ts ≡ None) is h) in
          subst (λ l. too_deep start l ≡ None) (sym (append_assoc (s.seen ++ batch) (l ∷ []) ts) ∙ ap (λ l. l ++ ts) regrouped) (s.shallow (l ∷ ts) behind);
    }

-- at the end of the text, where nothing is left of the batch
pub finish : (text : List ℕ) (commands behind : List Command) (batch : List Lexeme) (u : Uncut) (counters : ℕ × List ℕ) → length text ≤ PROGRAM_LIMIT → InBatches text commands batch u counters → ReadsOff batch commands [] behind → IsEnd u → Parses text (command_trees behind)
finish text commands behind batch u counters short s r end =
    let done = off text commands behind batch [] u counters s r in
    let cut = tokens_read.finish text (done.seen ++ []) u short done.read end in
    let same : lexemes text cut.tokens ≡ done.seen ++ [] = cut.same in
    let shallow : too_deep start (done.seen ++ []) ≡ None = subst (λ l. too_deep start l ≡ None) (append-nil (done.seen ++ [])) (done.shallow [] refl) in
    let only : SpellsOnly (done.seen ++ []) (command_trees behind) = subst (λ l. SpellsOnly l (command_trees behind)) (sym (append-nil done.seen)) (all_read done.seen (command_trees behind) done.begins) in
    parsed text cut.tokens (command_trees behind) cut.is_cut (ap (too_deep start) same ∙ shallow) (subst (λ l. SpellsOnly l (command_trees behind)) (sym same) only)
