-- What reading the commands of a whole text says of the text.
use Rattle.std.proofs.Common.{◌≡◌, ℕ, List, [], ◌∷◌, ◌++◌, length, None, true, false, refl, sym, ap, ◌∙◌, subst, append_assoc, append-nil, arith, eqb-true, ◌+◌, ◌-◌, take, length-append}
use Rattle.std.specs.Prelude.{map, ◌==◌}
use Rattle.std.proofs.lemmas.List.{length-map}
use Rattle.ctd_syntax.specs.Lexeme.{Lexeme, lexeme_of}
use Rattle.ctd_program.specs.Tree.{CommandList}
use Rattle.ctd_syntax.specs.inner.Front.{OneTree, NoTree, HasTree, HasNoTree, first_of}
use Rattle.std.proofs.Math.Seq.{take-append_seam, take-append-add}
use Rattle.ctd_syntax.proofs.Staying.{whole, spells_of}
use Rattle.ctd_syntax.specs.Grammar.{IsCommands}
use Rattle.ctd_syntax.specs.inner.CommandWords.{CommandsEnd}
use Rattle.ctd_syntax.specs.Nesting.{start}
use Rattle.ctd_syntax.specs.inner.Nesting.{too_deep}
use Rattle.ctd_syntax.specs.Reading.{IsCut, Parses, BeginsProgram, IsFirstWrong, lexemes}
use Rattle.ctd_syntax.specs.inner.Batches.{SpellsOnly}
use Rattle.ctd_token.specs.declared.token.Token.{Token}
use Rattle.ctd_token.proofs.UniqueTokens.{same_cut}
use Rattle.ctd_syntax.proofs.Weights.{never_heavy}

-- the commands that end with the tokens are the only ones there
pub spelled_only : (ts : List Lexeme) (tree : CommandList) (after : List Lexeme) → OneTree IsCommands CommandsEnd ts tree after → after ≡ [] → SpellsOnly ts tree
spelled_only ts tree after f none = record {
  spells = subst (λ l. IsCommands l tree) (sym (f.split ∙ ap (λ l. f.front ++ l) none ∙ append-nil f.front)) f.spells;
  only = λ other i. (f.only ts [] other (sym (append-nil ts)) refl i).0;
}

-- the commands of a text's tokens are its one program
pub parsed : (program : List ℕ) (ts : List Token) (tree : CommandList) → IsCut program ts → too_deep start (lexemes program ts) ≡ None → SpellsOnly (lexemes program ts) tree → Parses program tree
parsed program ts tree cut shallow s = record {
  reads = record { tokens = ts; is_cut = cut; shallow = never_heavy (lexemes program ts) shallow; spells = s.spells };
  only = λ other r. s.only other (subst (λ l. IsCommands (lexemes program l) other) (same_cut program 0 program r.tokens ts r.is_cut.cut cut.cut) r.spells);
}

-- where something is left, there is none
pub left_over : (program : List ℕ) (ts : List Token) (tree : CommandList) (t : Lexeme) (after rest : List Lexeme) → OneTree IsCommands CommandsEnd (lexemes program ts) tree after → after ≡ t ∷ rest → (other : CommandList) → ¬ (IsCommands (lexemes program ts) other)
left_over program ts tree t after rest f some other w =
    let ended : [] ≡ after = (f.only (lexemes program ts) [] other (sym (append-nil (lexemes program ts))) refl w).1 in
    let clash : [] ≡ t ∷ rest = ended ∙ some in
    cc

-- and where no commands are read
pub unspelled : (program : List ℕ) (ts : List Token) → NoTree IsCommands CommandsEnd (lexemes program ts) → (other : CommandList) → ¬ (IsCommands (lexemes program ts) other)
unspelled program ts not other w = not (lexemes program ts) [] other (sym (append-nil (lexemes program ts))) refl w

-- what some tokens begin with, and a token with which no program goes on
wrong_behind : (seen rest : List Lexeme) → BeginsProgram seen → ((t : Lexeme) (r more : List Lexeme) (tree : CommandList) → rest ≡ t ∷ r → IsCommands (seen ++ t ∷ more) tree → ⊥) → IsFirstWrong (seen ++ rest) (length seen)
wrong_behind seen [] b wrong = record {
  goes_on = subst BeginsProgram (sym (take-append_seam seen [])) b;
  stuck = λ less. (let none : List Lexeme = [] in absurd (omega (arith, less, length-append seen none)));
}
wrong_behind seen (t ∷ r) b wrong = record {
  goes_on = subst BeginsProgram (sym (take-append_seam seen (t ∷ r))) b;
  stuck = λ less begun.
      let count : 1 + length seen ≡ length seen + 1 = omega arith in
      let one_more : take (1 + length seen) (seen ++ t ∷ r) ≡ seen ++ t ∷ [] = ap (λ n. take n (seen ++ t ∷ r)) count ∙ take-append-add seen (t ∷ r) 1 in
      let begins = subst BeginsProgram one_more begun in
      wrong t r begins.0 begins.1 refl (subst (λ l. IsCommands l begins.1) (append_assoc seen (t ∷ []) begins.0) begins.2);
}

counted : (ts seen rest : List Lexeme) (left : ℕ) → ts ≡ seen ++ rest → length rest ≡ left → IsFirstWrong (seen ++ rest) (length seen) → IsFirstWrong ts (length ts - left)
counted ts seen rest left split count first =
    let same : length seen ≡ length ts - left = omega (arith, ap length split, length-append seen rest, count) in
    subst (IsFirstWrong ts) same (subst (λ l. IsFirstWrong l (length seen)) (sym split) first)

-- the first wrong token, where no commands are read
pub none_wrong : (ts : List Lexeme) (left : ℕ) → HasNoTree IsCommands CommandsEnd ts left → IsFirstWrong ts (length ts - left)
none_wrong ts left n = counted ts n.known.front n.rest left n.known.split n.counted (wrong_behind n.known.front n.rest (n.more, n.some, n.goes_on)
    (λ t r more tree e i. n.known.holds (t ∷ more) (sym (ap first_of e)) (n.known.front ++ t ∷ more) [] tree (sym (append-nil (n.known.front ++ t ∷ more))) refl i))

-- and where something is left behind them
pub left_wrong : (ts after : List Lexeme) (tree : CommandList) → HasTree IsCommands CommandsEnd ts tree after → IsFirstWrong ts (length ts - length after)
left_wrong ts after tree f = counted ts f.front after (length after) f.split refl (wrong_behind f.front after ([], tree, whole IsCommands f.front tree (spells_of IsCommands CommandsEnd ts after tree f))
    (λ t r more other e i. let ended : [] ≡ t ∷ more = ((f.holds (t ∷ more) (sym (ap first_of e))).only (f.front ++ t ∷ more) [] other (sym (append-nil (f.front ++ t ∷ more))) refl i).1 in cc))

pub wrong_token : (program : List ℕ) (ts : List Token) (left : ℕ) → IsFirstWrong (lexemes program ts) (length (lexemes program ts) - left) → IsFirstWrong (lexemes program ts) (length ts - left)
wrong_token program ts left first = subst (λ n. IsFirstWrong (lexemes program ts) (n - left)) (length-map ts (lexeme_of program)) first

-- what holds of the tokens of a text holds of all that it is cut into
pub of_any_cut : (program : List ℕ) (ts : List Token) (P : List Token → Type 0) → IsCut program ts → P ts → (us : List Token) → IsCut program us → P us
of_any_cut program ts P cut p us other = subst P (same_cut program 0 program ts us cut.cut other.cut) p

-- a list without elements, and one with some
pub nothing : {X Y : Type 0} (f : X → Y) (xs : List X) → (length xs == 0) ≡ true → map f xs ≡ []
nothing f [] e = refl
nothing f (x ∷ xs) e = absurd (let same : length (x ∷ xs) ≡ 0 = eqb-true (length (x ∷ xs)) 0 e in omega (arith, same))

pub something : {X Y : Type 0} (f : X → Y) (xs : List X) → (length xs == 0) ≡ false → (y : Y) × (ys : List Y) × (map f xs ≡ y ∷ ys)
something f [] e = absurd (cc)
something f (x ∷ xs) e = (f x, map f xs, refl)
