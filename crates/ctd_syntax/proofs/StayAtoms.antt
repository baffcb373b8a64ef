-- Signs, powers and atoms, whatever follows.
use Rattle.std.proofs.Common.{◌≡◌, ℕ, ℤ, List, [], ◌∷◌, ◌++◌, length, refl, sym, ap, ◌∙◌, subst, append_assoc, append-nil, false, arith}
use Rattle.std.specs.Prelude.{pos}
use Rattle.ctd_syntax.specs.Lexeme.{Lexeme, keyword, mark}
use Rattle.ctd_program.specs.Tree
use Rattle.ctd_program.specs.Tree.{ExprTree, ExprList, VarTree}
use Rattle.ctd_syntax.specs.Grammar.{IsExpr, product, IsProduct, signed, IsSigned, unsigned, minus, IsPower, atom, power, IsAtom, numeral, variable, strlen, group, IsTarget, IsVariable, unindexed, indexed, IsExprs}
use Rattle.ctd_syntax.specs.inner.Front.{OneTree, NoTree, HasTree, HasNoTree, Always, IsBefore, first_of}
use Rattle.ctd_syntax.specs.inner.Levels.{ends}
use Rattle.ctd_token.specs.declared.text.Place.{Place}
use Rattle.ctd_token.specs.declared.token.Mark.TheVariants.{Open, Close, OpenIndex, CloseIndex, Minus, Caret}
use Rattle.ctd_syntax.specs.declared.keyword.Keyword.TheVariants.{Strlen}
use Rattle.ctd_syntax.proofs.Atoms as here
use Rattle.ctd_syntax.proofs.Atoms.{begins_atom, exponent_of}
use Rattle.ctd_syntax.proofs.Staying.{begins, one_read, and_then, not_then, same_first, spells_of, none_after, none_same, none_behind, none_first_at, whole}
use Rattle.ctd_syntax.proofs.StayFronts.{Possible}

-- a numeral is an expression
pub some_product : IsProduct (Lexeme.numeral (pos 0) ∷ []) (Tree.numeral (pos 0))
some_product = signed (unsigned (atom numeral))

pub some_expr : Possible IsExpr
some_expr = (Lexeme.numeral (pos 0) ∷ [], Tree.numeral (pos 0), product some_product)

pub variable_plain : (tokens r : List Lexeme) (b : List ℕ) → tokens ≡ Lexeme.name b ∷ r → ((s : List Lexeme) → r ≡ mark OpenIndex ∷ s → ⊥) → HasTree IsTarget (ends 4) tokens (record { name = b; indices = Tree.none }) r
variable_plain tokens r b e none = record { front = Lexeme.name b ∷ []; split = e; holds = λ others f. here.variable_plain (Lexeme.name b ∷ others) others b refl (not_then (mark OpenIndex) r none others f) }

pub variable_indexed : (tokens r s after : List Lexeme) (b : List ℕ) (l : ExprList) → tokens ≡ Lexeme.name b ∷ r → r ≡ mark OpenIndex ∷ s → HasTree (IsBefore CloseIndex IsExprs) Always s l after → HasTree IsTarget (ends 4) tokens (record { name = b; indices = l }) after
variable_indexed tokens r s after b l e o f =
    and_then (λ ts us. (vs : List Lexeme) × (ts ≡ Lexeme.name b ∷ vs) × (vs ≡ mark OpenIndex ∷ us)) (λ ts us. OneTree (IsBefore CloseIndex IsExprs) Always ts l us) (λ ts us. OneTree IsTarget (ends 4) ts (record { name = b; indices = l }) us) tokens s after
    (λ ts vs us p q. here.variable_indexed ts p.0 vs us b l p.1 p.2 q)
    (record { front = Lexeme.name b ∷ mark OpenIndex ∷ []; split = e ∙ ap (λ l. Lexeme.name b ∷ l) o; holds = λ others g. (mark OpenIndex ∷ others, refl, refl) }) f

pub variable_bad_index : (tokens r s : List Lexeme) (b : List ℕ) → tokens ≡ Lexeme.name b ∷ r → r ≡ mark OpenIndex ∷ s → (left : ℕ) → HasNoTree (IsBefore CloseIndex IsExprs) Always s left → HasNoTree IsTarget (ends 4) tokens left
variable_bad_index tokens r s b e o left n =
    none_after (IsBefore CloseIndex IsExprs) IsTarget Always (ends 4) (λ ts us. (vs : List Lexeme) × (ts ≡ Lexeme.name b ∷ vs) × (vs ≡ mark OpenIndex ∷ us)) tokens s
    (record { front = Lexeme.name b ∷ mark OpenIndex ∷ []; split = e ∙ ap (λ l. Lexeme.name b ∷ l) o; holds = λ others f. (mark OpenIndex ∷ others, refl, refl) })
    (λ ts us p not. here.variable_bad_index ts p.0 us b p.1 p.2 not)
    (λ ts l i. ([], record { name = b; indices = l }, goes ts l i)) left n
  where
    goes : (ts : List Lexeme) (l : ExprList) → IsBefore CloseIndex IsExprs ts l → IsVariable (Lexeme.name b ∷ mark OpenIndex ∷ (ts ++ [])) b l
    goes ts l (vs, is, i) = subst (λ x. IsVariable (Lexeme.name b ∷ mark OpenIndex ∷ x) b l) (sym (append-nil ts ∙ is)) (indexed i)

-- no variable, since no name comes first
pub no_variable : (tokens : List Lexeme) → ((b : List ℕ) (r : List Lexeme) → tokens ≡ Lexeme.name b ∷ r → ⊥) → HasNoTree IsTarget (ends 4) tokens (length tokens)
no_variable tokens none = none_first_at IsTarget (ends 4) tokens (λ others e ts us u split h w. no_name others (λ b r is. not_then (Lexeme.name b) tokens (none b) others e r is) ts us u.name u.indices split w) (Lexeme.name [] ∷ []) (record { name = []; indices = Tree.none }) unindexed
  where
    no_name : (tokens : List Lexeme) → ((b : List ℕ) (r : List Lexeme) → tokens ≡ Lexeme.name b ∷ r → ⊥) → (ts us : List Lexeme) (b : List ℕ) (l : ExprList) → tokens ≡ ts ++ us → IsVariable ts b l → ⊥
    no_name tokens none ts us b l e unindexed = none b us e
    no_name tokens none ts us b l e (indexed {ts = vs} i) = none b (mark OpenIndex ∷ (vs ++ mark CloseIndex ∷ []) ++ us) e

pub minus_reads : (tokens r after : List Lexeme) (a : ExprTree) → tokens ≡ mark Minus ∷ r → HasTree IsSigned (ends 3) r a after → HasTree IsSigned (ends 3) tokens (Tree.minus a) after
minus_reads tokens r after a e f =
    and_then (λ ts us. ts ≡ mark Minus ∷ us) (λ ts us. OneTree IsSigned (ends 3) ts a us) (λ ts us. OneTree IsSigned (ends 3) ts (Tree.minus a) us) tokens r after
    (λ ts vs us p q. here.minus_reads ts vs us a p q) (one_read (mark Minus) tokens r e) f

pub minus_none : (tokens r : List Lexeme) → tokens ≡ mark Minus ∷ r → (left : ℕ) → HasNoTree IsSigned (ends 3) r left → HasNoTree IsSigned (ends 3) tokens left
minus_none tokens r e left n = none_behind IsSigned IsSigned (ends 3) (ends 3) (mark Minus) tokens r e (λ ts us p not. here.minus_none ts us p not) (λ ts a i. ([], Tree.minus a, minus (whole IsSigned ts a i))) left n

pub power_is_signed : (tokens : List Lexeme) → ((r : List Lexeme) → tokens ≡ mark Minus ∷ r → ⊥) → (a : ExprTree) (after : List Lexeme) → HasTree IsPower (ends 3) tokens a after → HasTree IsSigned (ends 3) tokens a after
power_is_signed tokens none a after f = record {
  front = f.front;
  split = f.split;
  holds = λ others e. here.power_is_signed (f.front ++ others) (not_then (mark Minus) tokens none (f.front ++ others) (same_first (λ ts us. OneTree IsPower (ends 3) ts a us) tokens after f others e)) a others (f.holds others e);
}

pub no_power_signed : (tokens : List Lexeme) → ((r : List Lexeme) → tokens ≡ mark Minus ∷ r → ⊥) → (left : ℕ) → HasNoTree IsPower (ends 3) tokens left → HasNoTree IsSigned (ends 3) tokens left
no_power_signed tokens none left n = record {
  rest = n.rest;
  counted = n.counted;
  known = record {
    front = n.known.front;
    split = n.known.split;
    holds = λ others e. here.no_power_signed (n.known.front ++ others) (not_then (mark Minus) tokens none (n.known.front ++ others) (same_first (λ ts us. NoTree IsPower (ends 3) ts) tokens n.rest n.known others e)) (n.known.holds others e);
  };
  more = n.more;
  some = n.some;
  goes_on = unsigned n.goes_on;
}

pub power_reads : (tokens rest r after : List Lexeme) (a b : ExprTree) → HasTree IsAtom (ends 4) tokens a rest → rest ≡ mark Caret ∷ r → HasTree IsSigned (ends 3) r b after → HasTree IsPower (ends 3) tokens (Tree.power a b) after
power_reads tokens rest r after a b f e g =
    and_then (λ ts us. OneTree IsAtom (ends 4) ts a us) (λ ts us. (vs : List Lexeme) × (ts ≡ mark Caret ∷ vs) × OneTree IsSigned (ends 3) vs b us) (λ ts us. OneTree IsPower (ends 3) ts (Tree.power a b) us) tokens rest after
    (λ ts vs us p q. here.power_reads ts vs q.0 us a b p q.1 q.2) f
    (and_then (λ ts us. ts ≡ mark Caret ∷ us) (λ ts us. OneTree IsSigned (ends 3) ts b us) (λ ts us. (vs : List Lexeme) × (ts ≡ mark Caret ∷ vs) × OneTree IsSigned (ends 3) vs b us) rest r after
    (λ ts vs us p q. (vs, p, q)) (one_read (mark Caret) rest r e) g)

pub power_none : (tokens rest r : List Lexeme) (a : ExprTree) → HasTree IsAtom (ends 4) tokens a rest → rest ≡ mark Caret ∷ r → (left : ℕ) → HasNoTree IsSigned (ends 3) r left → HasNoTree IsPower (ends 3) tokens left
power_none tokens rest r a f e left n =
    none_after IsSigned IsPower (ends 3) (ends 3) (λ ts us. (vs : List Lexeme) × OneTree IsAtom (ends 4) ts a vs × (vs ≡ mark Caret ∷ us)) tokens r
    (and_then (λ ts us. OneTree IsAtom (ends 4) ts a us) (λ ts us. ts ≡ mark Caret ∷ us) (λ ts us. (vs : List Lexeme) × OneTree IsAtom (ends 4) ts a vs × (vs ≡ mark Caret ∷ us)) tokens rest r (λ ts vs us p q. (vs, p, q)) f (one_read (mark Caret) rest r e))
    (λ ts us p not. here.power_none ts p.0 us a p.1 p.2 not)
    (λ ts b i. ([], Tree.power a b, subst (λ l. IsPower l (Tree.power a b)) (sym (append_assoc f.front (mark Caret ∷ []) (ts ++ []))) (power (spells_of IsAtom (ends 4) tokens rest a f) (exponent_of (whole IsSigned ts b i))))) left n

pub atom_is_power : (tokens rest : List Lexeme) (a : ExprTree) → HasTree IsAtom (ends 4) tokens a rest → ((r : List Lexeme) → rest ≡ mark Caret ∷ r → ⊥) → HasTree IsPower (ends 3) tokens a rest
atom_is_power tokens rest a f none = record { front = f.front; split = f.split; holds = λ others e. here.atom_is_power (f.front ++ others) others a (f.holds others e) (not_then (mark Caret) rest none others e) }

pub no_atom_power : (tokens : List Lexeme) (left : ℕ) → HasNoTree IsAtom (ends 4) tokens left → HasNoTree IsPower (ends 3) tokens left
no_atom_power tokens left n = none_same IsAtom IsPower (ends 4) (ends 3) tokens (λ ts not. here.no_atom_power ts not) (λ ts a i. ([], a, whole IsPower ts a (atom i))) left n

-- atoms
pub numeral_reads : (tokens r : List Lexeme) (n : ℤ) → tokens ≡ Lexeme.numeral n ∷ r → HasTree IsAtom (ends 4) tokens (Tree.numeral n) r
numeral_reads tokens r n e = record { front = Lexeme.numeral n ∷ []; split = e; holds = λ others f. here.numeral_reads (Lexeme.numeral n ∷ others) others n refl }

pub text_reads : (tokens r : List Lexeme) (b : List ℕ) (at : Place) → tokens ≡ Lexeme.text b at ∷ r → HasTree IsAtom (ends 4) tokens (Tree.text b) r
text_reads tokens r b at e = record { front = Lexeme.text b at ∷ []; split = e; holds = λ others f. here.text_reads (Lexeme.text b at ∷ others) others b at refl }

pub variable_reads : (tokens r after : List Lexeme) (b : List ℕ) (v : VarTree) → tokens ≡ Lexeme.name b ∷ r → HasTree IsTarget (ends 4) tokens v after → HasTree IsAtom (ends 4) tokens (Tree.variable v.name v.indices) after
variable_reads tokens r after b v e f = record {
  front = f.front;
  split = f.split;
  holds = λ others g.
      let s = begins (f.front ++ others) (Lexeme.name b) (same_first (λ ts us. OneTree IsTarget (ends 4) ts v us) tokens after f others g ∙ ap first_of e) in
      here.variable_reads (f.front ++ others) s.0 others b v s.1 (f.holds others g);
}

pub variable_none : (tokens r : List Lexeme) (b : List ℕ) → tokens ≡ Lexeme.name b ∷ r → (left : ℕ) → HasNoTree IsTarget (ends 4) tokens left → HasNoTree IsAtom (ends 4) tokens left
variable_none tokens r b e left n = record {
  rest = n.rest;
  counted = n.counted;
  known = record {
    front = n.known.front;
    split = n.known.split;
    holds = λ others g.
        let s = begins (n.known.front ++ others) (Lexeme.name b) (same_first (λ ts us. NoTree IsTarget (ends 4) ts) tokens n.rest n.known others g ∙ ap first_of e) in
        here.variable_none (n.known.front ++ others) s.0 b s.1 (n.known.holds others g);
  };
  more = n.more;
  some = Tree.variable n.some.name n.some.indices;
  goes_on = variable n.goes_on;
}

pub strlen_reads : (tokens r s after : List Lexeme) (a : ExprTree) (at : Place) → tokens ≡ keyword Strlen at ∷ r → r ≡ mark Open ∷ s → HasTree (IsBefore Close IsExpr) Always s a after → HasTree IsAtom (ends 4) tokens (Tree.strlen a) after
strlen_reads tokens r s after a at e o f =
    and_then (λ ts us. (vs : List Lexeme) × (ts ≡ keyword Strlen at ∷ vs) × (vs ≡ mark Open ∷ us)) (λ ts us. OneTree (IsBefore Close IsExpr) Always ts a us) (λ ts us. OneTree IsAtom (ends 4) ts (Tree.strlen a) us) tokens s after
    (λ ts vs us p q. here.strlen_reads ts p.0 vs us a at p.1 p.2 q)
    (record { front = keyword Strlen at ∷ mark Open ∷ []; split = e ∙ ap (λ l. keyword Strlen at ∷ l) o; holds = λ others g. (mark Open ∷ others, refl, refl) }) f

pub strlen_none : (tokens r s : List Lexeme) (at : Place) → tokens ≡ keyword Strlen at ∷ r → r ≡ mark Open ∷ s → (left : ℕ) → HasNoTree (IsBefore Close IsExpr) Always s left → HasNoTree IsAtom (ends 4) tokens left
strlen_none tokens r s at e o left n =
    none_after (IsBefore Close IsExpr) IsAtom Always (ends 4) (λ ts us. (vs : List Lexeme) × (ts ≡ keyword Strlen at ∷ vs) × (vs ≡ mark Open ∷ us)) tokens s
    (record { front = keyword Strlen at ∷ mark Open ∷ []; split = e ∙ ap (λ l. keyword Strlen at ∷ l) o; holds = λ others f. (mark Open ∷ others, refl, refl) })
    (λ ts us p not. here.strlen_none ts p.0 us at p.1 p.2 not)
    (λ ts a i. ([], Tree.strlen a, goes ts a i)) left n
  where
    goes : (ts : List Lexeme) (a : ExprTree) → IsBefore Close IsExpr ts a → IsAtom (keyword Strlen at ∷ mark Open ∷ (ts ++ [])) (Tree.strlen a)
    goes ts a (vs, is, i) = subst (λ x. IsAtom (keyword Strlen at ∷ mark Open ∷ x) (Tree.strlen a)) (sym (append-nil ts ∙ is)) (strlen i)

-- STRLEN without a parenthesis
pub strlen_unopened : (tokens r : List Lexeme) (at : Place) → tokens ≡ keyword Strlen at ∷ r → ((s : List Lexeme) → r ≡ mark Open ∷ s → ⊥) → HasNoTree IsAtom (ends 4) tokens (length r)
strlen_unopened tokens r at e none = record {
  rest = r;
  counted = refl;
  known = record { front = keyword Strlen at ∷ []; split = e; holds = λ others f. here.not_strlen others at (not_then (mark Open) r none others f) };
  more = mark Open ∷ Lexeme.numeral (pos 0) ∷ mark Close ∷ [];
  some = Tree.strlen (Tree.numeral (pos 0));
  goes_on = strlen (product some_product);
}

pub group_reads : (tokens r : List Lexeme) → tokens ≡ mark Open ∷ r → (a : ExprTree) (after : List Lexeme) → HasTree (IsBefore Close IsExpr) Always r a after → HasTree IsAtom (ends 4) tokens a after
group_reads tokens r e a after f =
    and_then (λ ts us. ts ≡ mark Open ∷ us) (λ ts us. OneTree (IsBefore Close IsExpr) Always ts a us) (λ ts us. OneTree IsAtom (ends 4) ts a us) tokens r after
    (λ ts vs us p q. here.group_reads ts vs p a us q) (one_read (mark Open) tokens r e) f

pub group_none : (tokens r : List Lexeme) → tokens ≡ mark Open ∷ r → (left : ℕ) → HasNoTree (IsBefore Close IsExpr) Always r left → HasNoTree IsAtom (ends 4) tokens left
group_none tokens r e left n =
    none_behind (IsBefore Close IsExpr) IsAtom Always (ends 4) (mark Open) tokens r e (λ ts us p not. here.group_none ts us p not) (λ ts a i. ([], a, goes ts a i)) left n
  where
    goes : (ts : List Lexeme) (a : ExprTree) → IsBefore Close IsExpr ts a → IsAtom (mark Open ∷ (ts ++ [])) a
    goes ts a (vs, is, i) = subst (λ x. IsAtom (mark Open ∷ x) a) (sym (append-nil ts ∙ is)) (group i)

pub no_atom : (tokens r : List Lexeme) (t : Lexeme) → tokens ≡ t ∷ r → begins_atom t ≡ false → HasNoTree IsAtom (ends 4) tokens (length tokens)
no_atom tokens r t e f = none_first_at IsAtom (ends 4) tokens (λ others g. let s = begins others t (g ∙ ap first_of e) in here.no_atom others s.0 t s.1 f) (Lexeme.numeral (pos 0) ∷ []) (Tree.numeral (pos 0)) numeral

-- nothing is left
pub nothing_atom : (tokens : List Lexeme) → length tokens ≡ 0 → HasNoTree IsAtom (ends 4) tokens 0
nothing_atom [] e = none_first_at IsAtom (ends 4) [] (λ others g. here.nothing_atom others (is_empty others g)) (Lexeme.numeral (pos 0) ∷ []) (Tree.numeral (pos 0)) numeral
  where
    is_empty : (others : List Lexeme) → first_of others ≡ first_of [] → others ≡ []
    is_empty [] e = refl
    is_empty (t ∷ ts) e = absurd (cc)
nothing_atom (t ∷ ts) e = absurd (omega (arith, e))
