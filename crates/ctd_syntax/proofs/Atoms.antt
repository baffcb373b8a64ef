-- Signs, powers and atoms are told by the next token.
use Rattle.std.proofs.Common.{◌≡◌, ℕ, ◌<◌, List, [], ◌∷◌, ◌++◌, refl, sym, ap, ◌∙◌, subst, append_assoc, arith, ◌⊎◌, inl, inr, ℤ, Bool, true, false}
use Rattle.ctd_syntax.specs.Lexeme.{Lexeme, keyword, mark}
use Rattle.ctd_program.specs.Tree
use Rattle.ctd_program.specs.Tree.{ExprTree, ExprList, VarTree}
use Rattle.ctd_syntax.specs.Grammar.{IsExpr, IsSigned, unsigned, minus, IsPower, atom, power, IsExponent, positive, negative, IsAtom, numeral, text, variable, strlen, group, IsTarget, IsVariable, unindexed, indexed, IsExprs}
use Rattle.ctd_syntax.specs.inner.Front.{OneTree, NoTree, Always, IsBefore}
use Rattle.ctd_syntax.specs.inner.Levels.{ends}
use Rattle.ctd_token.specs.declared.text.Place.{Place}
use Rattle.ctd_token.specs.declared.token.Mark.{Mark}
use Rattle.ctd_syntax.specs.declared.keyword.Keyword.{Keyword}
use Rattle.ctd_token.specs.declared.token.Mark.TheVariants.{Open, Close, OpenIndex, CloseIndex, Minus, Caret}
use Rattle.ctd_syntax.specs.declared.keyword.Keyword.TheVariants.{Strlen}
use Rattle.ctd_syntax.proofs.Levels.{ends_weaker}

-- what a variable is, by what follows its name
VariableAt : (b : List ℕ) (r us : List Lexeme) (n : List ℕ) (l : ExprList) → Type 0
VariableAt b r us n l = ((n ≡ b) × (l ≡ Tree.none) × (us ≡ r)) ⊎ ((ws : List Lexeme) × (r ≡ mark OpenIndex ∷ (ws ++ us)) × (n ≡ b) × IsBefore CloseIndex IsExprs ws l)

variable_at : (b : List ℕ) (r ts us : List Lexeme) (n : List ℕ) (l : ExprList) → Lexeme.name b ∷ r ≡ ts ++ us → IsVariable ts n l → VariableAt b r us n l
unfolding VariableAt
variable_at b r ts us n l e unindexed = let h : n ≡ b = cc in let k : us ≡ r = cc in inl (h, refl, k)
variable_at b r ts us n l e (indexed {ts = vs} i) =
    let h : n ≡ b = cc in
    let k : r ≡ mark OpenIndex ∷ ((vs ++ mark CloseIndex ∷ []) ++ us) = cc in
    inr (vs ++ mark CloseIndex ∷ [], k, h, (vs, refl, i))

-- a variable begins with its name
variable_head : (t : Lexeme) (r ts us : List Lexeme) (n : List ℕ) (l : ExprList) → t ∷ r ≡ ts ++ us → IsVariable ts n l → Lexeme.name n ≡ t
variable_head t r ts us n l e unindexed = cc
variable_head t r ts us n l e (indexed i) = cc

open_goes_on : (us s : List Lexeme) → ends 4 us → us ≡ mark OpenIndex ∷ s → ⊥
open_goes_on us s h e = let lt : 4 < 4 = subst (ends 4) e h in omega (arith, lt)

same_rest : {rest r s : List Lexeme} {t : Lexeme} → rest ≡ t ∷ r → rest ≡ t ∷ s → r ≡ s
same_rest e f = cc

pub variable_plain : (tokens r : List Lexeme) (b : List ℕ) → tokens ≡ Lexeme.name b ∷ r → ((s : List Lexeme) → r ≡ mark OpenIndex ∷ s → ⊥) → OneTree IsTarget (ends 4) tokens (record { name = b; indices = Tree.none }) r
unfolding VariableAt
variable_plain tokens r b e none = record {
  front = Lexeme.name b ∷ [];
  split = e;
  spells = unindexed;
  only = λ ts us u split h w. elim (variable_at b r ts us u.name u.indices (sym e ∙ split) w) [
    | inl same ↦ (ap (λ x. record { name = x; indices = u.indices }) same.0 ∙ ap (λ x. record { name = b; indices = x }) same.1, same.2)
    | inr i ↦ absurd (none (i.0 ++ us) i.1)
  ];
}

pub variable_indexed : (tokens r s after : List Lexeme) (b : List ℕ) (l : ExprList) → tokens ≡ Lexeme.name b ∷ r → r ≡ mark OpenIndex ∷ s → OneTree (IsBefore CloseIndex IsExprs) Always s l after → OneTree IsTarget (ends 4) tokens (record { name = b; indices = l }) after
unfolding VariableAt
variable_indexed tokens r s after b l e o f = record {
  front = Lexeme.name b ∷ mark OpenIndex ∷ f.front;
  split = e ∙ ap (λ l. Lexeme.name b ∷ l) (o ∙ ap (λ l. mark OpenIndex ∷ l) f.split);
  spells = subst (λ x. IsVariable (Lexeme.name b ∷ mark OpenIndex ∷ x) b l) (sym f.spells.1) (indexed f.spells.2);
  only = λ ts us u split h w. elim (variable_at b r ts us u.name u.indices (sym e ∙ split) w) [
    | inl same ↦ absurd (open_goes_on us s h (same.2 ∙ o))
    | inr i ↦
        let same = f.only i.0 us u.indices (same_rest o i.1) tt i.3 in
        (ap (λ x. record { name = x; indices = u.indices }) i.2 ∙ ap (λ x. record { name = b; indices = x }) same.0, same.1)
  ];
}

pub variable_bad_index : (tokens r s : List Lexeme) (b : List ℕ) → tokens ≡ Lexeme.name b ∷ r → r ≡ mark OpenIndex ∷ s → NoTree (IsBefore CloseIndex IsExprs) Always s → NoTree IsTarget (ends 4) tokens
unfolding VariableAt
variable_bad_index tokens r s b e o not ts us u split h w = elim (variable_at b r ts us u.name u.indices (sym e ∙ split) w) [
  | inl same ↦ open_goes_on us s h (same.2 ∙ o)
  | inr i ↦ not i.0 us u.indices (same_rest o i.1) tt i.3
]

-- what an atom is, by its first token
abbrev AtomAt : Lexeme → List Lexeme → ExprTree → List Lexeme → Type 0
AtomAt (Lexeme.numeral n) r u us = (u ≡ Tree.numeral n) × (us ≡ r)
AtomAt (Lexeme.text b p) r u us = (u ≡ Tree.text b) × (us ≡ r)
AtomAt (Lexeme.name b) r u us = (ts : List Lexeme) × (v : VarTree) × (Lexeme.name b ∷ r ≡ ts ++ us) × (u ≡ Tree.variable v.name v.indices) × IsTarget ts v
AtomAt (keyword Strlen p) r u us = (ts : List Lexeme) × (a : ExprTree) × (r ≡ mark Open ∷ (ts ++ us)) × (u ≡ Tree.strlen a) × IsBefore Close IsExpr ts a
AtomAt (mark Open) r u us = (ts : List Lexeme) × (r ≡ ts ++ us) × IsBefore Close IsExpr ts u
AtomAt _ r u us = ⊥

atom_at : (t : Lexeme) (r ts us : List Lexeme) (u : ExprTree) → t ∷ r ≡ ts ++ us → IsAtom ts u → AtomAt t r u us
atom_at t r ts us u e (numeral {n}) = let h : Lexeme.numeral n ≡ t = cc in let k : us ≡ r = cc in subst (λ x. AtomAt x r (Tree.numeral n) us) h (refl, k)
atom_at t r ts us u e (text {bytes} {at}) = let h : Lexeme.text bytes at ≡ t = cc in let k : us ≡ r = cc in subst (λ x. AtomAt x r (Tree.text bytes) us) h (refl, k)
atom_at t r ts us u e (variable {name} {indices} i) =
    let h : Lexeme.name name ≡ t = variable_head t r ts us name indices e i in
    let v : VarTree = record { name = name; indices = indices } in
    subst (λ x. AtomAt x r (Tree.variable name indices) us) h (ts, v, ap (λ x. x ∷ r) h ∙ e, refl, i)
atom_at t r ts us u e (strlen {ts = vs} {a} {at} i) =
    let h : keyword Strlen at ≡ t = cc in
    let k : r ≡ mark Open ∷ ((vs ++ mark Close ∷ []) ++ us) = cc in
    subst (λ x. AtomAt x r (Tree.strlen a) us) h (vs ++ mark Close ∷ [], a, k, refl, (vs, refl, i))
atom_at t r ts us u e (group {ts = vs} i) =
    let h : mark Open ≡ t = cc in
    let k : r ≡ (vs ++ mark Close ∷ []) ++ us = cc in
    subst (λ x. AtomAt x r u us) h (vs ++ mark Close ∷ [], k, (vs, refl, i))

power_head : (ts us r : List Lexeme) (u : ExprTree) → mark Minus ∷ r ≡ ts ++ us → IsPower ts u → ⊥
power_head ts us r u e (atom i) = atom_at (mark Minus) r ts us u e i
power_head ts us r u e (power {ts = vs} {us = ws} {a} i j) = atom_at (mark Minus) r vs (mark Caret ∷ (ws ++ us)) a (e ∙ append_assoc vs (mark Caret ∷ ws) us) i

signed_minus : (ts us r : List Lexeme) (u : ExprTree) → mark Minus ∷ r ≡ ts ++ us → IsSigned ts u → (vs : List Lexeme) × (a : ExprTree) × (r ≡ vs ++ us) × (u ≡ Tree.minus a) × IsSigned vs a
signed_minus ts us r u e (unsigned p) = absurd (power_head ts us r u e p)
signed_minus ts us r u e (minus {ts = vs} {a} i) = let k : r ≡ vs ++ us = cc in (vs, a, k, refl, i)

pub minus_reads : (tokens r after : List Lexeme) (a : ExprTree) → tokens ≡ mark Minus ∷ r → OneTree IsSigned (ends 3) r a after → OneTree IsSigned (ends 3) tokens (Tree.minus a) after
minus_reads tokens r after a e f = record {
  front = mark Minus ∷ f.front;
  split = e ∙ ap (λ l. mark Minus ∷ l) f.split;
  spells = minus f.spells;
  only = λ ts us u split ends w.
      let i = signed_minus ts us r u (sym e ∙ split) w in
      let same = f.only i.0 us i.1 i.2 ends i.4 in
      (i.3 ∙ ap Tree.minus same.0, same.1);
}

pub minus_none : (tokens r : List Lexeme) → tokens ≡ mark Minus ∷ r → NoTree IsSigned (ends 3) r → NoTree IsSigned (ends 3) tokens
minus_none tokens r e not ts us u split ends w = let i = signed_minus ts us r u (sym e ∙ split) w in not i.0 us i.1 i.2 ends i.4

signed_power : (tokens ts us : List Lexeme) (u : ExprTree) → ((r : List Lexeme) → tokens ≡ mark Minus ∷ r → ⊥) → tokens ≡ ts ++ us → IsSigned ts u → IsPower ts u
signed_power tokens ts us u none e (unsigned p) = p
signed_power tokens ts us u none e (minus {ts = vs} {a} i) = absurd (none (vs ++ us) e)

pub power_is_signed : (tokens : List Lexeme) → ((r : List Lexeme) → tokens ≡ mark Minus ∷ r → ⊥) → (a : ExprTree) (after : List Lexeme) → OneTree IsPower (ends 3) tokens a after → OneTree IsSigned (ends 3) tokens a after
power_is_signed tokens none a after f = record {
  front = f.front;
  split = f.split;
  spells = unsigned f.spells;
  only = λ ts us u split ends w. f.only ts us u split ends (signed_power tokens ts us u none split w);
}

pub no_power_signed : (tokens : List Lexeme) → ((r : List Lexeme) → tokens ≡ mark Minus ∷ r → ⊥) → NoTree IsPower (ends 3) tokens → NoTree IsSigned (ends 3) tokens
no_power_signed tokens none not ts us u split ends w = not ts us u split ends (signed_power tokens ts us u none split w)

-- an exponent is what is signed
pub exponent_of : {ts : List Lexeme} {a : ExprTree} → IsSigned ts a → IsExponent ts a
exponent_of (unsigned p) = positive p
exponent_of (minus i) = negative (exponent_of i)

signed_of : {ts : List Lexeme} {a : ExprTree} → IsExponent ts a → IsSigned ts a
signed_of (positive p) = unsigned p
signed_of (negative i) = minus (signed_of i)

-- what a power is once its base is read
After : (rest : List Lexeme) (a : ExprTree) (us : List Lexeme) (u : ExprTree) → Type 0
After rest a us u = ((u ≡ a) × (us ≡ rest)) ⊎ ((vs : List Lexeme) × (b : ExprTree) × (rest ≡ mark Caret ∷ (vs ++ us)) × (u ≡ Tree.power a b) × IsExponent vs b)

power_after : (tokens rest ts us : List Lexeme) (a u : ExprTree) → OneTree IsAtom (ends 4) tokens a rest → tokens ≡ ts ++ us → ends 3 us → IsPower ts u → After rest a us u
unfolding After
power_after tokens rest ts us a u f e ends (atom i) = inl (f.only ts us u e (ends_weaker 3 4 (omega arith) us ends) i)
power_after tokens rest ts us a u f e ends (power {ts = vs} {us = ws} {a = c} {b} i j) =
    let ended : 3 < 4 = omega arith in
    let same = f.only vs (mark Caret ∷ (ws ++ us)) c (e ∙ append_assoc vs (mark Caret ∷ ws) us) ended i in
    inr (ws, b, sym same.1, ap (λ x. Tree.power x b) same.0, j)

pub power_reads : (tokens rest r after : List Lexeme) (a b : ExprTree) → OneTree IsAtom (ends 4) tokens a rest → rest ≡ mark Caret ∷ r → OneTree IsSigned (ends 3) r b after → OneTree IsPower (ends 3) tokens (Tree.power a b) after
unfolding After
power_reads tokens rest r after a b f e g = record {
  front = f.front ++ mark Caret ∷ g.front;
  split = f.split ∙ ap (λ l. f.front ++ l) (e ∙ ap (λ l. mark Caret ∷ l) g.split) ∙ sym (append_assoc f.front (mark Caret ∷ g.front) after);
  spells = power f.spells (exponent_of g.spells);
  only = λ ts us u split h w. elim (power_after tokens rest ts us a u f split h w) [
    | inl same ↦ absurd (caret_goes_on us r h (same.1 ∙ e))
    | inr i ↦
        let k : r ≡ i.0 ++ us = tails e i.2 in
        let same = g.only i.0 us i.1 k h (signed_of i.4) in
        (i.3 ∙ ap (λ x. Tree.power a x) same.0, same.1)
  ];
}
  where
    caret_goes_on : (us r : List Lexeme) → ends 3 us → us ≡ mark Caret ∷ r → ⊥
    caret_goes_on us r h e = let lt : 3 < 3 = subst (ends 3) e h in omega (arith, lt)

    tails : {rest r s : List Lexeme} → rest ≡ mark Caret ∷ r → rest ≡ mark Caret ∷ s → r ≡ s
    tails e f = cc

pub power_none : (tokens rest r : List Lexeme) (a : ExprTree) → OneTree IsAtom (ends 4) tokens a rest → rest ≡ mark Caret ∷ r → NoTree IsSigned (ends 3) r → NoTree IsPower (ends 3) tokens
unfolding After
power_none tokens rest r a f e not ts us u split h w = elim (power_after tokens rest ts us a u f split h w) [
  | inl same ↦ (let lt : 3 < 3 = subst (ends 3) (same.1 ∙ e) h in omega (arith, lt))
  | inr i ↦ (let k : r ≡ i.0 ++ us = cc in not i.0 us i.1 k h (signed_of i.4))
]

pub atom_is_power : (tokens rest : List Lexeme) (a : ExprTree) → OneTree IsAtom (ends 4) tokens a rest → ((r : List Lexeme) → rest ≡ mark Caret ∷ r → ⊥) → OneTree IsPower (ends 3) tokens a rest
unfolding After
atom_is_power tokens rest a f none = record {
  front = f.front;
  split = f.split;
  spells = atom f.spells;
  only = λ ts us u split h w. elim (power_after tokens rest ts us a u f split h w) [
    | inl same ↦ same
    | inr i ↦ absurd (none (i.0 ++ us) i.2)
  ];
}

pub no_atom_power : (tokens : List Lexeme) → NoTree IsAtom (ends 4) tokens → NoTree IsPower (ends 3) tokens
no_atom_power tokens not ts us u split h (atom i) = not ts us u split (ends_weaker 3 4 (omega arith) us h) i
no_atom_power tokens not ts us u split h (power {ts = vs} {us = ws} {a = c} i j) =
    let ended : 3 < 4 = omega arith in
    not vs (mark Caret ∷ (ws ++ us)) c (split ∙ append_assoc vs (mark Caret ∷ ws) us) ended i

-- atoms
pub numeral_reads : (tokens r : List Lexeme) (n : ℤ) → tokens ≡ Lexeme.numeral n ∷ r → OneTree IsAtom (ends 4) tokens (Tree.numeral n) r
numeral_reads tokens r n e = record { front = Lexeme.numeral n ∷ []; split = e; spells = numeral; only = λ ts us u split h w. atom_at (Lexeme.numeral n) r ts us u (sym e ∙ split) w }

pub text_reads : (tokens r : List Lexeme) (b : List ℕ) (at : Place) → tokens ≡ Lexeme.text b at ∷ r → OneTree IsAtom (ends 4) tokens (Tree.text b) r
text_reads tokens r b at e = record { front = Lexeme.text b at ∷ []; split = e; spells = text; only = λ ts us u split h w. atom_at (Lexeme.text b at) r ts us u (sym e ∙ split) w }

pub variable_reads : (tokens r after : List Lexeme) (b : List ℕ) (v : VarTree) → tokens ≡ Lexeme.name b ∷ r → OneTree IsTarget (ends 4) tokens v after → OneTree IsAtom (ends 4) tokens (Tree.variable v.name v.indices) after
variable_reads tokens r after b v e f = record {
  front = f.front;
  split = f.split;
  spells = variable f.spells;
  only = λ ts us u split h w.
      let i = atom_at (Lexeme.name b) r ts us u (sym e ∙ split) w in
      let same = f.only i.0 us i.1 (e ∙ i.2) h i.4 in
      (i.3 ∙ ap (λ x. Tree.variable x.name x.indices) same.0, same.1);
}

pub variable_none : (tokens r : List Lexeme) (b : List ℕ) → tokens ≡ Lexeme.name b ∷ r → NoTree IsTarget (ends 4) tokens → NoTree IsAtom (ends 4) tokens
variable_none tokens r b e not ts us u split h w =
    let i = atom_at (Lexeme.name b) r ts us u (sym e ∙ split) w in
    not i.0 us i.1 (e ∙ i.2) h i.4

pub strlen_reads : (tokens r s after : List Lexeme) (a : ExprTree) (at : Place) → tokens ≡ keyword Strlen at ∷ r → r ≡ mark Open ∷ s → OneTree (IsBefore Close IsExpr) Always s a after → OneTree IsAtom (ends 4) tokens (Tree.strlen a) after
strlen_reads tokens r s after a at e o f = record {
  front = keyword Strlen at ∷ mark Open ∷ f.front;
  split = e ∙ ap (λ l. keyword Strlen at ∷ l) (o ∙ ap (λ l. mark Open ∷ l) f.split);
  spells = subst (λ l. IsAtom (keyword Strlen at ∷ mark Open ∷ l) (Tree.strlen a)) (sym f.spells.1) (strlen f.spells.2);
  only = λ ts us u split h w.
      let i = atom_at (keyword Strlen at) r ts us u (sym e ∙ split) w in
      let k : s ≡ i.0 ++ us = cc in
      let same = f.only i.0 us i.1 k tt i.4 in
      (i.3 ∙ ap Tree.strlen same.0, same.1);
}

pub strlen_none : (tokens r s : List Lexeme) (at : Place) → tokens ≡ keyword Strlen at ∷ r → r ≡ mark Open ∷ s → NoTree (IsBefore Close IsExpr) Always s → NoTree IsAtom (ends 4) tokens
strlen_none tokens r s at e o not ts us u split h w =
    let i = atom_at (keyword Strlen at) r ts us u (sym e ∙ split) w in
    let k : s ≡ i.0 ++ us = cc in
    not i.0 us i.1 k tt i.4

pub group_reads : (tokens r : List Lexeme) → tokens ≡ mark Open ∷ r → (a : ExprTree) (after : List Lexeme) → OneTree (IsBefore Close IsExpr) Always r a after → OneTree IsAtom (ends 4) tokens a after
group_reads tokens r e a after f = record {
  front = mark Open ∷ f.front;
  split = e ∙ ap (λ l. mark Open ∷ l) f.split;
  spells = subst (λ l. IsAtom (mark Open ∷ l) a) (sym f.spells.1) (group f.spells.2);
  only = λ ts us u split h w. let i = atom_at (mark Open) r ts us u (sym e ∙ split) w in f.only i.0 us u i.1 tt i.2;
}

pub group_none : (tokens r : List Lexeme) → tokens ≡ mark Open ∷ r → NoTree (IsBefore Close IsExpr) Always r → NoTree IsAtom (ends 4) tokens
group_none tokens r e not ts us u split h w = let i = atom_at (mark Open) r ts us u (sym e ∙ split) w in not i.0 us u i.1 tt i.2

-- whether an atom can begin with the token
abbrev pub begins_atom : Lexeme → Bool
begins_atom (Lexeme.numeral n) = true
begins_atom (Lexeme.text b at) = true
begins_atom (Lexeme.name b) = true
begins_atom (keyword Strlen at) = true
begins_atom (mark Open) = true
begins_atom _ = false

begins : (t : Lexeme) (r us : List Lexeme) (u : ExprTree) → AtomAt t r u us → begins_atom t ≡ true
begins (Lexeme.numeral n) r us u i = refl
begins (Lexeme.text b at) r us u i = refl
begins (Lexeme.name b) r us u i = refl
begins (keyword Strlen at) r us u i = refl
begins (mark Open) r us u i = refl
begins _ r us u i = absurd i

pub no_atom : (tokens r : List Lexeme) (t : Lexeme) → tokens ≡ t ∷ r → begins_atom t ≡ false → NoTree IsAtom (ends 4) tokens
no_atom tokens r t e f ts us u split h w = let b = begins t r us u (atom_at t r ts us u (sym e ∙ split) w) in absurd (cc)

-- STRLEN without a parenthesis is none
pub not_strlen : (r : List Lexeme) (at : Place) → ((s : List Lexeme) → r ≡ mark Open ∷ s → ⊥) → NoTree IsAtom (ends 4) (keyword Strlen at ∷ r)
not_strlen r at none ts us u split h w = let i = atom_at (keyword Strlen at) r ts us u split w in none (i.0 ++ us) i.2

-- nothing is no atom
pub nothing_atom : (tokens : List Lexeme) → tokens ≡ [] → NoTree IsAtom (ends 4) tokens
nothing_atom tokens e ts us u split h w = empty ts us u (sym e ∙ split) w
  where
    empty : (ts us : List Lexeme) (u : ExprTree) → [] ≡ ts ++ us → IsAtom ts u → ⊥
    empty ts us u e numeral = cc
    empty ts us u e text = cc
    empty ts us u e (variable unindexed) = cc
    empty ts us u e (variable (indexed i)) = cc
    empty ts us u e (strlen i) = cc
    empty ts us u e (group i) = cc

pub not_open_begins : (m : Mark) → (m ≡ Open → ⊥) → begins_atom (mark m) ≡ false
not_open_begins Open h = absurd (h refl)
not_open_begins _ h = refl

pub not_strlen_begins : (k : Keyword) (at : Place) → (k ≡ Strlen → ⊥) → begins_atom (keyword k at) ≡ false
not_strlen_begins Strlen at h = absurd (h refl)
not_strlen_begins _ at h = refl
