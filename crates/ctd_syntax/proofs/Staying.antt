-- What the tokens up to one say, whatever follows it.
use Rattle.std.proofs.Common.{◌≡◌, ℕ, List, [], ◌∷◌, ◌++◌, length, Option, Some, None, refl, sym, ap, ◌∙◌, subst, append_assoc, append-nil}
use Rattle.std.proofs.lemmas.List.{append_cancel_right}
use Rattle.ctd_syntax.specs.Lexeme.{Lexeme}
use Rattle.ctd_syntax.specs.inner.Front.{Stays, OneTree, NoTree, HasTree, HasNoTree, Spelling, Following, first_of, operator_at, after_operator}
use Rattle.ctd_syntax.proofs.Chains.{operator_is}

-- the first behind some front
pub first_behind : (front left others : List Lexeme) → first_of others ≡ first_of left → first_of (front ++ others) ≡ first_of (front ++ left)
first_behind [] left others e = e
first_behind (t ∷ ts) left others e = refl

-- what the first token is
pub begins : (tokens : List Lexeme) (t : Lexeme) → first_of tokens ≡ Some t → (r : List Lexeme) × (tokens ≡ t ∷ r)
begins [] t e = absurd (cc)
begins (s ∷ r) t e = let same : s ≡ t = cc in (r, ap (λ x. x ∷ r) same)

-- what the first token alone says
abbrev pub at_first : (P : List Lexeme → List Lexeme → Type 0) (tokens : List Lexeme) → ((others : List Lexeme) → first_of others ≡ first_of tokens → P others others) → Stays P tokens tokens
at_first P tokens h = record { front = []; split = refl; holds = h }

abbrev pub nothing_read : (tokens : List Lexeme) → Stays (λ ts us. ts ≡ us) tokens tokens
nothing_read tokens = record { front = []; split = refl; holds = λ others e. refl }

-- a token is read
abbrev pub one_read : (t : Lexeme) (tokens r : List Lexeme) → tokens ≡ t ∷ r → Stays (λ ts us. ts ≡ t ∷ us) tokens r
one_read t tokens r e = record { front = t ∷ []; split = e; holds = λ others f. refl }

-- one follows from the other
abbrev pub so : (P Q : List Lexeme → List Lexeme → Type 0) (tokens left : List Lexeme) → ((ts us : List Lexeme) → P ts us → Q ts us) → Stays P tokens left → Stays Q tokens left
so P Q tokens left k f = record { front = f.front; split = f.split; holds = λ others e. k (f.front ++ others) others (f.holds others e) }

-- one is read and then the other
abbrev pub and_then : (P Q R : List Lexeme → List Lexeme → Type 0) (tokens rest left : List Lexeme) → ((ts vs us : List Lexeme) → P ts vs → Q vs us → R ts us) → Stays P tokens rest → Stays Q rest left → Stays R tokens left
and_then P Q R tokens rest left k f g = record {
  front = f.front ++ g.front;
  split = f.split ∙ ap (λ l. f.front ++ l) g.split ∙ sym (append_assoc f.front g.front left);
  holds = λ others e. subst (λ l. R l others) (sym (append_assoc f.front g.front others))
      (k (f.front ++ (g.front ++ others)) (g.front ++ others) others (f.holds (g.front ++ others) (first_behind g.front left others e ∙ ap first_of (sym g.split))) (g.holds others e));
}

-- what does not come first here does not behind the same first token
pub not_then : (t : Lexeme) (tokens : List Lexeme) → ((r : List Lexeme) → tokens ≡ t ∷ r → ⊥) → (others : List Lexeme) → first_of others ≡ first_of tokens → (r : List Lexeme) → others ≡ t ∷ r → ⊥
not_then t tokens none others e r is = let b = begins tokens t (sym e ∙ ap first_of is) in none b.0 b.1

-- the first token stays the same behind what is read
pub same_first : (P : List Lexeme → List Lexeme → Type 0) (tokens left : List Lexeme) (f : Stays P tokens left) (others : List Lexeme) → first_of others ≡ first_of left → first_of (f.front ++ others) ≡ first_of tokens
same_first P tokens left f others e = first_behind f.front left others e ∙ ap first_of (sym f.split)

-- another token comes first
pub not_first : (t : Lexeme) (tokens : List Lexeme) → ((r : List Lexeme) → tokens ≡ t ∷ r → ⊥) → Stays (λ ts us. (r : List Lexeme) → ts ≡ t ∷ r → ⊥) tokens tokens
not_first t tokens none = at_first (λ ts us. (r : List Lexeme) → ts ≡ t ∷ r → ⊥) tokens
    (λ others e r is. let b = begins tokens t (sym e ∙ ap first_of is) in none b.0 b.1)

-- an operator comes first, or none does
abbrev pub operator_read : {O : Type 0} (op : Lexeme → Option O) (tokens r : List Lexeme) (o : O) → operator_at op tokens ≡ Some (o, r) → Stays (λ ts us. operator_at op ts ≡ Some (o, us)) tokens r
operator_read op tokens r o e =
    let is = operator_is op tokens r o e in
    record { front = is.0 ∷ []; split = is.1; holds = λ others f. ap (λ x. after_operator x others) is.2 }

pub none_first : {O : Type 0} (op : Lexeme → Option O) (tokens others : List Lexeme) → operator_at op tokens ≡ None → first_of others ≡ first_of tokens → operator_at op others ≡ None
none_first op tokens [] none e = refl
none_first op [] (t ∷ ts) none e = absurd (cc)
none_first op (s ∷ ss) (t ∷ ts) none e =
    let same : t ≡ s = cc in
    ap (λ x. after_operator (op x) ts) same ∙ none_of (op s) ss ts none
  where
    none_of : {O : Type 0} (x : Option O) (ss ts : List Lexeme) → after_operator x ss ≡ None → after_operator x ts ≡ None
    none_of None ss ts e = refl
    none_of (Some o) ss ts e = absurd (cc)

pub no_operator_read : {O : Type 0} (op : Lexeme → Option O) (tokens : List Lexeme) → operator_at op tokens ≡ None → Stays (λ ts us. operator_at op ts ≡ None) tokens tokens
no_operator_read op tokens none = at_first (λ ts us. operator_at op ts ≡ None) tokens (λ others e. none_first op tokens others none e)

-- the front of a tree that is read spells it
pub spells_of : {T : Type 0} (A : Spelling T) (E : Following) (tokens after : List Lexeme) (t : T) → (f : HasTree A E tokens t after) → A f.front t
spells_of A E tokens after t f =
    let o = f.holds after refl in
    subst (λ l. A l t) (sym (append_cancel_right f.front o.front after o.split)) o.spells

-- what is read here
pub read_here : {T : Type 0} (A : Spelling T) (E : Following) (tokens after : List Lexeme) (t : T) → HasTree A E tokens t after → OneTree A E tokens t after
read_here A E tokens after t f = subst (λ l. OneTree A E l t after) (sym f.split) (f.holds after refl)

pub none_here : {T : Type 0} (A : Spelling T) (E : Following) (tokens : List Lexeme) (left : ℕ) → HasNoTree A E tokens left → NoTree A E tokens
none_here A E tokens left n = subst (NoTree A E) (sym n.known.split) (n.known.holds n.rest refl)

-- no tree, since none is further on
pub none_after : {T U : Type 0} (A : Spelling T) (B : Spelling U) (E F : Following) (P : List Lexeme → List Lexeme → Type 0) (tokens rest : List Lexeme) (read : Stays P tokens rest) → ((ts us : List Lexeme) → P ts us → NoTree A E us → NoTree B F ts) → ((ts : List Lexeme) (a : T) → A ts a → (us : List Lexeme) × (b : U) × B (read.front ++ (ts ++ us)) b) → (left : ℕ) → HasNoTree A E rest left → HasNoTree B F tokens left
none_after A B E F P tokens rest read none completes left n =
    let whole = completes (n.known.front ++ n.more) n.some n.goes_on in
    record {
      rest = n.rest;
      counted = n.counted;
      known = and_then P (λ ts us. NoTree A E ts) (λ ts us. NoTree B F ts) tokens rest n.rest (λ ts vs us p q. none ts vs p q) read n.known;
      more = n.more ++ whole.0;
      some = whole.1;
      goes_on = subst (λ l. B l whole.1) (regroup read.front n.known.front n.more whole.0) whole.2;
    }
  where
    regroup : (a b c d : List Lexeme) → a ++ ((b ++ c) ++ d) ≡ (a ++ b) ++ (c ++ d)
    regroup a b c d = ap (λ l. a ++ l) (append_assoc b c d) ∙ sym (append_assoc a b (c ++ d))

-- no tree, by what is read up to here
pub none_at : {U : Type 0} (B : Spelling U) (F : Following) (P : List Lexeme → List Lexeme → Type 0) (tokens rest : List Lexeme) (read : Stays P tokens rest) → ((ts us : List Lexeme) → P ts us → NoTree B F ts) → (us : List Lexeme) (b : U) → B (read.front ++ us) b → HasNoTree B F tokens (length rest)
none_at B F P tokens rest read none us b i = record {
  rest = rest;
  counted = refl;
  known = so P (λ ts us. NoTree B F ts) tokens rest (λ ts vs p. none ts vs p) read;
  more = us;
  some = b;
  goes_on = i;
}

-- at the first token
pub none_first_at : {U : Type 0} (B : Spelling U) (F : Following) (tokens : List Lexeme) → ((others : List Lexeme) → first_of others ≡ first_of tokens → NoTree B F others) → (us : List Lexeme) (b : U) → B us b → HasNoTree B F tokens (length tokens)
none_first_at B F tokens none us b i = none_at B F (λ ts vs. NoTree B F ts) tokens tokens (at_first (λ ts vs. NoTree B F ts) tokens none) (λ ts vs p. p) us b i

-- no tree, since none of another kind is here
pub none_same : {T U : Type 0} (A : Spelling T) (B : Spelling U) (E F : Following) (tokens : List Lexeme) → ((ts : List Lexeme) → NoTree A E ts → NoTree B F ts) → ((ts : List Lexeme) (a : T) → A ts a → (us : List Lexeme) × (b : U) × B (ts ++ us) b) → (left : ℕ) → HasNoTree A E tokens left → HasNoTree B F tokens left
none_same A B E F tokens none completes left n = record {
  rest = n.rest;
  counted = n.counted;
  known = so (λ ts us. NoTree A E ts) (λ ts us. NoTree B F ts) tokens n.rest (λ ts us not. none ts not) n.known;
  more = n.more ++ (completes (n.known.front ++ n.more) n.some n.goes_on).0;
  some = (completes (n.known.front ++ n.more) n.some n.goes_on).1;
  goes_on = subst (λ l. B l (completes (n.known.front ++ n.more) n.some n.goes_on).1) (append_assoc n.known.front n.more (completes (n.known.front ++ n.more) n.some n.goes_on).0) (completes (n.known.front ++ n.more) n.some n.goes_on).2;
}

-- no tree, since none is behind a token
pub none_behind : {T U : Type 0} (A : Spelling T) (B : Spelling U) (E F : Following) (t : Lexeme) (tokens r : List Lexeme) → tokens ≡ t ∷ r → ((ts us : List Lexeme) → ts ≡ t ∷ us → NoTree A E us → NoTree B F ts) → ((ts : List Lexeme) (a : T) → A ts a → (us : List Lexeme) × (b : U) × B (t ∷ (ts ++ us)) b) → (left : ℕ) → HasNoTree A E r left → HasNoTree B F tokens left
none_behind A B E F t tokens r e none completes left n = none_after A B E F (λ ts us. ts ≡ t ∷ us) tokens r (one_read t tokens r e) none completes left n

-- nothing is added
pub whole : {T : Type 0} (A : Spelling T) (ts : List Lexeme) (a : T) → A ts a → A (ts ++ []) a
whole A ts a i = subst (λ l. A l a) (sym (append-nil ts)) i
