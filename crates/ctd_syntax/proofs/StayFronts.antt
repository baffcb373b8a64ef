-- What reading one sort says of another, whatever follows.
use Rattle.std.proofs.Common.{◌≡◌, ℕ, List, [], ◌∷◌, ◌++◌, length, Result, Ok, Err, refl, sym, subst}
use Rattle.ctd_syntax.specs.Lexeme.{Lexeme, mark, keyword}
use Rattle.ctd_syntax.specs.inner.Front.{OneTree, HasTree, HasNoTree, IsRefusal, FindsTree, Always, IsBefore, IsBeforeWord, IsAfter, IsBuilt, IsPair, IsName, Spelling, Following}
use Rattle.ctd_syntax.specs.declared.keyword.Keyword.{Keyword}
use Rattle.ctd_token.specs.declared.text.Place.{Place}
use Rattle.ctd_token.specs.declared.token.Mark.{Mark}
use Rattle.ctd_syntax.specs.declared.front.ParseError.{ParseError}
use Rattle.ctd_syntax.specs.declared.front.ParseError.TheVariants.{Syntax, Memory}
use Rattle.ctd_syntax.proofs.Fronts as here
use Rattle.ctd_syntax.proofs.Staying.{one_read, so, and_then, not_then, spells_of, none_after, none_same, none_behind, none_first_at, whole}

-- a refusal of one sort is one of another
pub refused_as : {T U : Type 0} (A : List Lexeme → T → Type 0) (B : List Lexeme → U → Type 0) (E F : List Lexeme → Type 0) (s tokens : List Lexeme) (e : ParseError) → ((left : ℕ) → HasNoTree A E s left → HasNoTree B F tokens left) → IsRefusal A E e s → IsRefusal B F e tokens
refused_as A B E F s tokens Memory no_tree r = tt
refused_as A B E F s tokens (Syntax left) no_tree r = no_tree left r

-- a reading of one sort is one of another
pub reads_as : {X T : Type 0} (A B : List Lexeme → T → Type 0) (E F : List Lexeme → Type 0) (view : X → T × List Lexeme) (s tokens : List Lexeme) (read : Result X ParseError) → ((t : T) (after : List Lexeme) → HasTree A E s t after → HasTree B F tokens t after) → ((left : ℕ) → HasNoTree A E s left → HasNoTree B F tokens left) → FindsTree A E view read s → FindsTree B F view read tokens
reads_as A B E F view s tokens (Ok x) found no_tree p = found (view x).0 (view x).1 p
reads_as A B E F view s tokens (Err e) found no_tree p = refused_as A B E F s tokens e no_tree p

-- a refusal here
pub no_tree_as : {U : Type 0} (B : List Lexeme → U → Type 0) (F : List Lexeme → Type 0) (tokens : List Lexeme) (left : ℕ) (e : ParseError) → e ≡ Syntax left → HasNoTree B F tokens left → IsRefusal B F e tokens
no_tree_as B F tokens left e is no_tree = subst (λ x. IsRefusal B F x tokens) (sym is) no_tree

-- the number of tokens left, counted otherwise
pub counted_as : {U : Type 0} (B : Spelling U) (F : Following) (tokens : List Lexeme) (n m : ℕ) → n ≡ m → HasNoTree B F tokens n → HasNoTree B F tokens m
counted_as B F tokens n m e not = subst (HasNoTree B F tokens) e not

-- a tree and the mark behind it
pub before_reads : {T : Type 0} (Spells : Spelling T) (Ends : Following) (end_mark : Mark) → ((us : List Lexeme) → Ends (mark end_mark ∷ us)) → (tokens rest r : List Lexeme) (a : T) → HasTree Spells Ends tokens a rest → rest ≡ mark end_mark ∷ r → HasTree (IsBefore end_mark Spells) Always tokens a r
before_reads Spells Ends end_mark ended tokens rest r a f e =
    and_then (λ ts us. OneTree Spells Ends ts a us) (λ ts us. ts ≡ mark end_mark ∷ us) (λ ts us. OneTree (IsBefore end_mark Spells) Always ts a us) tokens rest r
    (λ ts vs us p q. here.before_reads Spells Ends end_mark ended ts vs us a p q) f (one_read (mark end_mark) rest r e)

pub before_none : {T : Type 0} (Spells : Spelling T) (Ends : Following) (end_mark : Mark) → ((us : List Lexeme) → Ends (mark end_mark ∷ us)) → (tokens rest : List Lexeme) (a : T) → HasTree Spells Ends tokens a rest → ((r : List Lexeme) → rest ≡ mark end_mark ∷ r → ⊥) → HasNoTree (IsBefore end_mark Spells) Always tokens (length rest)
before_none Spells Ends end_mark ended tokens rest a f none = record {
  rest = rest;
  counted = refl;
  known = record { front = f.front; split = f.split; holds = λ others e. here.before_none Spells Ends end_mark ended (f.front ++ others) others a (f.holds others e) (not_then (mark end_mark) rest none others e) };
  more = mark end_mark ∷ [];
  some = a;
  goes_on = (f.front, refl, spells_of Spells Ends tokens rest a f);
}

pub none_before : {T : Type 0} (Spells : Spelling T) (Ends : Following) (end_mark : Mark) → ((us : List Lexeme) → Ends (mark end_mark ∷ us)) → (tokens : List Lexeme) (left : ℕ) → HasNoTree Spells Ends tokens left → HasNoTree (IsBefore end_mark Spells) Always tokens left
none_before Spells Ends end_mark ended tokens left n = none_same Spells (IsBefore end_mark Spells) Ends Always tokens (λ ts not. here.none_before Spells Ends end_mark ended ts not) (λ ts a i. (mark end_mark ∷ [], a, (ts, refl, i))) left n

-- a tree and the word behind it
pub word_reads : {T : Type 0} (Spells : Spelling T) (Ends : Following) (k : Keyword) → ((at : Place) (us : List Lexeme) → Ends (keyword k at ∷ us)) → (tokens rest r : List Lexeme) (a : T) (at : Place) → HasTree Spells Ends tokens a rest → rest ≡ keyword k at ∷ r → HasTree (IsBeforeWord k Spells) Always tokens a r
word_reads Spells Ends k ended tokens rest r a at f e =
    and_then (λ ts us. OneTree Spells Ends ts a us) (λ ts us. ts ≡ keyword k at ∷ us) (λ ts us. OneTree (IsBeforeWord k Spells) Always ts a us) tokens rest r
    (λ ts vs us p q. here.word_reads Spells Ends k ended ts vs us a at p q) f (one_read (keyword k at) rest r e)

-- some place
abbrev pub some_place : Place
some_place = record { line = 1; column = 1 }

pub word_none : {T : Type 0} (Spells : Spelling T) (Ends : Following) (k : Keyword) → ((at : Place) (us : List Lexeme) → Ends (keyword k at ∷ us)) → (tokens rest : List Lexeme) (a : T) → HasTree Spells Ends tokens a rest → ((at : Place) (r : List Lexeme) → rest ≡ keyword k at ∷ r → ⊥) → HasNoTree (IsBeforeWord k Spells) Always tokens (length rest)
word_none Spells Ends k ended tokens rest a f none = record {
  rest = rest;
  counted = refl;
  known = record { front = f.front; split = f.split; holds = λ others e. here.word_none Spells Ends k ended (f.front ++ others) others a (f.holds others e) (λ at r is. not_then (keyword k at) rest (none at) others e r is) };
  more = keyword k some_place ∷ [];
  some = a;
  goes_on = (f.front, some_place, refl, spells_of Spells Ends tokens rest a f);
}

pub none_word : {T : Type 0} (Spells : Spelling T) (Ends : Following) (k : Keyword) → ((at : Place) (us : List Lexeme) → Ends (keyword k at ∷ us)) → (tokens : List Lexeme) (left : ℕ) → HasNoTree Spells Ends tokens left → HasNoTree (IsBeforeWord k Spells) Always tokens left
none_word Spells Ends k ended tokens left n = none_same Spells (IsBeforeWord k Spells) Ends Always tokens (λ ts not. here.none_word Spells Ends k ended ts not) (λ ts a i. (keyword k some_place ∷ [], a, (ts, some_place, refl, i))) left n

-- the same tokens spell trees of another kind
pub found_as : {T U : Type 0} (A : Spelling T) (B : Spelling U) (E : Following) (f : T → U) → ((ts : List Lexeme) (a : T) → A ts a → B ts (f a)) → ((ts : List Lexeme) (b : U) → B ts b → (a : T) × (f a ≡ b) × A ts a) → (tokens rest : List Lexeme) (a : T) → HasTree A E tokens a rest → HasTree B E tokens (f a) rest
found_as A B E f to from tokens rest a found = so (λ ts us. OneTree A E ts a us) (λ ts us. OneTree B E ts (f a) us) tokens rest (λ ts us p. here.found_as A B E f to from ts us a p) found

pub none_as : {T U : Type 0} (A : Spelling T) (B : Spelling U) (E : Following) (f : T → U) → ((ts : List Lexeme) (a : T) → A ts a → B ts (f a)) → ((ts : List Lexeme) (b : U) → B ts b → (a : T) × (f a ≡ b) × A ts a) → (tokens : List Lexeme) (left : ℕ) → HasNoTree A E tokens left → HasNoTree B E tokens left
none_as A B E f to from tokens left n = none_same A B E E tokens (λ ts not. here.none_as A B E f from ts not) (λ ts a i. ([], f a, whole B ts (f a) (to ts a i))) left n

-- a tree that is built of others
pub built : {T U : Type 0} (f : T → U) (A : Spelling T) (E : Following) (tokens rest : List Lexeme) (x : T) → HasTree A E tokens x rest → HasTree (IsBuilt f A) E tokens (f x) rest
built f A E tokens rest x found = so (λ ts us. OneTree A E ts x us) (λ ts us. OneTree (IsBuilt f A) E ts (f x) us) tokens rest (λ ts us p. here.built f A E ts us x p) found

pub not_built : {T U : Type 0} (f : T → U) (A : Spelling T) (E : Following) (tokens : List Lexeme) (left : ℕ) → HasNoTree A E tokens left → HasNoTree (IsBuilt f A) E tokens left
not_built f A E tokens left n = none_same A (IsBuilt f A) E E tokens (λ ts not. here.not_built f A E ts not) (λ ts a i. ([], f a, (a, refl, whole A ts a i))) left n

-- a tree behind a mark
pub after_reads : {T : Type 0} (Spells : Spelling T) (Ends : Following) (first : Mark) (tokens r after : List Lexeme) (a : T) → tokens ≡ mark first ∷ r → HasTree Spells Ends r a after → HasTree (IsAfter first Spells) Ends tokens a after
after_reads Spells Ends first tokens r after a e f =
    and_then (λ ts us. ts ≡ mark first ∷ us) (λ ts us. OneTree Spells Ends ts a us) (λ ts us. OneTree (IsAfter first Spells) Ends ts a us) tokens r after
    (λ ts vs us p q. here.after_reads Spells Ends first ts vs us a p q) (one_read (mark first) tokens r e) f

pub after_none : {T : Type 0} (Spells : Spelling T) (Ends : Following) (first : Mark) (tokens r : List Lexeme) → tokens ≡ mark first ∷ r → (left : ℕ) → HasNoTree Spells Ends r left → HasNoTree (IsAfter first Spells) Ends tokens left
after_none Spells Ends first tokens r e left n = none_behind Spells (IsAfter first Spells) Ends Ends (mark first) tokens r e (λ ts us p not. here.after_none Spells Ends first ts us p not) (λ ts a i. ([], a, (ts ++ [], refl, whole Spells ts a i))) left n

-- some tokens that spell a tree
abbrev pub Possible : {T : Type 0} → Spelling T → Type 0
Possible {T} A = (ts : List Lexeme) × (a : T) × A ts a

pub not_after : {T : Type 0} (Spells : Spelling T) (Ends : Following) (first : Mark) → Possible Spells → (tokens : List Lexeme) → ((r : List Lexeme) → tokens ≡ mark first ∷ r → ⊥) → HasNoTree (IsAfter first Spells) Ends tokens (length tokens)
not_after Spells Ends first possible tokens none = none_first_at (IsAfter first Spells) Ends tokens (λ others e. here.not_after Spells Ends first others (not_then (mark first) tokens none others e)) (mark first ∷ possible.0) possible.1 (possible.0, refl, possible.2)

-- one tree and then another, where the first ends before the second
pub pair_reads : {T U : Type 0} (A : Spelling T) (B : Spelling U) (E F : Following) → ((vs us : List Lexeme) (b : U) → B vs b → F us → E (vs ++ us)) → (tokens rest after : List Lexeme) (a : T) (b : U) → HasTree A E tokens a rest → HasTree B F rest b after → HasTree (IsPair A B) F tokens (a, b) after
pair_reads A B E F ends tokens rest after a b f g =
    and_then (λ ts us. OneTree A E ts a us) (λ ts us. OneTree B F ts b us) (λ ts us. OneTree (IsPair A B) F ts (a, b) us) tokens rest after
    (λ ts vs us p q. here.pair_reads A B E F ends ts vs us a b p q) f g

pub first_none : {T U : Type 0} (A : Spelling T) (B : Spelling U) (E F : Following) → ((vs us : List Lexeme) (b : U) → B vs b → F us → E (vs ++ us)) → Possible B → (tokens : List Lexeme) (left : ℕ) → HasNoTree A E tokens left → HasNoTree (IsPair A B) F tokens left
first_none A B E F ends possible tokens left n = none_same A (IsPair A B) E F tokens (λ ts not. here.first_none A B E F ends ts not) (λ ts a i. (possible.0, (a, possible.1), (ts, possible.0, refl, i, possible.2))) left n

pub second_none : {T U : Type 0} (A : Spelling T) (B : Spelling U) (E F : Following) → ((vs us : List Lexeme) (b : U) → B vs b → F us → E (vs ++ us)) → (tokens rest : List Lexeme) (a : T) → HasTree A E tokens a rest → (left : ℕ) → HasNoTree B F rest left → HasNoTree (IsPair A B) F tokens left
second_none A B E F ends tokens rest a f left n = none_after B (IsPair A B) F F (λ ts us. OneTree A E ts a us) tokens rest f (λ ts us p not. here.second_none A B E F ends ts us a p not) (λ ts b i. ([], (a, b), (f.front, ts ++ [], refl, spells_of A E tokens rest a f, whole B ts b i))) left n

-- one name
pub name_found : (tokens rest : List Lexeme) (n : List ℕ) → tokens ≡ Lexeme.name n ∷ rest → HasTree IsName Always tokens n rest
name_found tokens rest n e = record { front = Lexeme.name n ∷ []; split = e; holds = λ others f. here.name_found (Lexeme.name n ∷ others) others n refl }

pub name_none : (tokens : List Lexeme) → ((n : List ℕ) (ts : List Lexeme) → tokens ≡ Lexeme.name n ∷ ts → ⊥) → HasNoTree IsName Always tokens (length tokens)
name_none tokens none = none_first_at IsName Always tokens (λ others e. here.name_none others (λ n ts is. not_then (Lexeme.name n) tokens (none n) others e ts is)) (Lexeme.name [] ∷ []) [] refl
