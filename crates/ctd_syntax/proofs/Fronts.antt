-- What reading one sort says of another.
use Rattle.std.proofs.Common.{◌≡◌, ℕ, List, [], ◌∷◌, ◌++◌, refl, sym, ap, ◌∙◌, append_assoc}
use Rattle.ctd_syntax.specs.Lexeme.{Lexeme, mark, keyword}
use Rattle.ctd_syntax.specs.inner.Front.{OneTree, NoTree, Always, IsBefore, IsBeforeWord, IsAfter, IsBuilt, IsPair, IsName, Spelling, Following}
use Rattle.ctd_syntax.specs.declared.keyword.Keyword.{Keyword}
use Rattle.ctd_token.specs.declared.text.Place.{Place}
use Rattle.ctd_token.specs.declared.token.Mark.{Mark}

-- fewer tokens may follow
pub found_under : {T : Type 0} (A : Spelling T) (E F : Following) → ((us : List Lexeme) → F us → E us) → (tokens after : List Lexeme) (t : T) → OneTree A E tokens t after → OneTree A F tokens t after
found_under A E F less tokens after t f = record {
  front = f.front;
  split = f.split;
  spells = f.spells;
  only = λ ts us u split h w. f.only ts us u split (less us h) w;
}

pub none_under : {T : Type 0} (A : Spelling T) (E F : Following) → ((us : List Lexeme) → F us → E us) → (tokens : List Lexeme) → NoTree A E tokens → NoTree A F tokens
none_under A E F less tokens not ts us u split h w = not ts us u split (less us h) w

-- a tree and the mark behind it
pub before_reads : {T : Type 0} (Spells : Spelling T) (Ends : Following) (end_mark : Mark) → ((us : List Lexeme) → Ends (mark end_mark ∷ us)) → (tokens rest r : List Lexeme) (a : T) → OneTree Spells Ends tokens a rest → rest ≡ mark end_mark ∷ r → OneTree (IsBefore end_mark Spells) Always tokens a r
before_reads Spells Ends end_mark ended tokens rest r a f e = record {
  front = f.front ++ mark end_mark ∷ [];
  split = f.split ∙ ap (λ l. f.front ++ l) e ∙ sym (append_assoc f.front (mark end_mark ∷ []) r);
  spells = (f.front, refl, f.spells);
  only = λ ts us u split h w.
      let same = f.only w.0 (mark end_mark ∷ us) u (split ∙ ap (λ l. l ++ us) w.1 ∙ append_assoc w.0 (mark end_mark ∷ []) us) (ended us) w.2 in
      let closing : mark end_mark ∷ us ≡ mark end_mark ∷ r = same.1 ∙ e in
      let k : us ≡ r = cc in
      (same.0, k);
}

pub before_none : {T : Type 0} (Spells : Spelling T) (Ends : Following) (end_mark : Mark) → ((us : List Lexeme) → Ends (mark end_mark ∷ us)) → (tokens rest : List Lexeme) (a : T) → OneTree Spells Ends tokens a rest → ((r : List Lexeme) → rest ≡ mark end_mark ∷ r → ⊥) → NoTree (IsBefore end_mark Spells) Always tokens
before_none Spells Ends end_mark ended tokens rest a f none ts us u split h w =
    let same = f.only w.0 (mark end_mark ∷ us) u (split ∙ ap (λ l. l ++ us) w.1 ∙ append_assoc w.0 (mark end_mark ∷ []) us) (ended us) w.2 in
    none us (sym same.1)

pub none_before : {T : Type 0} (Spells : Spelling T) (Ends : Following) (end_mark : Mark) → ((us : List Lexeme) → Ends (mark end_mark ∷ us)) → (tokens : List Lexeme) → NoTree Spells Ends tokens → NoTree (IsBefore end_mark Spells) Always tokens
none_before Spells Ends end_mark ended tokens not ts us u split h w =
    not w.0 (mark end_mark ∷ us) u (split ∙ ap (λ l. l ++ us) w.1 ∙ append_assoc w.0 (mark end_mark ∷ []) us) (ended us) w.2

-- a tree and the word behind it
pub word_reads : {T : Type 0} (Spells : Spelling T) (Ends : Following) (k : Keyword) → ((at : Place) (us : List Lexeme) → Ends (keyword k at ∷ us)) → (tokens rest r : List Lexeme) (a : T) (at : Place) → OneTree Spells Ends tokens a rest → rest ≡ keyword k at ∷ r → OneTree (IsBeforeWord k Spells) Always tokens a r
word_reads Spells Ends k ended tokens rest r a at f e = record {
  front = f.front ++ keyword k at ∷ [];
  split = f.split ∙ ap (λ l. f.front ++ l) e ∙ sym (append_assoc f.front (keyword k at ∷ []) r);
  spells = (f.front, at, refl, f.spells);
  only = λ ts us u split h w.
      let same = f.only w.0 (keyword k w.1 ∷ us) u (split ∙ ap (λ l. l ++ us) w.2 ∙ append_assoc w.0 (keyword k w.1 ∷ []) us) (ended w.1 us) w.3 in
      let closing : keyword k w.1 ∷ us ≡ keyword k at ∷ r = same.1 ∙ e in
      let tail : us ≡ r = cc in
      (same.0, tail);
}

pub word_none : {T : Type 0} (Spells : Spelling T) (Ends : Following) (k : Keyword) → ((at : Place) (us : List Lexeme) → Ends (keyword k at ∷ us)) → (tokens rest : List Lexeme) (a : T) → OneTree Spells Ends tokens a rest → ((at : Place) (r : List Lexeme) → rest ≡ keyword k at ∷ r → ⊥) → NoTree (IsBeforeWord k Spells) Always tokens
word_none Spells Ends k ended tokens rest a f none ts us u split h w =
    let same = f.only w.0 (keyword k w.1 ∷ us) u (split ∙ ap (λ l. l ++ us) w.2 ∙ append_assoc w.0 (keyword k w.1 ∷ []) us) (ended w.1 us) w.3 in
    none w.1 us (sym same.1)

pub none_word : {T : Type 0} (Spells : Spelling T) (Ends : Following) (k : Keyword) → ((at : Place) (us : List Lexeme) → Ends (keyword k at ∷ us)) → (tokens : List Lexeme) → NoTree Spells Ends tokens → NoTree (IsBeforeWord k Spells) Always tokens
none_word Spells Ends k ended tokens not ts us u split h w =
    not w.0 (keyword k w.1 ∷ us) u (split ∙ ap (λ l. l ++ us) w.2 ∙ append_assoc w.0 (keyword k w.1 ∷ []) us) (ended w.1 us) w.3

-- the same tokens spell trees of another kind
pub found_as : {T U : Type 0} (A : Spelling T) (B : Spelling U) (E : Following) (f : T → U) → ((ts : List Lexeme) (a : T) → A ts a → B ts (f a)) → ((ts : List Lexeme) (b : U) → B ts b → (a : T) × (f a ≡ b) × A ts a) → (tokens rest : List Lexeme) (a : T) → OneTree A E tokens a rest → OneTree B E tokens (f a) rest
found_as A B E f to from tokens rest a found = record {
  front = found.front;
  split = found.split;
  spells = to found.front a found.spells;
  only = λ ts us u split h w.
      let i = from ts u w in
      let same = found.only ts us i.0 split h i.2 in
      (sym i.1 ∙ ap f same.0, same.1);
}

pub none_as : {T U : Type 0} (A : Spelling T) (B : Spelling U) (E : Following) (f : T → U) → ((ts : List Lexeme) (b : U) → B ts b → (a : T) × (f a ≡ b) × A ts a) → (tokens : List Lexeme) → NoTree A E tokens → NoTree B E tokens
none_as A B E f from tokens not ts us u split h w = let i = from ts u w in not ts us i.0 split h i.2

-- a tree that is built of others
pub built : {T U : Type 0} (f : T → U) (A : Spelling T) (E : Following) (tokens rest : List Lexeme) (x : T) → OneTree A E tokens x rest → OneTree (IsBuilt f A) E tokens (f x) rest
built f A E tokens rest x found = found_as A (IsBuilt f A) E f (λ ts a i. (a, refl, i)) (λ ts b w. (w.0, sym w.1, w.2)) tokens rest x found

pub not_built : {T U : Type 0} (f : T → U) (A : Spelling T) (E : Following) (tokens : List Lexeme) → NoTree A E tokens → NoTree (IsBuilt f A) E tokens
not_built f A E tokens not = none_as A (IsBuilt f A) E f (λ ts b w. (w.0, sym w.1, w.2)) tokens not

-- a tree behind a mark
pub after_reads : {T : Type 0} (Spells : Spelling T) (Ends : Following) (first : Mark) (tokens r after : List Lexeme) (a : T) → tokens ≡ mark first ∷ r → OneTree Spells Ends r a after → OneTree (IsAfter first Spells) Ends tokens a after
after_reads Spells Ends first tokens r after a e f = record {
  front = mark first ∷ f.front;
  split = e ∙ ap (λ l. mark first ∷ l) f.split;
  spells = (f.front, refl, f.spells);
  only = λ ts us u split h w. f.only w.0 us u (tail_is first r tokens w.0 us ts e split w.1) h w.2;
}
  where
    tail_is : (first : Mark) (r tokens ws us ts : List Lexeme) → tokens ≡ mark first ∷ r → tokens ≡ ts ++ us → ts ≡ mark first ∷ ws → r ≡ ws ++ us
    tail_is first r tokens ws us ts e split w = let k : mark first ∷ r ≡ mark first ∷ (ws ++ us) = sym e ∙ split ∙ ap (λ l. l ++ us) w in cc

pub after_none : {T : Type 0} (Spells : Spelling T) (Ends : Following) (first : Mark) (tokens r : List Lexeme) → tokens ≡ mark first ∷ r → NoTree Spells Ends r → NoTree (IsAfter first Spells) Ends tokens
after_none Spells Ends first tokens r e not ts us u split h w =
    let k : mark first ∷ r ≡ mark first ∷ (w.0 ++ us) = sym e ∙ split ∙ ap (λ l. l ++ us) w.1 in
    let same : r ≡ w.0 ++ us = cc in
    not w.0 us u same h w.2

pub not_after : {T : Type 0} (Spells : Spelling T) (Ends : Following) (first : Mark) (tokens : List Lexeme) → ((r : List Lexeme) → tokens ≡ mark first ∷ r → ⊥) → NoTree (IsAfter first Spells) Ends tokens
not_after Spells Ends first tokens none ts us u split h w = none (w.0 ++ us) (split ∙ ap (λ l. l ++ us) w.1)

-- one tree and then another, where the first ends before the second
pub pair_reads : {T U : Type 0} (A : Spelling T) (B : Spelling U) (E F : Following) → ((vs us : List Lexeme) (b : U) → B vs b → F us → E (vs ++ us)) → (tokens rest after : List Lexeme) (a : T) (b : U) → OneTree A E tokens a rest → OneTree B F rest b after → OneTree (IsPair A B) F tokens (a, b) after
pair_reads A B E F ends tokens rest after a b f g = record {
  front = f.front ++ g.front;
  split = f.split ∙ ap (λ l. f.front ++ l) g.split ∙ sym (append_assoc f.front g.front after);
  spells = (f.front, g.front, refl, f.spells, g.spells);
  only = λ ts us u split h w.
      let same = f.only w.0 (w.1 ++ us) u.0 (split ∙ ap (λ l. l ++ us) w.2 ∙ append_assoc w.0 w.1 us) (ends w.1 us u.1 w.4 h) w.3 in
      let next = g.only w.1 us u.1 (sym same.1) h w.4 in
      (ap (λ x. (x, u.1)) same.0 ∙ ap (λ x. (a, x)) next.0, next.1);
}

pub first_none : {T U : Type 0} (A : Spelling T) (B : Spelling U) (E F : Following) → ((vs us : List Lexeme) (b : U) → B vs b → F us → E (vs ++ us)) → (tokens : List Lexeme) → NoTree A E tokens → NoTree (IsPair A B) F tokens
first_none A B E F ends tokens not ts us u split h w =
    not w.0 (w.1 ++ us) u.0 (split ∙ ap (λ l. l ++ us) w.2 ∙ append_assoc w.0 w.1 us) (ends w.1 us u.1 w.4 h) w.3

pub second_none : {T U : Type 0} (A : Spelling T) (B : Spelling U) (E F : Following) → ((vs us : List Lexeme) (b : U) → B vs b → F us → E (vs ++ us)) → (tokens rest : List Lexeme) (a : T) → OneTree A E tokens a rest → NoTree B F rest → NoTree (IsPair A B) F tokens
second_none A B E F ends tokens rest a f not ts us u split h w =
    let same = f.only w.0 (w.1 ++ us) u.0 (split ∙ ap (λ l. l ++ us) w.2 ∙ append_assoc w.0 w.1 us) (ends w.1 us u.1 w.4 h) w.3 in
    not w.1 us u.1 (sym same.1) h w.4

-- one name
pub name_found : (tokens rest : List Lexeme) (n : List ℕ) → tokens ≡ Lexeme.name n ∷ rest → OneTree IsName Always tokens n rest
name_found tokens rest n e = record {
  front = Lexeme.name n ∷ [];
  split = e;
  spells = refl;
  only = λ ts us u split h w. same_name (sym e ∙ split ∙ ap (λ l. l ++ us) w);
}
  where
    same_name : {n u : List ℕ} {rest us : List Lexeme} → Lexeme.name n ∷ rest ≡ Lexeme.name u ∷ us → (u ≡ n) × (us ≡ rest)
    same_name {n} {u} {rest} {us} e = let a : u ≡ n = cc in let b : us ≡ rest = cc in (a, b)

pub name_none : (tokens : List Lexeme) → ((n : List ℕ) (ts : List Lexeme) → tokens ≡ Lexeme.name n ∷ ts → ⊥) → NoTree IsName Always tokens
name_none tokens none ts us u split h w = none u us (split ∙ ap (λ l. l ++ us) w)
