-- A level of operators, whatever follows.
use Rattle.std.proofs.Common.{◌≡◌, ℕ, List, [], ◌∷◌, ◌++◌, Option, Some, None, refl, sym, ap, ◌∙◌, subst, append_assoc, append-nil}
use Rattle.std.proofs.lemmas.List.{append_cancel_right}
use Rattle.ctd_syntax.specs.Lexeme.{Lexeme}
use Rattle.ctd_syntax.specs.inner.Front.{Stays, OneTree, HasTree, HasNoTree, operator_at}
use Rattle.ctd_syntax.proofs.Chains as here
use Rattle.ctd_syntax.proofs.Chains.{Level, operator_is}
use Rattle.ctd_syntax.proofs.Staying.{so, and_then, operator_read, none_first, none_after, none_same, whole}

-- a is what the front of the tokens spells, and whatever the tokens spell begins with it, whatever follows
abbrev pub Partly : {T O : Type 0} (Whole Item : List Lexeme → T → Type 0) (Ends : List Lexeme → Type 0) (op : Lexeme → Option O) (join : O → T → T → T) (tokens : List Lexeme) (a : T) (rest : List Lexeme) → Type 0
Partly Whole Item Ends op join tokens a rest = Stays (λ ts us. here.Partly Whole Item Ends op join ts a us) tokens rest

module _ {T O : Type 0} {Whole Item : List Lexeme → T → Type 0} {Ends ItemEnds : List Lexeme → Type 0} {op : Lexeme → Option O} {join : O → T → T → T} (level : Level Whole Item Ends ItemEnds op join) where
  part_spells : (tokens : List Lexeme) (a : T) (rest : List Lexeme) (p : Partly Whole Item Ends op join tokens a rest) → Whole p.front a
  part_spells tokens a rest p =
      let o = p.holds rest refl in
      subst (λ l. Whole l a) (sym (append_cancel_right p.front o.front rest o.split)) o.spells

  pub start : (tokens : List Lexeme) (p : T) (after : List Lexeme) → HasTree Item ItemEnds tokens p after → Partly Whole Item Ends op join tokens p after
  start tokens p after found = so (λ ts us. OneTree Item ItemEnds ts p us) (λ ts us. here.Partly Whole Item Ends op join ts p us) tokens after (λ ts us f. here.start level ts p us f) found

  pub no_start : (tokens : List Lexeme) (left : ℕ) → HasNoTree Item ItemEnds tokens left → HasNoTree Whole Ends tokens left
  no_start tokens left n = none_same Item Whole ItemEnds Ends tokens (λ ts not. here.no_start level ts not) (λ ts a i. ([], a, whole Whole ts a (level.one i))) left n

  pub finish : (tokens : List Lexeme) (a : T) (rest : List Lexeme) → Partly Whole Item Ends op join tokens a rest → operator_at op rest ≡ None → HasTree Whole Ends tokens a rest
  finish tokens a rest partly none = record {
    front = partly.front;
    split = partly.split;
    holds = λ others e. here.finish level (partly.front ++ others) a others (partly.holds others e) (none_first op rest others none e);
  }

  pub next : (tokens : List Lexeme) (a b : T) (rest r after : List Lexeme) (o : O) → Partly Whole Item Ends op join tokens a rest → operator_at op rest ≡ Some (o, r) → HasTree Item ItemEnds r b after → Partly Whole Item Ends op join tokens (join o a b) after
  next tokens a b rest r after o partly at found =
      and_then (λ ts us. here.Partly Whole Item Ends op join ts a us) (λ ts us. (vs : List Lexeme) × (operator_at op ts ≡ Some (o, vs)) × OneTree Item ItemEnds vs b us) (λ ts us. here.Partly Whole Item Ends op join ts (join o a b) us) tokens rest after
      (λ ts vs us p q. here.next level ts a b vs q.0 us o p q.1 q.2) partly
      (and_then (λ ts us. operator_at op ts ≡ Some (o, us)) (λ ts us. OneTree Item ItemEnds ts b us) (λ ts us. (vs : List Lexeme) × (operator_at op ts ≡ Some (o, vs)) × OneTree Item ItemEnds vs b us) rest r after
      (λ ts vs us p q. (vs, p, q)) (operator_read op rest r o at) found)

  pub no_next : (tokens : List Lexeme) (a : T) (rest r : List Lexeme) (o : O) → Partly Whole Item Ends op join tokens a rest → operator_at op rest ≡ Some (o, r) → (left : ℕ) → HasNoTree Item ItemEnds r left → HasNoTree Whole Ends tokens left
  no_next tokens a rest r o partly at left n =
      none_after Item Whole ItemEnds Ends (λ ts us. (vs : List Lexeme) × here.Partly Whole Item Ends op join ts a vs × (operator_at op vs ≡ Some (o, us))) tokens r
      (and_then (λ ts us. here.Partly Whole Item Ends op join ts a us) (λ ts us. operator_at op ts ≡ Some (o, us)) (λ ts us. (vs : List Lexeme) × here.Partly Whole Item Ends op join ts a vs × (operator_at op vs ≡ Some (o, us))) tokens rest r
      (λ ts vs us p q. (vs, p, q)) partly (operator_read op rest r o at))
      (λ ts us p not. here.no_next level ts a p.0 us o p.1 p.2 not)
      (λ ts b i. ([], join o a b, goes ts b i)) left n
    where
      goes : (ts : List Lexeme) (b : T) → Item ts b → Whole ((partly.front ++ (operator_is op rest r o at).0 ∷ []) ++ (ts ++ [])) (join o a b)
      goes ts b i =
          let is = operator_is op rest r o at in
          subst (λ l. Whole l (join o a b)) (ap (λ l. partly.front ++ is.0 ∷ l) (sym (append-nil ts)) ∙ sym (append_assoc partly.front (is.0 ∷ []) (ts ++ []))) (level.more is.0 o (part_spells tokens a rest partly) is.2 i)
