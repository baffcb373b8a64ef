-- A level of operators that join to the left is one item and a chain of operators with items.
use Rattle.std.proofs.Common.{◌≡◌, List, [], ◌∷◌, ◌++◌, Option, Some, None, refl, sym, ap, ◌∙◌, subst, append_assoc, append-nil}
use Rattle.ctd_syntax.specs.Lexeme.{Lexeme}
use Rattle.ctd_syntax.specs.inner.Front.{OneTree, NoTree, after_operator, operator_at}

-- operators with items behind them, which join to the tree before them
pub data Chain {T O : Type 0} (Item : List Lexeme → T → Type 0) (op : Lexeme → Option O) (join : O → T → T → T) : T → List Lexeme → T → Type 0 where
  stop : {a : T} → Chain Item op join a [] a
  step : {a b c : T} (t : Lexeme) (ws us vs : List Lexeme) (o : O) → op t ≡ Some o → ws ≡ us ++ vs → Item us b → Chain Item op join (join o a b) vs c → Chain Item op join a (t ∷ ws) c

-- one more item at the end of a chain
pub longer : {T O : Type 0} (Item : List Lexeme → T → Type 0) (op : Lexeme → Option O) (join : O → T → T → T) {a b : T} (ts us : List Lexeme) (c : T) (t : Lexeme) (o : O) → Chain Item op join a ts b → op t ≡ Some o → Item us c → Chain Item op join a (ts ++ t ∷ us) (join o b c)
longer Item op join ts us c t o stop e i = step t us us [] o e (sym (append-nil us)) i stop
longer Item op join ts us c t o (step t' ws us' vs o' f w j rest) e i =
    step t' (ws ++ t ∷ us) us' (vs ++ t ∷ us) o' f (ap (λ l. l ++ t ∷ us) w ∙ append_assoc us' vs (t ∷ us)) j (longer Item op join vs us c t o rest e i)

-- what the operators of a level are to its items
pub record Level {T O : Type 0} (Whole Item : List Lexeme → T → Type 0) (Ends ItemEnds : List Lexeme → Type 0) (op : Lexeme → Option O) (join : O → T → T → T) : Type 0 where
  pub one : {ts : List Lexeme} {a : T} → Item ts a → Whole ts a
  pub more : {ts us : List Lexeme} {a b : T} (t : Lexeme) (o : O) → Whole ts a → op t ≡ Some o → Item us b → Whole (ts ++ t ∷ us) (join o a b)
  pub chain : {ts : List Lexeme} {a : T} → Whole ts a → (us vs : List Lexeme) × (p : T) × (ts ≡ us ++ vs) × Item us p × Chain Item op join p vs a
  pub weaker : (us : List Lexeme) → Ends us → ItemEnds us
  pub goes_on : (t : Lexeme) (o : O) (us : List Lexeme) → op t ≡ Some o → ItemEnds (t ∷ us)
  pub ended : (t : Lexeme) (o : O) (us : List Lexeme) → op t ≡ Some o → Ends (t ∷ us) → ⊥

-- a is what the front of the tokens spells, and whatever the tokens spell begins with it
pub record Partly {T O : Type 0} (Whole Item : List Lexeme → T → Type 0) (Ends : List Lexeme → Type 0) (op : Lexeme → Option O) (join : O → T → T → T) (tokens : List Lexeme) (a : T) (rest : List Lexeme) : Type 0 where
  pub front : List Lexeme
  pub split : tokens ≡ front ++ rest
  pub spells : Whole front a
  pub only : (ts us : List Lexeme) (u : T) → tokens ≡ ts ++ us → Ends us → Whole ts u → (vs : List Lexeme) × (rest ≡ vs ++ us) × Chain Item op join a vs u

after_is : {O : Type 0} (x : Option O) (ts r : List Lexeme) (o : O) → after_operator x ts ≡ Some (o, r) → (x ≡ Some o) × (ts ≡ r)
after_is {O = O} None ts r o e = absurd (cc)
after_is {O = O} (Some o') ts r o e =
    let pair : (o', ts) ≡ (o, r) = cc in
    let first : O × List Lexeme → Option O = λ q. Some q.0 in
    let second : O × List Lexeme → List Lexeme = λ q. q.1 in
    (ap first pair, ap second pair)

-- the operator is the first token
pub operator_is : {O : Type 0} (op : Lexeme → Option O) (tokens r : List Lexeme) (o : O) → operator_at op tokens ≡ Some (o, r) → (t : Lexeme) × (tokens ≡ t ∷ r) × (op t ≡ Some o)
operator_is {O = O} op [] r o e = absurd (cc)
operator_is {O = O} op (t ∷ ts) r o e = let a = after_is (op t) ts r o e in (t, ap (λ l. t ∷ l) a.1, a.0)

module _ {T O : Type 0} {Whole Item : List Lexeme → T → Type 0} {Ends ItemEnds : List Lexeme → Type 0} {op : Lexeme → Option O} {join : O → T → T → T} (level : Level Whole Item Ends ItemEnds op join) where
  -- an item ends before a chain and what ends the whole
  item_ends : (vs us : List Lexeme) (a u : T) → Chain Item op join a vs u → Ends us → ItemEnds (vs ++ us)
  item_ends vs us a u stop ends = level.weaker us ends
  item_ends vs us a u (step t ws us' vs' o e w i rest) ends = level.goes_on t o (ws ++ us) e

  -- the first item is read
  pub start : (tokens : List Lexeme) (p : T) (after : List Lexeme) → OneTree Item ItemEnds tokens p after → Partly Whole Item Ends op join tokens p after
  start tokens p after found = record {
    front = found.front;
    split = found.split;
    spells = level.one found.spells;
    only = λ ts us u split ends whole.
        let c = level.chain whole in
        let same = found.only c.0 (c.1 ++ us) c.2 (split ∙ ap (λ l. l ++ us) c.3 ∙ append_assoc c.0 c.1 us) (item_ends c.1 us c.2 u c.5 ends) c.4 in
        (c.1, sym same.1, subst (λ q. Chain Item op join q c.1 u) same.0 c.5);
  }

  -- no first item, and so nothing
  pub no_start : (tokens : List Lexeme) → NoTree Item ItemEnds tokens → NoTree Whole Ends tokens
  no_start tokens not ts us u split ends whole =
      let c = level.chain whole in
      not c.0 (c.1 ++ us) c.2 (split ∙ ap (λ l. l ++ us) c.3 ∙ append_assoc c.0 c.1 us) (item_ends c.1 us c.2 u c.5 ends) c.4

  -- where no operator follows, it is read whole
  ends_here : (vs us rest : List Lexeme) (a u : T) → operator_at op rest ≡ None → rest ≡ vs ++ us → Chain Item op join a vs u → (u ≡ a) × (us ≡ rest)
  ends_here vs us rest a u ends_op split stop = (refl, sym split)
  ends_here vs us rest a u ends_op split (step t ws us' vs' o e w i more) =
      let found : operator_at op rest ≡ Some (o, ws ++ us) = ap (λ l. operator_at op l) split ∙ ap (λ x. after_operator x (ws ++ us)) e in
      absurd (cc)

  pub finish : (tokens : List Lexeme) (a : T) (rest : List Lexeme) → Partly Whole Item Ends op join tokens a rest → operator_at op rest ≡ None → OneTree Whole Ends tokens a rest
  finish tokens a rest partly ends_op = record {
    front = partly.front;
    split = partly.split;
    spells = partly.spells;
    only = λ ts us u split ends whole. let c = partly.only ts us u split ends whole in ends_here c.0 us rest a u ends_op c.1 c.2;
  }

  -- the item after an operator
  next_item : (vs us rest r after : List Lexeme) (a b u : T) (o : O) → operator_at op rest ≡ Some (o, r) → Ends us → ((ts us' : List Lexeme) (v : T) → r ≡ ts ++ us' → ItemEnds us' → Item ts v → (v ≡ b) × (us' ≡ after)) → rest ≡ vs ++ us → Chain Item op join a vs u → (ws : List Lexeme) × (after ≡ ws ++ us) × Chain Item op join (join o a b) ws u
  next_item vs us rest r after a b u o at ends only split stop =
      let is = operator_is op rest r o at in
      absurd (level.ended is.0 o r is.2 (subst Ends (sym split ∙ is.1) ends))
  next_item vs us rest r after a b u o at ends only split (step t ws us' vs' o' e w i more) =
      let is = after_is (Some o') (ws ++ us) r o (sym (ap (λ l. operator_at op l) split ∙ ap (λ x. after_operator x (ws ++ us)) e) ∙ at) in
      let same = only us' (vs' ++ us) _ (sym is.1 ∙ ap (λ l. l ++ us) w ∙ append_assoc us' vs' us) (item_ends vs' us _ u more ends) i in
      let same_operator : o' ≡ o = cc in
      (vs', sym same.1, subst (λ x. Chain Item op join (join x a b) vs' u) same_operator (subst (λ x. Chain Item op join (join o' a x) vs' u) same.0 more))

  pub next : (tokens : List Lexeme) (a b : T) (rest r after : List Lexeme) (o : O) → Partly Whole Item Ends op join tokens a rest → operator_at op rest ≡ Some (o, r) → OneTree Item ItemEnds r b after → Partly Whole Item Ends op join tokens (join o a b) after
  next tokens a b rest r after o partly at found =
      let is = operator_is op rest r o at in
      record {
        front = partly.front ++ is.0 ∷ found.front;
        split = partly.split ∙ ap (λ l. partly.front ++ l) (is.1 ∙ ap (λ l. is.0 ∷ l) found.split) ∙ sym (append_assoc partly.front (is.0 ∷ found.front) after);
        spells = level.more is.0 o partly.spells is.2 found.spells;
        only = λ ts us u split ends whole. let c = partly.only ts us u split ends whole in next_item c.0 us rest r after a b u o at ends found.only c.1 c.2;
      }

  -- no item after an operator, and so nothing
  no_item : (vs us rest r : List Lexeme) (a u : T) (o : O) → operator_at op rest ≡ Some (o, r) → Ends us → NoTree Item ItemEnds r → rest ≡ vs ++ us → Chain Item op join a vs u → ⊥
  no_item vs us rest r a u o at ends not split stop =
      let is = operator_is op rest r o at in
      level.ended is.0 o r is.2 (subst Ends (sym split ∙ is.1) ends)
  no_item vs us rest r a u o at ends not split (step t ws us' vs' o' e w i more) =
      let is = after_is (Some o') (ws ++ us) r o (sym (ap (λ l. operator_at op l) split ∙ ap (λ x. after_operator x (ws ++ us)) e) ∙ at) in
      not us' (vs' ++ us) _ (sym is.1 ∙ ap (λ l. l ++ us) w ∙ append_assoc us' vs' us) (item_ends vs' us _ u more ends) i

  pub no_next : (tokens : List Lexeme) (a : T) (rest r : List Lexeme) (o : O) → Partly Whole Item Ends op join tokens a rest → operator_at op rest ≡ Some (o, r) → NoTree Item ItemEnds r → NoTree Whole Ends tokens
  no_next tokens a rest r o partly at not ts us u split ends whole =
      let c = partly.only ts us u split ends whole in
      no_item c.0 us rest r a u o at ends not c.1 c.2
