-- Lists with commas are one item and a chain of commas with items.
use Rattle.std.proofs.Common.{◌≡◌, ℕ, List, [], ◌∷◌, ◌++◌, Option, Some, None, refl, sym, ap, ◌∙◌, subst, append_assoc, append-nil, arith}
use Rattle.std.specs.Prelude.{map}
use Rattle.ctd_syntax.specs.Lexeme.{Lexeme, mark}
use Rattle.ctd_program.specs.Tree
use Rattle.ctd_program.specs.Tree.{ExprTree, ExprList}
use Rattle.ctd_syntax.specs.Grammar.{IsExpr, IsExprs, IsNames, one, more}
use Rattle.ctd_syntax.specs.Grammar as grammar
use Rattle.ctd_syntax.specs.inner.Front.{OneTree, NoTree, Spelling, Following, Always, IsName, operator_at}
use Rattle.ctd_syntax.specs.inner.Levels.{ends}
use Rattle.ctd_program.specs.calls.View.{expr_tree, expr_list}
use Rattle.ctd_program.specs.declared.tree.Expr.{Expr}
use Rattle.ctd_token.specs.declared.token.Mark.{Mark}
use Rattle.ctd_token.specs.declared.token.Mark.TheVariants.{Comma, Close, CloseIndex}
use Rattle.ctd_syntax.proofs.Chains.{Chain, stop, step, Level}

-- items with commas between them
pub data Separated {T : Type 0} (Item : Spelling T) : List Lexeme → List T → Type 0 where
  alone : {ts : List Lexeme} {a : T} → Item ts a → Separated Item ts (a ∷ [])
  and : {ts us : List Lexeme} {a : T} {rest : List T} → Item ts a → Separated Item us rest → Separated Item (ts ++ mark Comma ∷ us) (a ∷ rest)

-- an item, as a list of one
abbrev pub IsOne : {T : Type 0} → Spelling T → Spelling (List T)
IsOne {T} Item ts xs = (x : T) × (xs ≡ x ∷ []) × Item ts x

-- the comma
abbrev pub comma : Lexeme → Option (Unit {0})
comma (mark Comma) = Some tt
comma _ = None

-- lists join
abbrev pub append : {T : Type 0} → Unit {0} → List T → List T → List T
append o a b = a ++ b

-- the mark follows
abbrev pub Before : Mark → Following
Before end_mark us = (vs : List Lexeme) × (us ≡ mark end_mark ∷ vs)

pub before_mark : (end_mark : Mark) (us : List Lexeme) → Before end_mark (mark end_mark ∷ us)
before_mark end_mark us = (us, refl)

is_comma : (t : Lexeme) (o : Unit {0}) → comma t ≡ Some o → t ≡ mark Comma
is_comma (mark Comma) o e = refl
is_comma _ o e = absurd (cc)

-- one more item at the end
extend : {T : Type 0} (Item : Spelling T) (ts us : List Lexeme) (xs : List T) (x : T) → Separated Item ts xs → Item us x → Separated Item (ts ++ mark Comma ∷ us) (xs ++ x ∷ [])
extend Item ts us xs x (alone i) j = and i (alone j)
extend Item ts us xs x (and {ts = vs} {us = ws} {a} {rest} i r) j =
    subst (λ l. Separated Item l (a ∷ rest ++ x ∷ [])) (sym (append_assoc vs (mark Comma ∷ ws) (mark Comma ∷ us))) (and i (extend Item ws us rest x r j))

row_more : {T : Type 0} (Item : Spelling T) (ts us : List Lexeme) (xs ys : List T) (t : Lexeme) (o : Unit {0}) → Separated Item ts xs → comma t ≡ Some o → IsOne Item us ys → Separated Item (ts ++ t ∷ us) (append o xs ys)
row_more Item ts us xs ys t o r e i =
    subst (λ l. Separated Item (ts ++ t ∷ us) (xs ++ l)) (sym i.1) (subst (λ c. Separated Item (ts ++ c ∷ us) (xs ++ i.0 ∷ [])) (sym (is_comma t o e)) (extend Item ts us xs i.0 r i.2))

chain_from : {T : Type 0} (Item : Spelling T) (us : List Lexeme) (before xs : List T) → Separated Item us xs → Chain (IsOne Item) comma append before (mark Comma ∷ us) (before ++ xs)
chain_from Item us before xs (alone {a} i) = step (mark Comma) us us [] tt refl (sym (append-nil us)) (a, refl, i) stop
chain_from Item us before xs (and {ts = vs} {us = ws} {a} {rest} i r) =
    step (mark Comma) (vs ++ mark Comma ∷ ws) vs (mark Comma ∷ ws) tt refl refl (a, refl, i)
    (subst (λ l. Chain (IsOne Item) comma append (before ++ a ∷ []) (mark Comma ∷ ws) l) (append_assoc before (a ∷ []) rest) (chain_from Item ws (before ++ a ∷ []) rest r))

row_chain : {T : Type 0} (Item : Spelling T) (ts : List Lexeme) (xs : List T) → Separated Item ts xs → (us vs : List Lexeme) × (p : List T) × (ts ≡ us ++ vs) × IsOne Item us p × Chain (IsOne Item) comma append p vs xs
row_chain Item ts xs (alone {a} i) = (ts, [], a ∷ [], sym (append-nil ts), (a, refl, i), stop)
row_chain Item ts xs (and {ts = vs} {us = ws} {a} {rest} i r) = (vs, mark Comma ∷ ws, a ∷ [], refl, (a, refl, i), chain_from Item ws (a ∷ []) rest r)

-- lists up to a mark, of items that end before it and before a comma
pub rows : {T : Type 0} (Item : Spelling T) (ItemEnds : Following) (end_mark : Mark) → (comma (mark end_mark) ≡ None) → ((us : List Lexeme) → ItemEnds (mark end_mark ∷ us)) → ((us : List Lexeme) → ItemEnds (mark Comma ∷ us)) → Level (Separated Item) (IsOne Item) (Before end_mark) ItemEnds comma append
rows Item ItemEnds end_mark other closes goes_on = record {
  one = λ i. subst (Separated Item _) (sym i.1) (alone i.2);
  more = λ t o r e i. row_more Item _ _ _ _ t o r e i;
  chain = λ whole. row_chain Item _ _ whole;
  weaker = λ us b. subst ItemEnds (sym b.1) (closes b.0);
  goes_on = λ t o us e. subst (λ c. ItemEnds (c ∷ us)) (sym (is_comma t o e)) (goes_on us);
  ended = λ t o us e b. not_both t o us end_mark other e b;
}
  where
    not_both : (t : Lexeme) (o : Unit {0}) (us : List Lexeme) (end_mark : Mark) → comma (mark end_mark) ≡ None → comma t ≡ Some o → Before end_mark (t ∷ us) → ⊥
    not_both t o us end_mark other e b = let same : t ≡ mark end_mark = cc in let clash : comma (mark end_mark) ≡ Some o = subst (λ c. comma c ≡ Some o) same e in cc

-- one item is a list of one
pub one_found : {T : Type 0} (Item : Spelling T) (E : Following) (tokens rest : List Lexeme) (a : T) → OneTree Item E tokens a rest → OneTree (IsOne Item) E tokens (a ∷ []) rest
one_found Item E tokens rest a f = record {
  front = f.front;
  split = f.split;
  spells = (a, refl, f.spells);
  only = λ ts us u split h w. let same = f.only ts us w.0 split h w.2 in (w.1 ∙ ap (λ x. x ∷ []) same.0, same.1);
}

pub one_none : {T : Type 0} (Item : Spelling T) (E : Following) (tokens : List Lexeme) → NoTree Item E tokens → NoTree (IsOne Item) E tokens
one_none Item E tokens not ts us u split h w = not ts us w.0 split h w.2

-- a comma at the front
pub comma_at : (tokens r : List Lexeme) → tokens ≡ mark Comma ∷ r → operator_at comma tokens ≡ Some (tt, r)
comma_at tokens r e = ap (operator_at comma) e

pub no_comma : (tokens : List Lexeme) → ((r : List Lexeme) → tokens ≡ mark Comma ∷ r → ⊥) → operator_at comma tokens ≡ None
no_comma [] none = refl
no_comma (mark Comma ∷ ts) none = absurd (none ts refl)
no_comma (t ∷ ts) none = other t ts none
  where
    other : (t : Lexeme) (ts : List Lexeme) → ((r : List Lexeme) → t ∷ ts ≡ mark Comma ∷ r → ⊥) → operator_at comma (t ∷ ts) ≡ None
    other (mark Comma) ts none = absurd (none ts refl)
    other _ ts none = refl

-- expressions as the grammar lists them
abbrev pub list_of : List ExprTree → ExprList
list_of [] = Tree.none
list_of (e ∷ es) = Tree.some e (list_of es)

pub exprs_to : (ts : List Lexeme) (xs : List ExprTree) → Separated IsExpr ts xs → IsExprs ts (list_of xs)
exprs_to ts xs (alone i) = one i
exprs_to ts xs (and i r) = more i (exprs_to _ _ r)

pub exprs_from : (ts : List Lexeme) (l : ExprList) → IsExprs ts l → (xs : List ExprTree) × (list_of xs ≡ l) × Separated IsExpr ts xs
exprs_from ts l (one {a} i) = (a ∷ [], refl, alone i)
exprs_from ts l (more {a} i r) = let p = exprs_from _ _ r in (a ∷ p.0, ap (Tree.some a) p.1, and i p.2)

pub list_view : (es : List Expr) → list_of (map expr_tree es) ≡ expr_list es
list_view [] = refl
list_view (e ∷ es) = ap (Tree.some (expr_tree e)) (list_view es)

-- lists of items up to a mark, as the grammar has them
pub record Listing {T U : Type 0} (Item : Spelling T) (Whole : Spelling U) (E : Following) (end_mark : Mark) (f : List T → U) : Type 0 where
  pub level : Level (Separated Item) (IsOne Item) (Before end_mark) E comma append
  pub to : (ts : List Lexeme) (xs : List T) → Separated Item ts xs → Whole ts (f xs)
  pub from : (ts : List Lexeme) (l : U) → Whole ts l → (xs : List T) × (f xs ≡ l) × Separated Item ts xs

-- the indices of a variable
pub index_list : Listing IsExpr IsExprs (ends 1) CloseIndex list_of
index_list = record {
  level = rows IsExpr (ends 1) CloseIndex refl (λ us. omega arith) (λ us. omega arith);
  to = exprs_to;
  from = exprs_from;
}

-- lists of names
names_to : (ts : List Lexeme) (xs : List (List ℕ)) → Separated IsName ts xs → IsNames ts xs
names_to ts xs (alone {a} i) = subst (λ l. IsNames l (a ∷ [])) (sym i) grammar.one
names_to ts xs (and {us = us} {a} {rest} i r) = subst (λ l. IsNames (l ++ mark Comma ∷ us) (a ∷ rest)) (sym i) (grammar.more (names_to _ _ r))

names_from : (ts : List Lexeme) (l : List (List ℕ)) → IsNames ts l → (xs : List (List ℕ)) × (xs ≡ l) × Separated IsName ts xs
names_from ts l (grammar.one {name}) = (name ∷ [], refl, alone refl)
names_from ts l (grammar.more {ts = us} {name} i) = let p = names_from _ _ i in (name ∷ p.0, ap (λ x. name ∷ x) p.1, and {ts = Lexeme.name name ∷ []} refl p.2)

pub name_list : Listing IsName IsNames Always Close (λ l. l)
name_list = record {
  level = rows IsName Always Close refl (λ us. tt) (λ us. tt);
  to = names_to;
  from = names_from;
}
