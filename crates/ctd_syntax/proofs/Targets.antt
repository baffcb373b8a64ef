-- Variables that commands set.
use Rattle.std.proofs.Common.{◌≡◌, List, [], ◌∷◌, ◌++◌, Option, Some, None, refl, sym, ap, ◌∙◌, subst, append_assoc, arith, ◌⊎◌, inl, inr}
use Rattle.ctd_syntax.specs.Lexeme.{Lexeme, mark}
use Rattle.ctd_program.specs.Tree.{ExprTree, VarTree}
use Rattle.ctd_syntax.specs.Grammar
use Rattle.ctd_syntax.specs.Grammar.{IsExpr, IsTarget, IsTargetEnd, IsAssignments}
use Rattle.ctd_syntax.specs.inner.Front.{OneTree, NoTree, Always, IsBefore, IsAfter, IsAssignment}
use Rattle.ctd_syntax.specs.inner.Levels.{ends}
use Rattle.ctd_token.specs.declared.token.Mark.TheVariants.{Close, Comma, Assign}
use Rattle.ctd_syntax.proofs.Rows.{Separated, alone, and, Listing, rows}

same_tail : {t s : Lexeme} {r vs : List Lexeme} → t ∷ r ≡ s ∷ vs → (s ≡ t) × (vs ≡ r)
same_tail {t} {s} {r} {vs} e = let a : s ≡ t = cc in let b : vs ≡ r = cc in (a, b)

-- what stands behind the last argument
EndAs : List Lexeme → Option VarTree → Type 0
EndAs ts o = ((ts ≡ mark Close ∷ []) × (o ≡ None)) ⊎ ((v : VarTree) × (o ≡ Some v) × IsAfter Comma (IsBefore Close IsTarget) ts v)

end_as : (ts : List Lexeme) (o : Option VarTree) → IsTargetEnd ts o → EndAs ts o
unfolding EndAs
end_as ts o Grammar.none = inl (refl, refl)
end_as ts o (Grammar.some {ts = us} {v} i) = inr (v, refl, (us ++ mark Close ∷ [], refl, (us, refl, i)))

pub end_closes : (tokens r : List Lexeme) → tokens ≡ mark Close ∷ r → OneTree IsTargetEnd Always tokens None r
unfolding EndAs
end_closes tokens r e = record {
  front = mark Close ∷ [];
  split = e;
  spells = Grammar.none;
  only = λ ts us u split h w. elim (end_as ts u w) [
    | inl i ↦ (i.1, (same_tail (sym e ∙ split ∙ ap (λ l. l ++ us) i.0)).1)
    | inr i ↦ absurd (let f : mark Comma ≡ mark Close = (same_tail (sym e ∙ split ∙ ap (λ l. l ++ us) i.2.1)).0 in cc)
  ];
}

pub end_reads : (tokens r after : List Lexeme) (v : VarTree) → tokens ≡ mark Comma ∷ r → OneTree (IsBefore Close IsTarget) Always r v after → OneTree IsTargetEnd Always tokens (Some v) after
unfolding EndAs
end_reads tokens r after v e f = record {
  front = mark Comma ∷ f.front;
  split = e ∙ ap (λ l. mark Comma ∷ l) f.split;
  spells = subst (λ l. IsTargetEnd (mark Comma ∷ l) (Some v)) (sym f.spells.1) (Grammar.some f.spells.2);
  only = λ ts us u split h w. elim (end_as ts u w) [
    | inl i ↦ absurd (let f : mark Close ≡ mark Comma = (same_tail (sym e ∙ split ∙ ap (λ l. l ++ us) i.0)).0 in cc)
    | inr i ↦
        let tail = (same_tail (sym e ∙ split ∙ ap (λ l. l ++ us) i.2.1)).1 in
        let same = f.only i.2.0 us i.0 (sym tail) tt i.2.2 in
        (i.1 ∙ ap Some same.0, same.1)
  ];
}

pub end_none : (tokens r : List Lexeme) → tokens ≡ mark Comma ∷ r → NoTree (IsBefore Close IsTarget) Always r → NoTree IsTargetEnd Always tokens
unfolding EndAs
end_none tokens r e not ts us u split h w = elim (end_as ts u w) [
  | inl i ↦ (let f : mark Close ≡ mark Comma = (same_tail (sym e ∙ split ∙ ap (λ l. l ++ us) i.0)).0 in cc)
  | inr i ↦
      let tail = (same_tail (sym e ∙ split ∙ ap (λ l. l ++ us) i.2.1)).1 in
      not i.2.0 us i.0 (sym tail) tt i.2.2
]

-- something else than a parenthesis or a comma
pub end_other : (tokens : List Lexeme) → ((r : List Lexeme) → tokens ≡ mark Close ∷ r → ⊥) → ((r : List Lexeme) → tokens ≡ mark Comma ∷ r → ⊥) → NoTree IsTargetEnd Always tokens
unfolding EndAs
end_other tokens not_closed not_comma ts us u split h w = elim (end_as ts u w) [
  | inl i ↦ not_closed us (split ∙ ap (λ l. l ++ us) i.0)
  | inr i ↦ not_comma (i.2.0 ++ us) (split ∙ ap (λ l. l ++ us) i.2.1)
]

-- lists of them
joined : (ts us vs ws : List Lexeme) → ts ≡ us ++ vs → us ≡ ws ++ mark Assign ∷ [] → ts ≡ ws ++ mark Assign ∷ vs
joined ts us vs ws split marked = split ∙ ap (λ l. l ++ vs) marked ∙ append_assoc ws (mark Assign ∷ []) vs

assignments_to : (ts : List Lexeme) (xs : List (VarTree × ExprTree)) → Separated IsAssignment ts xs → IsAssignments ts xs
assignments_to ts xs (alone {a} (us, vs, split, (ws, marked, v), e)) = subst (λ l. IsAssignments l (a ∷ [])) (sym (joined ts us vs ws split marked)) (Grammar.one v e)
assignments_to ts xs (and {ts = ps} {us = qs} {a} {rest} (us, vs, split, (ws, marked, v), e) r) =
    let is : ps ++ mark Comma ∷ qs ≡ (ws ++ mark Assign ∷ vs) ++ mark Comma ∷ qs = ap (λ l. l ++ mark Comma ∷ qs) (joined ps us vs ws split marked) in
    subst (λ l. IsAssignments l (a ∷ rest)) (sym is) (Grammar.more v e (assignments_to _ _ r))

assignments_from : (ts : List Lexeme) (l : List (VarTree × ExprTree)) → IsAssignments ts l → (xs : List (VarTree × ExprTree)) × (xs ≡ l) × Separated IsAssignment ts xs
assignments_from ts l (Grammar.one {ts = ws} {us = vs} {v} {e} i j) = ((v, e) ∷ [], refl, alone (ws ++ mark Assign ∷ [], vs, sym (append_assoc ws (mark Assign ∷ []) vs), (ws, refl, i), j))
assignments_from ts l (Grammar.more {ts = ws} {us = vs} {vs = qs} {v} {e} i j r) =
    let p = assignments_from _ _ r in
    ((v, e) ∷ p.0, ap (λ x. (v, e) ∷ x) p.1, and {ts = ws ++ mark Assign ∷ vs} (ws ++ mark Assign ∷ [], vs, sym (append_assoc ws (mark Assign ∷ []) vs), (ws, refl, i), j) p.2)

pub assignment_list : Listing IsAssignment IsAssignments (ends 1) Close (λ l. l)
assignment_list = record {
  level = rows IsAssignment (ends 1) Close refl (λ us. omega arith) (λ us. omega arith);
  to = assignments_to;
  from = assignments_from;
}
