-- `||` and `&&` are levels of operators.
use Rattle.std.proofs.Common.{◌≡◌, ◌<◌, List, [], ◌∷◌, ◌++◌, Option, Some, None, refl, sym, ap, ◌∙◌, subst, append_assoc, append-nil, arith}
use Rattle.ctd_syntax.specs.Lexeme.{Lexeme, mark}
use Rattle.ctd_program.specs.Tree
use Rattle.ctd_program.specs.Tree.{TestTree}
use Rattle.ctd_syntax.specs.Grammar.{IsTest, both, or, IsBoth, negation, and, IsNegation}
use Rattle.ctd_syntax.specs.inner.Front.{operator_at}
use Rattle.ctd_syntax.specs.inner.Levels.{ends}
use Rattle.ctd_syntax.specs.inner.TestGrammar.{test_ends}
use Rattle.ctd_token.specs.declared.token.Mark.TheVariants.{OrOr, AndAnd}
use Rattle.ctd_syntax.proofs.Chains.{Chain, stop, Level, longer}

-- `||`
abbrev pub or_operator : Lexeme → Option (Unit {0})
or_operator (mark OrOr) = Some tt
or_operator _ = None

-- `&&`
abbrev pub and_operator : Lexeme → Option (Unit {0})
and_operator (mark AndAnd) = Some tt
and_operator _ = None

-- one of two
abbrev pub either : Unit {0} → TestTree → TestTree → TestTree
either o a b = Tree.or a b

-- both of two
abbrev pub together : Unit {0} → TestTree → TestTree → TestTree
together o a b = Tree.and a b

is_or : (t : Lexeme) (o : Unit {0}) → or_operator t ≡ Some o → t ≡ mark OrOr
is_or (mark OrOr) o e = refl
is_or _ o e = absurd (cc)

is_and : (t : Lexeme) (o : Unit {0}) → and_operator t ≡ Some o → t ≡ mark AndAnd
is_and (mark AndAnd) o e = refl
is_and _ o e = absurd (cc)

pub or_at : (tokens r : List Lexeme) → tokens ≡ mark OrOr ∷ r → operator_at or_operator tokens ≡ Some (tt, r)
or_at tokens r e = ap (operator_at or_operator) e

pub and_at : (tokens r : List Lexeme) → tokens ≡ mark AndAnd ∷ r → operator_at and_operator tokens ≡ Some (tt, r)
and_at tokens r e = ap (operator_at and_operator) e

pub no_or : (tokens : List Lexeme) → ((r : List Lexeme) → tokens ≡ mark OrOr ∷ r → ⊥) → operator_at or_operator tokens ≡ None
no_or [] none = refl
no_or (t ∷ ts) none = other t ts none
  where
    other : (t : Lexeme) (ts : List Lexeme) → ((r : List Lexeme) → t ∷ ts ≡ mark OrOr ∷ r → ⊥) → operator_at or_operator (t ∷ ts) ≡ None
    other (mark OrOr) ts none = absurd (none ts refl)
    other _ ts none = refl

pub no_and : (tokens : List Lexeme) → ((r : List Lexeme) → tokens ≡ mark AndAnd ∷ r → ⊥) → operator_at and_operator tokens ≡ None
no_and [] none = refl
no_and (t ∷ ts) none = other t ts none
  where
    other : (t : Lexeme) (ts : List Lexeme) → ((r : List Lexeme) → t ∷ ts ≡ mark AndAnd ∷ r → ⊥) → operator_at and_operator (t ∷ ts) ≡ None
    other (mark AndAnd) ts none = absurd (none ts refl)
    other _ ts none = refl

or_chain : (ts : List Lexeme) (a : TestTree) → IsTest ts a → (us vs : List Lexeme) × (p : TestTree) × (ts ≡ us ++ vs) × IsBoth us p × Chain IsBoth or_operator either p vs a
or_chain ts a (both i) = (ts, [], a, sym (append-nil ts), i, stop)
or_chain ts a (or {ts = us} {us = vs} {a = b} {b = d} e i) =
    let c = or_chain us b e in
    (c.0, c.1 ++ mark OrOr ∷ vs, c.2, ap (λ l. l ++ mark OrOr ∷ vs) c.3 ∙ append_assoc c.0 c.1 (mark OrOr ∷ vs), c.4, longer IsBoth or_operator either c.1 vs d (mark OrOr) tt c.5 refl i)

and_chain : (ts : List Lexeme) (a : TestTree) → IsBoth ts a → (us vs : List Lexeme) × (p : TestTree) × (ts ≡ us ++ vs) × IsNegation us p × Chain IsNegation and_operator together p vs a
and_chain ts a (negation i) = (ts, [], a, sym (append-nil ts), i, stop)
and_chain ts a (and {ts = us} {us = vs} {a = b} {b = d} e i) =
    let c = and_chain us b e in
    (c.0, c.1 ++ mark AndAnd ∷ vs, c.2, ap (λ l. l ++ mark AndAnd ∷ vs) c.3 ∙ append_assoc c.0 c.1 (mark AndAnd ∷ vs), c.4, longer IsNegation and_operator together c.1 vs d (mark AndAnd) tt c.5 refl i)

or_more : {ts us : List Lexeme} {a b : TestTree} (t : Lexeme) (o : Unit {0}) → IsTest ts a → or_operator t ≡ Some o → IsBoth us b → IsTest (ts ++ t ∷ us) (either o a b)
or_more {ts} {us} {a} {b} t o e is i = subst (λ c. IsTest (ts ++ c ∷ us) (Tree.or a b)) (sym (is_or t o is)) (or e i)

and_more : {ts us : List Lexeme} {a b : TestTree} (t : Lexeme) (o : Unit {0}) → IsBoth ts a → and_operator t ≡ Some o → IsNegation us b → IsBoth (ts ++ t ∷ us) (together o a b)
and_more {ts} {us} {a} {b} t o e is i = subst (λ c. IsBoth (ts ++ c ∷ us) (Tree.and a b)) (sym (is_and t o is)) (and e i)

or_weaker : (us : List Lexeme) → test_ends 1 us → test_ends 2 us
or_weaker [] h = tt
or_weaker (t ∷ us) h = (omega (arith, h.0), h.1)

and_weaker : (us : List Lexeme) → test_ends 2 us → ends 1 us
and_weaker [] h = tt
and_weaker (t ∷ us) h = h.1

or_goes_on : (t : Lexeme) (o : Unit {0}) (us : List Lexeme) → or_operator t ≡ Some o → test_ends 2 (t ∷ us)
or_goes_on t o us e = subst (λ c. test_ends 2 (c ∷ us)) (sym (is_or t o e)) (omega arith, omega arith)

and_goes_on : (t : Lexeme) (o : Unit {0}) (us : List Lexeme) → and_operator t ≡ Some o → ends 1 (t ∷ us)
and_goes_on t o us e = subst (λ c. ends 1 (c ∷ us)) (sym (is_and t o e)) (omega arith)

or_ended : (t : Lexeme) (o : Unit {0}) (us : List Lexeme) → or_operator t ≡ Some o → test_ends 1 (t ∷ us) → ⊥
or_ended t o us e h = let lt : test_ends 1 (mark OrOr ∷ us) = subst (λ c. test_ends 1 (c ∷ us)) (is_or t o e) h in let less : 1 < 1 = lt.0 in omega (arith, less)

and_ended : (t : Lexeme) (o : Unit {0}) (us : List Lexeme) → and_operator t ≡ Some o → test_ends 2 (t ∷ us) → ⊥
and_ended t o us e h = let lt : test_ends 2 (mark AndAnd ∷ us) = subst (λ c. test_ends 2 (c ∷ us)) (is_and t o e) h in let less : 2 < 2 = lt.0 in omega (arith, less)

pub ors : Level IsTest IsBoth (test_ends 1) (test_ends 2) or_operator either
ors = record {
  one = both;
  more = or_more;
  chain = λ whole. or_chain _ _ whole;
  weaker = or_weaker;
  goes_on = or_goes_on;
  ended = or_ended;
}

pub ands : Level IsBoth IsNegation (test_ends 2) (ends 1) and_operator together
ands = record {
  one = negation;
  more = and_more;
  chain = λ whole. and_chain _ _ whole;
  weaker = and_weaker;
  goes_on = and_goes_on;
  ended = and_ended;
}
