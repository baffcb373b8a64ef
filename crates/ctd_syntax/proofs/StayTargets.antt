-- Variables that commands set, whatever follows.
use Rattle.std.proofs.Common.{◌≡◌, ℕ, List, [], ◌∷◌, ◌++◌, length, Some, None, refl, sym, ◌∙◌, subst, append-nil}
use Rattle.ctd_syntax.specs.Lexeme.{Lexeme, mark}
use Rattle.ctd_program.specs.Tree
use Rattle.ctd_program.specs.Tree.{ExprTree, VarTree}
use Rattle.ctd_syntax.specs.Grammar
use Rattle.ctd_syntax.specs.Grammar.{IsExpr, IsTarget, IsTargetEnd, IsAssignments}
use Rattle.ctd_syntax.specs.inner.Front.{OneTree, HasTree, HasNoTree, Always, IsBefore, IsAssignment}
use Rattle.ctd_syntax.specs.inner.Levels.{ends}
use Rattle.ctd_token.specs.declared.token.Mark.TheVariants.{Close, Comma, Assign}
use Rattle.ctd_syntax.proofs.Targets as here
use Rattle.ctd_syntax.proofs.Staying.{and_then, one_read, not_then, none_behind, none_first_at}
use Rattle.ctd_syntax.proofs.StayFronts.{Possible, pair_reads, first_none, second_none}
use Rattle.ctd_syntax.proofs.StayAtoms.{some_expr}

-- shortest ones
pub some_target_end : Possible IsTargetEnd
some_target_end = (mark Close ∷ [], None, Grammar.none)

pub some_target : Possible IsTarget
some_target = (Lexeme.name [] ∷ [], record { name = []; indices = Tree.none }, Grammar.unindexed)

pub some_assignments : Possible IsAssignments
some_assignments = (some_target.0 ++ mark Assign ∷ some_expr.0, (some_target.1, some_expr.1) ∷ [], Grammar.one some_target.2 some_expr.2)

pub end_closes : (tokens r : List Lexeme) → tokens ≡ mark Close ∷ r → HasTree IsTargetEnd Always tokens None r
end_closes tokens r e = record { front = mark Close ∷ []; split = e; holds = λ others f. here.end_closes (mark Close ∷ others) others refl }

pub end_reads : (tokens r after : List Lexeme) (v : VarTree) → tokens ≡ mark Comma ∷ r → HasTree (IsBefore Close IsTarget) Always r v after → HasTree IsTargetEnd Always tokens (Some v) after
end_reads tokens r after v e f =
    and_then (λ ts us. ts ≡ mark Comma ∷ us) (λ ts us. OneTree (IsBefore Close IsTarget) Always ts v us) (λ ts us. OneTree IsTargetEnd Always ts (Some v) us) tokens r after
    (λ ts vs us p q. here.end_reads ts vs us v p q) (one_read (mark Comma) tokens r e) f

pub end_none : (tokens r : List Lexeme) → tokens ≡ mark Comma ∷ r → (left : ℕ) → HasNoTree (IsBefore Close IsTarget) Always r left → HasNoTree IsTargetEnd Always tokens left
end_none tokens r e left n =
    none_behind (IsBefore Close IsTarget) IsTargetEnd Always Always (mark Comma) tokens r e (λ ts us p not. here.end_none ts us p not) (λ ts v i. ([], Some v, goes ts v i)) left n
  where
    goes : (ts : List Lexeme) (v : VarTree) → IsBefore Close IsTarget ts v → IsTargetEnd (mark Comma ∷ (ts ++ [])) (Some v)
    goes ts v (vs, is, i) = subst (λ l. IsTargetEnd (mark Comma ∷ l) (Some v)) (sym (append-nil ts ∙ is)) (Grammar.some i)

pub end_other : (tokens : List Lexeme) → ((r : List Lexeme) → tokens ≡ mark Close ∷ r → ⊥) → ((r : List Lexeme) → tokens ≡ mark Comma ∷ r → ⊥) → HasNoTree IsTargetEnd Always tokens (length tokens)
end_other tokens not_closed not_comma = none_first_at IsTargetEnd Always tokens (λ others e. here.end_other others (not_then (mark Close) tokens not_closed others e) (not_then (mark Comma) tokens not_comma others e)) (mark Close ∷ []) None Grammar.none

-- one assignment
pub assignment_reads : (tokens rest after : List Lexeme) (v : VarTree) (e : ExprTree) → HasTree (IsBefore Assign IsTarget) Always tokens v rest → HasTree IsExpr (ends 1) rest e after → HasTree IsAssignment (ends 1) tokens (v, e) after
assignment_reads tokens rest after v e f g = pair_reads (IsBefore Assign IsTarget) IsExpr Always (ends 1) (λ vs us b i h. tt) tokens rest after v e f g

pub assignment_no_target : (tokens : List Lexeme) (left : ℕ) → HasNoTree (IsBefore Assign IsTarget) Always tokens left → HasNoTree IsAssignment (ends 1) tokens left
assignment_no_target tokens left not = first_none (IsBefore Assign IsTarget) IsExpr Always (ends 1) (λ vs us b i h. tt) some_expr tokens left not

pub assignment_no_value : (tokens rest : List Lexeme) (v : VarTree) → HasTree (IsBefore Assign IsTarget) Always tokens v rest → (left : ℕ) → HasNoTree IsExpr (ends 1) rest left → HasNoTree IsAssignment (ends 1) tokens left
assignment_no_value tokens rest v f left not = second_none (IsBefore Assign IsTarget) IsExpr Always (ends 1) (λ vs us b i h. tt) tokens rest v f left not
