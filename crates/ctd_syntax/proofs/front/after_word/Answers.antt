use Rattle.std.proofs.Common.{◌≡◌, ◌∷◌, rules, sym, ◌∙◌}
use Rattle.std.specs.Prelude.{map}
use Rattle.ctd_syntax.specs.Lexeme.{keyword}
use Rattle.ctd_syntax.specs.inner.Front.{lexeme}
use Rattle.ctd_syntax.proofs.front.after_word.Goals as goal

pub returns-in_err-found-clause-none : goal.returns-in_err-found-clause-none
returns-in_err-found-clause-none c = rw c.from_residual.ensures (λ at ts e. c.in_err-found.ensures.none c.args.word at ts e)

pub returns-then-eq-clause-shorter : goal.returns-then-eq-clause-shorter
returns-then-eq-clause-shorter c = c.in_ok-found.ensures.shorter

pub returns-else-eq-clause-none : goal.returns-else-eq-clause-none
returns-else-eq-clause-none c = λ at ts e.
    let not_same : c.in_ok-found.found ≡ c.args.word → ⊥ = search (rules, c.eq.ensures, c.if-eq.ensures) in
    let begins : keyword c.in_ok-found.found c.in_ok-found._place ∷ map lexeme c.in_ok-found.after.now ≡ keyword c.args.word at ∷ ts = sym c.in_ok-found.ensures.found ∙ e in
    let same : c.in_ok-found.found ≡ c.args.word = cc in
    not_same same
