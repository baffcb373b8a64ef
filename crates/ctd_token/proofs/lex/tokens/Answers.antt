use Rattle.std.proofs.Common.{sym, subst}
use Rattle.std.specs.Prelude.{IfSome}
use Rattle.std.proofs.lemmas.Result.{err_from_is_err_and}
use Rattle.ctd_token.specs.calls.Lexing.{IsNext}
use Rattle.ctd_token.proofs.Cutting.{Cutting, finish, more, none_is}
use Rattle.ctd_token.proofs.TokenFaults.{fault_is}
use Rattle.ctd_token.proofs.lex.tokens.Goals as goal

pub returns-in_err-token-clause-fault : goal.returns-in_err-token-clause-fault
returns-in_err-token-clause-fault c =
    let p = err_from_is_err_and c.from_residual-in_err-token.result c.from_residual-in_err-token.ensures.1 in
    rw (p.1, p.2) (fault_is c.args.text.now c.loop-tokens.tokens.items c.loop-tokens.lexer _ _ c.in_ok-lexer.ensures.short c.loop-tokens.invariant c.in_err-token.ensures.fault)

pub loop-tokens-preserved : goal.loop-tokens-preserved
loop-tokens-preserved c =
    let next = subst (λ o. IfSome o (λ t. IsNext c.loop-tokens.lexer t c.next_token.new.self)) c.in-Some.is c.in_ok-token.ensures.next in
    subst (λ l. Cutting c.args.text.now l c.next_token.new.self) (sym c.in_ok-push.ensures.items)
    (more c.args.text.now c.loop-tokens.tokens.items c.in-Some.token c.loop-tokens.lexer c.next_token.new.self c.loop-tokens.invariant next)

pub returns-clause-cut : goal.returns-clause-cut
returns-clause-cut c = finish c.args.text.now c.loop-tokens.tokens.items c.loop-tokens.lexer c.loop-tokens.invariant (none_is _ c.in_default.not-Some c.in_ok-token.ensures.end)
