use Rattle.std.proofs.Common.{◌≡◌, ◌++◌, ◌∷◌, [], refl, subst}
use Rattle.std.specs.Prelude.{map, IfSome}
use Rattle.std.proofs.lemmas.List.{map-append}
use Rattle.std.proofs.lemmas.Result.{err_from_is_err_and}
use Rattle.ctd_token.proofs.Cutting.{none_is}
use Rattle.ctd_token.proofs.TokenFaults.{fault_is}
use Rattle.ctd_syntax.specs.inner.Front.{lexeme}
use Rattle.ctd_syntax.specs.inner.Batches.{IsNextSeen}
use Rattle.ctd_syntax.proofs.TokensRead.{HasRead, more, finish}
use Rattle.ctd_syntax.proofs.parser_token.parser_tokens.Goals as goal

pub returns-in_err-token-clause-fault : goal.returns-in_err-token-clause-fault
returns-in_err-token-clause-fault c =
    let p = err_from_is_err_and c.from_residual-in_err-token.result c.from_residual-in_err-token.ensures.1 in
    rw (p.1, p.2) (fault_is c.args.text.now c.loop-seen.invariant.tokens c.loop-seen.tokens _ _ c.in_ok-tokens.ensures.short c.loop-seen.invariant.cut c.in_err-token.ensures.fault)

pub loop-seen-preserved : goal.loop-seen-preserved
loop-seen-preserved c =
    let next = subst (λ o. IfSome o (λ t. IsNextSeen c.loop-seen.tokens (lexeme t) c.next_token.new.self)) c.in-Some.is c.in_ok-token.ensures.next in
    let pushed : map lexeme c.loop-seen.seen.items ++ lexeme c.in-Some.token ∷ [] ≡ map lexeme c.push.new.self.items = rw (c.in_ok-push.ensures.items, map-append) refl in
    subst (λ l. HasRead c.args.text.now l c.next_token.new.self) pushed (more c.args.text.now (map lexeme c.loop-seen.seen.items) c.loop-seen.tokens _ c.next_token.new.self c.loop-seen.invariant next)

pub returns-clause-seen : goal.returns-clause-seen
returns-clause-seen c = finish c.args.text.now _ c.loop-seen.tokens c.in_ok-tokens.ensures.short c.loop-seen.invariant (none_is _ c.in_default.not-Some c.in_ok-token.ensures.end)
