use Rattle.std.proofs.Common.{subst}
use Rattle.std.specs.Prelude.{IfSome}
use Rattle.ctd_token.specs.calls.Lexing.{IsNext}
use Rattle.ctd_syntax.proofs.TokensRead.{spelled}
use Rattle.ctd_syntax.proofs.parser_token.ParserTokens.next_token.Goals as goal

pub parser_token_of-requires : goal.parser_token_of-requires
parser_token_of-requires c =
    let next = subst (λ o. IfSome o (λ t. IsNext c.self.inside.lexer t c.next_token.new.self)) c.in-Ok-Some.field-0-is c.in-Ok-Some.ensures.next in
    spelled c.self.inside.text.now c.self.inside.lexer c.in-Ok-Some.token c.next_token.new.self c.self.invariant next
