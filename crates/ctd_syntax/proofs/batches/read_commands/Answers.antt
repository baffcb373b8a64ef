use Rattle.std.proofs.Common.{◌≡◌, ◌++◌, ◌∷◌, [], refl, sym, subst}
use Rattle.std.specs.Prelude.{map, IfSome, IfNone}
use Rattle.std.proofs.lemmas.List.{map-append}
use Rattle.ctd_token.proofs.TokenFaults.{fault_is}
use Rattle.ctd_token.specs.calls.Lexing.{IsEnd}
use Rattle.ctd_syntax.specs.inner.Front.{lexeme}
use Rattle.ctd_syntax.specs.inner.Batches.{IsNextSeen, ReadsOff}
use Rattle.ctd_syntax.proofs.BatchesRead.{InBatches, begin, off, more, finish}
use Rattle.ctd_syntax.proofs.batches.read_commands.Goals as goal

pub loop-token-init : goal.loop-token-init
loop-token-init c =
    subst (λ l. InBatches c.args.text.now c.args.commands.now.items (map lexeme l) c.in_ok-tokens.tokens c.new-nesting.result) (sym c.new-batch.ensures.items)
    (begin c.args.text.now c.args.commands.now.items c.in_ok-tokens.tokens c.new-nesting.result c.requires c.in_ok-tokens.ensures.begins c.new-nesting.ensures)

pub returns-in-Err-clause-fault : goal.returns-in-Err-clause-fault
returns-in-Err-clause-fault c =
    let read = c.loop-token.invariant.read in
    fault_is c.args.text.now read.tokens c.loop-token.tokens _ _ c.in_ok-tokens.ensures.short read.cut c.in-Err.ensures.fault

pub loop-token-preserved : goal.loop-token-preserved
loop-token-preserved c =
    let text = c.args.text.now in
    let batch = map lexeme c.loop-token.batch.items in
    let left = map lexeme c.read_off.new.batch.items in
    let commands = c.read_off.new.commands.items in
    let next = subst (λ o. IfSome o (λ t. IsNextSeen c.loop-token.tokens (lexeme t) c.next_token.new.self)) c.in-Ok-Some.field-0-is c.in-Ok-Some.ensures.next in
    let pushed : left ++ lexeme c.in-Ok-Some.token ∷ [] ≡ map lexeme c.push.new.self.items = rw (c.in_ok-push.ensures.items, map-append) refl in
    let behind = off text c.loop-token.commands.items commands batch left c.loop-token.tokens c.loop-token.nesting c.loop-token.invariant (c.in_ok-read_off.ensures.read c.if-not-branch.false) in
    subst (λ l. InBatches text commands l c.next_token.new.self c.pass.new.self) pushed
    (more text commands left c.loop-token.tokens c.next_token.new.self _ c.loop-token.nesting c.pass.new.self behind next c.in_ok-pass.ensures.steps (c.in_ok-pass.ensures.light.0 c.if-not-branch-2.false))

pub returns-clause-parses : goal.returns-clause-parses
returns-clause-parses c = λ fits.
    let commands = c.loop-token.commands.items in
    let batch = map lexeme c.loop-token.batch.items in
    let behind = c.read_off-2.new.commands.items in
    let whole = c.in_ok-read_off-2.ensures.whole refl in
    let read = subst (λ l. ReadsOff batch commands (map lexeme l) behind) whole (c.in_ok-read_off-2.ensures.read fits) in
    finish c.args.text.now commands behind batch c.loop-token.tokens c.loop-token.nesting c.in_ok-tokens.ensures.short c.loop-token.invariant read (subst (λ o. IfNone o (IsEnd c.loop-token.tokens)) c.in-Ok-None.field-0-is c.in-Ok-None.ensures.end)
