use Rattle.std.proofs.lemmas.Grind.{common_steps}
use Rattle.std.proofs.Common.{◌≡◌, ℕ, ◌+◌, ◌<◌, ◌≤◌, List, length, drop, false, Err, sym, ap, ◌∙◌, subst, drop-drop, arith, rules}
use Rattle.std.proofs.lemmas.List.{take_rest}
use Rattle.ctd_token.specs.Cut.{token_at, skip_gap}
use Rattle.ctd_token.specs.calls.Scanning.{Scans}
use Rattle.ctd_token.specs.calls.Lexing.{IsNextFault}
use Rattle.ctd_token.proofs.Cutting.{gap_end, next_fault}
use Rattle.ctd_token.proofs.lex.Lexer.next_token.Goals as goal

pub returns-in-Err-clause-fault : goal.returns-in-Err-clause-fault
returns-in-Err-clause-fault c =
    let text : List ℕ = c.self.inside.text.now in
    let at : ℕ = c.self.inside.at in
    let gap : ℕ = c.gap_len.result in
    let tail = take_rest text at in
    let within : gap ≤ length (drop at text) = omega (arith, c.gap_len.ensures.within, ap length tail) in
    let skipped : drop gap (drop at text) ≡ skip_gap (drop at text) = ap (drop gap) (sym tail) ∙ c.gap_len.ensures.skipped ∙ ap skip_gap tail in
    let found = subst (λ l. Scans (Err c.in-Err.fault) (token_at l)) (take_rest text (at + gap)) c.in-Err.ensures.token in
    let inside : at + gap < length text = search rules in
    subst (λ u. IsNextFault u c.fault_at.result.kind c.fault_at.result.place) c.self.view_is
    (next_fault (record { text = text; at = at }) (at + gap) c.in-Err.fault c.fault_at.result (gap_end (drop at text) at gap within skipped)
    (sym (drop-drop gap at text) ∙ skipped) inside found c.fault_at.ensures)

pub returns-then-first-self-clause-end : goal.returns-then-first-self-clause-end
returns-then-first-self-clause-end c = grind (arith, common_steps)

pub returns-in-Ok-clause-next : goal.returns-in-Ok-clause-next
returns-in-Ok-clause-next c = grind (arith, common_steps)
