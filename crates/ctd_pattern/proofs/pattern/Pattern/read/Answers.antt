use Rattle.std.proofs.Common.{⊎_elim, inl, inr, rules}
use Rattle.regex_syntax.specs.Verdict.{Refuses}
use Rattle.regex.specs.Patterns.{Reads}
use Rattle.ctd_pattern.proofs.WrittenPatterns.{is_read}
use Rattle.ctd_pattern.proofs.pattern.Pattern.read.Goals as goal

pub returns-in-Ok-new-clause-is_pattern : goal.returns-in-Ok-new-clause-is_pattern
unfolding Reads
returns-in-Ok-new-clause-is_pattern c =
    let text = c.in-Ok.ensures.cases in
    let made = c.in-Ok-new.ensures in
    (text.1, is_read _ _ (rw (made.source, made.config, text.0) at made.read))

pub returns-in-Err-Syntax-clause-not_pattern : goal.returns-in-Err-Syntax-clause-not_pattern
unfolding Refuses
returns-in-Err-Syntax-clause-not_pattern c _ =
    let refused = rw c.in-Ok.ensures.cases.0 at (c.in-Err-Syntax.ensures.refused _ c.in-Err-Syntax.field-0-is) in
    let kind = rw c.in-Err-Syntax.field-0-is at c.in-Err-Syntax.ensures.kind in
    ⊎_elim (λ memory. absurd (kind memory)) (⊎_elim inl (λ deep. inr deep.1)) refused

pub returns-in-Err-CompiledTooBig-clause-too_large : goal.returns-in-Err-CompiledTooBig-clause-too_large
unfolding Reads
returns-in-Err-CompiledTooBig-clause-too_large c _ =
    let text = c.in-Ok.ensures.cases in
    let found = rw (c.in-Err-CompiledTooBig.field-0-is, text.0) at c.in-Err-CompiledTooBig.ensures.kind in
    (text.1, is_read _ _ found.2)

pub returns-in_default-clause-not_text : goal.returns-in_default-clause-not_text
returns-in_default-clause-not_text c = search rules

pub returns-in_default-clause-not_pattern : goal.returns-in_default-clause-not_pattern
returns-in_default-clause-not_pattern c = search rules

pub returns-in-Err-CompiledTooBig-clause-not_pattern : goal.returns-in-Err-CompiledTooBig-clause-not_pattern
returns-in-Err-CompiledTooBig-clause-not_pattern c = search rules
