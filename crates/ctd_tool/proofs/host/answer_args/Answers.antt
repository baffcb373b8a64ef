use Rattle.std.proofs.Common.{refl}
use Rattle.ctd_report.proofs.EndLemmas.{EndsWithReport-weaker}
use Rattle.ctd_tool.specs.Theorem.{with_words, bad_words, no_room}
use Rattle.ctd_tool.proofs.host.answer_args.Goals as goal

pub returns-in-OutOfMemory : goal.returns-in-OutOfMemory
returns-in-OutOfMemory g c = EndsWithReport-weaker _ _ _ _ _ (λ report is. no_room refl is) c.without_words.ensures

pub returns-in_default : goal.returns-in_default
returns-in_default g c = EndsWithReport-weaker _ _ _ _ _ (λ report is. bad_words c.in-Err.kind c.in-Err.is c.in_default.not-OutOfMemory refl is) c.without_words-in_default.ensures

pub returns-in_default-copy_words : goal.returns-in_default-copy_words
returns-in_default-copy_words g c = EndsWithReport-weaker _ _ _ _ _ (λ report is. no_room refl is) c.without_words-in_default-copy_words.ensures

pub returns : goal.returns
returns g c = EndsWithReport-weaker _ _ _ _ _ (λ report is. with_words c.in-Ok.args c.in-Ok.is is) (rw (c.as_slice.ensures.value, c.in-Ok-copy_words.ensures) at c.run_words.ensures)
