use Rattle.ctd_check.proofs.BigSteps.{big_steps_hold, one_end, meaning_is_end}
use Rattle.ctd_check.proofs.laws.big_steps_are_the_run.Goals as goal

pub returns : goal.returns
returns c = record { holds = big_steps_hold; one = one_end; meaning = λ mode program presets d. meaning_is_end d mode program presets }
