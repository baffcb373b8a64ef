use Rattle.ctd_value.proofs.FastNumbers.{says_nothing}
use Rattle.ctd_value.proofs.pure_test.+fast_answer.Goals as goal

pub fast_connective-returns-in_err-fast_answer-in-Not : goal.fast_connective-returns-in_err-fast_answer-in-Not
fast_connective-returns-in_err-fast_answer-in-Not t c = record { value = says_nothing _ c.from_residual.ensures }

pub fast_and-returns-in_err-fast_answer : goal.fast_and-returns-in_err-fast_answer
fast_and-returns-in_err-fast_answer t c = record { value = says_nothing _ c.from_residual.ensures }

pub fast_or-returns-in_err-fast_answer : goal.fast_or-returns-in_err-fast_answer
fast_or-returns-in_err-fast_answer t c = record { value = says_nothing _ c.from_residual.ensures }
