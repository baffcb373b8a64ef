use Rattle.std.proofs.Common.{rules, sym, ◌∙◌}
use Rattle.ctd_range.proofs.Ends.{only_one}
use Rattle.ctd_range.proofs.order.other.Goals as goal

pub returns-then-a-b : goal.returns-then-a-b
returns-then-a-b c = record { refines = λ n x y apart a b. c.above_end.ensures n x (λ is. apart (is ∙ search rules ∙ sym (only_one c.args.b n y (search rules) b))) a }

pub returns-then-a-b-2 : goal.returns-then-a-b-2
returns-then-a-b-2 c = record { refines = λ n x y apart a b. c.below_end.ensures n x (λ is. apart (is ∙ search rules ∙ sym (only_one c.args.b n y (search rules) b))) a }
