use Rattle.ctd_limits.proofs.Turns.{counts_on}
use Rattle.ctd_limits.proofs.Valuing.{when_ok}
use Rattle.ctd_limits.proofs.turn.next_turn.Goals as goal

pub returns : goal.returns
returns c = when_ok c.sum.result (λ l by. counts_on c.args.state c.args.counter c.in_ok-last.last c.in_ok-one.one l c.in_ok-last.ensures c.in_ok-one.ensures by) c.sum.ensures
