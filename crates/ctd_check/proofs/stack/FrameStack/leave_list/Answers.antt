use Rattle.std.proofs.Common.{arith}
use Rattle.ctd_check.proofs.Stacks.{popped}
use Rattle.ctd_check.proofs.Turns.{left_list}
use Rattle.ctd_check.proofs.stack.FrameStack.leave_list.Goals as goal

pub invariant_of-self : goal.invariant_of-self
invariant_of-self c = record {
  fits = popped c.args.self.now.left c.args.self.now.frames.items c.pop.new.self.items c.pop.result c.pop.ensures.items c.args.self.now.fits;
}

pub returns-clause-to_do : goal.returns-clause-to_do
returns-clause-to_do c = left_list c.args.self.now.frames.items c.pop.new.self.items c.pop.result c.pop.ensures.items c.requires.done c.requires.no_loop
