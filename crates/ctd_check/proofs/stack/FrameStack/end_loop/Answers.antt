use Rattle.std.proofs.Common.{arith, ◌-◌}
use Rattle.ctd_check.proofs.Stacks.{popped, fits_less}
use Rattle.ctd_check.proofs.stack.FrameStack.end_loop.Goals as goal

pub invariant_of-self : goal.invariant_of-self
invariant_of-self c = record {
  fits = fits_less c.args.self.now.left (c.args.self.now.left - 1) c.pop.new.self.items (omega arith) (popped c.args.self.now.left c.args.self.now.frames.items c.pop.new.self.items c.pop.result c.pop.ensures.items c.args.self.now.fits);
}
