use Rattle.std.proofs.Common.{arith}
use Rattle.ctd_check.proofs.Stacks.{fits_less}
use Rattle.ctd_check.proofs.stack.FrameStack.pay.Goals as goal

pub invariant_of-self : goal.invariant_of-self
invariant_of-self c = record { fits = fits_less c.args.self.now.left c.in-Some.rest c.args.self.now.frames.items (omega arith) c.args.self.now.fits }
