use Rattle.ctd_traps.proofs.Common.{arith, faults_of}
use Rattle.ctd_traps.proofs.Listed.{all_added, next_added}
use Rattle.ctd_traps.proofs.trap.add_traps.Goals as goal

pub loop-trap-init : goal.loop-trap-init
loop-trap-init c = record { more = λ t has. has; added = λ t has. absurd (omega (arith, has.1)) }

pub loop-trap-preserved : goal.loop-trap-preserved
loop-trap-preserved c =
    let added = c.in_ok-add_trap.ensures in
    record {
      more = λ t has. added.more t (c.loop-trap.invariant.more t has);
      added = next_added c.args.more.now c.loop-trap.trap-index _ (faults_of c.loop-trap.traps.items) (faults_of c.add_trap.new.traps.items) c.loop-trap-test.true added.more added.listed c.loop-trap.invariant.added;
    }

pub returns : goal.returns
returns c = record {
  more = c.loop-trap.invariant.more;
  added = all_added c.args.more.now c.loop-trap.trap-index (faults_of c.loop-trap.traps.items) c.loop-trap-test.false c.loop-trap.invariant.added;
}
