use Rattle.std.proofs.Common.{inl}
use Rattle.ctd_findings.proofs.Sound.{one_more}
use Rattle.ctd_findings.proofs.program.place_all.Goals as goal

pub loop-remark-preserved-then-is_backed : goal.loop-remark-preserved-then-is_backed
loop-remark-preserved-then-is_backed c = λ places never has said before.
    one_more places never _ _ _ (inl has, c.is_backed.ensures c.if-is_backed.true never c.args.place said) c.add.ensures.adds (c.loop-remark.invariant places never has said before)
