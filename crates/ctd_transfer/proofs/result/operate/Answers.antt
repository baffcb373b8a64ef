use Rattle.ctd_transfer.proofs.Common.{IsIn, operate, subst, ◌≡◌}
use Rattle.ctd_transfer.proofs.result.operate.Goals as goal

pub returns-in-Some : goal.returns-in-Some
returns-in-Some c = record {
  operates = λ r is k x y left right.
      let same : r ≡ (c.in-Some.x, c.in-Some.y) = cc (is, c.in-Some.is) in
      c.of_computed.ensures k (operate c.args.operator x y) (c.compute.ensures k x y (subst (λ q. IsIn q.0 k x) same left) (subst (λ q. IsIn q.1 k y) same right));
}

pub returns-in-None : goal.returns-in-None
returns-in-None c = record { operates = λ r is k x y left right. absurd (cc (is, c.in-None.is)) }
