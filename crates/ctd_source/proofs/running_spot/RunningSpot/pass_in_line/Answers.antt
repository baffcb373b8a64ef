use Rattle.std.proofs.Common.{ap, ◌∙◌}
use Rattle.std.specs.List.{fold}
use Rattle.ctd_source.specs.inner.TestData.{spot_after}
use Rattle.ctd_source.proofs.Counted.{runs_in_line}
use Rattle.ctd_source.proofs.running_spot.RunningSpot.pass_in_line.Goals as goal

pub returns-clause-value : goal.returns-clause-value
returns-clause-value c bytes len none =
    let s = c.self.inside in
    runs_in_line s.line s.line_start s.offset bytes c.args.n c.self.invariant len none ∙ ap (λ t. fold spot_after t bytes) c.self.view_is
