use Rattle.std.proofs.Common.{ap, ◌∙◌}
use Rattle.std.specs.List.{fold}
use Rattle.ctd_source.specs.inner.TestData.{spot_after}
use Rattle.ctd_source.proofs.Counted.{runs_no_newline, runs_last_newline}
use Rattle.ctd_source.proofs.running_spot.RunningSpot.pass_all.Goals as goal

pub returns-in_default-clause-value : goal.returns-in_default-clause-value
returns-in_default-clause-value c =
    let s = c.self.inside in
    runs_no_newline s.line s.line_start s.offset c.args.bytes.now c.self.invariant c.in_default.ensures ∙ ap (λ t. fold spot_after t c.args.bytes.now) c.self.view_is

pub returns-in-Some-clause-value : goal.returns-in-Some-clause-value
returns-in-Some-clause-value c =
    let s = c.self.inside in
    runs_last_newline s.line s.line_start s.offset c.args.bytes.now c.in-Some.last _ c.in-Some.ensures.0 c.in-Some.ensures.1 c.newlines.ensures.count ∙ ap (λ t. fold spot_after t c.args.bytes.now) c.self.view_is
