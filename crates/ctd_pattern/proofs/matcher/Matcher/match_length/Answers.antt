use Rattle.std.proofs.Common.{◌∙◌}
use Rattle.ctd_pattern.proofs.WrittenPatterns.{length_as_written}
use Rattle.ctd_pattern.proofs.matcher.Matcher.match_length.Goals as goal

pub returns-clause-length : goal.returns-clause-length
returns-clause-length c =
    rw (← c.self.view_is)
    (c.length_of_first.ensures.length ∙ length_as_written _ _ c.args.window.now (λ k. (c.type_inv.window k).fits) c.self.invariant)
