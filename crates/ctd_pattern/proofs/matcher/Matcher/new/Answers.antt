use Rattle.regex.specs.Patterns.{Reads}
use Rattle.ctd_pattern.proofs.WrittenPatterns.{is_written}
use Rattle.ctd_pattern.proofs.matcher.Matcher.new.Goals as goal

pub invariant_of-result : goal.invariant_of-result
unfolding Reads
invariant_of-result c =
    rw (c.as_bytes.ensures.value, c.as_str.ensures, c.in_ok-matcher.ensures.pattern)
    (is_written _ _ _ _ (rw c.requires.config at c.requires.read))
