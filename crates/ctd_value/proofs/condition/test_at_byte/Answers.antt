use Rattle.std.proofs.Common.{rules}
use Rattle.ctd_value.proofs.condition.test_at_byte.Goals as goal

pub returns-in_ok-byte_test-in-Not : goal.returns-in_ok-byte_test-in-Not
returns-in_ok-byte_test-in-Not c = search rules
