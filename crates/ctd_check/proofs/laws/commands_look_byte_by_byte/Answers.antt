use Rattle.ctd_check.proofs.ByLooks.{visible_is_seen, one_effect, integers_are_seen, blanks_are_seen, strings_are_visible}
use Rattle.ctd_check.proofs.laws.commands_look_byte_by_byte.Goals as goal

pub returns : goal.returns
returns c = record { seen = visible_is_seen; one = one_effect; integers = integers_are_seen; blanks = blanks_are_seen; strings = strings_are_visible }
