use Rattle.ctd_check.proofs.Locality.{unread_do_not_count}
use Rattle.ctd_check.proofs.laws.unread_bytes_do_not_count.Goals as goal

pub returns : goal.returns
returns c = record { unread = unread_do_not_count }
