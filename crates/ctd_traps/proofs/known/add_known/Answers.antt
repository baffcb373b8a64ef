use Rattle.ctd_traps.proofs.Knowing.{so_pushed}
use Rattle.ctd_traps.proofs.known.add_known.Goals as goal

pub returns-then-says_none : goal.returns-then-says_none
returns-then-says_none c = λ names h one so. so

pub returns : goal.returns
returns c = λ names h one so. so_pushed names h c.args.known.now.items c.push.new.self.items c.args.one c.in_ok-push.ensures.items one so
