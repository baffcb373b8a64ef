use Rattle.ctd_elements.proofs.Following.{implied}
use Rattle.ctd_elements.proofs.follow.follows_alone.Goals as goal

pub returns-in-KeysWithin : goal.returns-in-KeysWithin
returns-in-KeysWithin c = λ yes. implied c.args.state _ c.args.fact c.in-KeysWithin.is (c.has_no_keys.ensures.within yes)

pub returns-in-ValuesAreKeys : goal.returns-in-ValuesAreKeys
returns-in-ValuesAreKeys c = λ yes. implied c.args.state _ c.args.fact c.in-ValuesAreKeys.is (c.has_no_keys-in-ValuesAreKeys.ensures.values yes)
