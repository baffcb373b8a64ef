use Rattle.ctd_elements.proofs.Following.{implied_by}
use Rattle.ctd_elements.proofs.follow.follows_by.Goals as goal

pub returns-in-KeysWithin-KeysWithin : goal.returns-in-KeysWithin-KeysWithin
returns-in-KeysWithin-KeysWithin c = λ yes. implied_by c.args.state _ _ c.args.fact c.args.other c.in-KeysWithin-KeysWithin.is-0 c.in-KeysWithin-KeysWithin.is-1 (c.are_keys_by.ensures.within yes)

pub returns-in-ValuesAreKeys-ValuesAreKeys : goal.returns-in-ValuesAreKeys-ValuesAreKeys
returns-in-ValuesAreKeys-ValuesAreKeys c = λ yes. implied_by c.args.state _ _ c.args.fact c.args.other c.in-ValuesAreKeys-ValuesAreKeys.is-0 c.in-ValuesAreKeys-ValuesAreKeys.is-1 (c.are_keys_by-in-ValuesAreKeys-ValuesAreKeys.ensures.values yes)
