use Rattle.std.proofs.Common.{◌≡◌, ◌-◌, length, take, drop, sym, arith, length-drop}
use Rattle.std.specs.Prelude.{map}
use Rattle.std.proofs.lemmas.List.{take_all}
use Rattle.ctd_syntax.specs.inner.Front.{lexeme}
use Rattle.ctd_syntax.proofs.TestGroups.{groups_some, groups_none}
use Rattle.ctd_syntax.proofs.condition.test_groups.Goals as goal

pub returns-in-Some : goal.returns-in-Some
returns-in-Some c =
    let o = c.opening_len-openings.ensures in
    let n = c.opening_len-openings.result in
    let ps = c.args.tokens.now in
    let whole : take (length ps - n) (drop n ps) ≡ drop n ps = take_all (length ps - n) (drop n ps) (omega (arith, length-drop n ps)) in
    groups_some n c.in-Some.closed (map lexeme ps) (map lexeme (drop n ps)) o.opening o.ended (rw (sym whole) c.in-Some.ensures.some.1) c.in-Some.ensures.some.0

pub returns-in-None : goal.returns-in-None
returns-in-None c =
    let o = c.opening_len-openings.ensures in
    let n = c.opening_len-openings.result in
    let ps = c.args.tokens.now in
    let whole : take (length ps - n) (drop n ps) ≡ drop n ps = take_all (length ps - n) (drop n ps) (omega (arith, length-drop n ps)) in
    groups_none n (map lexeme ps) (map lexeme (drop n ps)) o.opening o.ended (rw (sym whole) c.in-None.ensures.none)
