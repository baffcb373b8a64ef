use Rattle.std.proofs.Common.{sym, subst}
use Rattle.std.specs.Prelude.{map}
use Rattle.ctd_syntax.specs.inner.Front.{lexeme}
use Rattle.ctd_syntax.specs.inner.TestGrammar.{AreGroups, AreKnownGroups}
use Rattle.ctd_syntax.proofs.TestGroups.{group_is}
use Rattle.ctd_syntax.proofs.condition.group_at.Goals.{in-Some, in-None}
use Rattle.ctd_syntax.proofs.condition.group_at.Goals as goal

pub returns-clause-holds : goal.returns-clause-holds
returns-clause-holds c =
    let groups : AreGroups c.match-groups.groups (map lexeme c.args.tokens.now) = elim c.match-groups.branch [
      | in-Some w ↦ subst (λ n. AreGroups n (map lexeme c.args.tokens.now)) (sym w.groups-is) (subst (λ o. AreKnownGroups o (map lexeme c.args.tokens.now)) w.in-Some.is c.requires.known)
      | in-None w ↦ subst (λ n. AreGroups n (map lexeme c.args.tokens.now)) (sym w.groups-is) w.test_groups-groups.ensures
    ] in
    (group_is c.match-groups.groups (map lexeme c.args.tokens.now) (map lexeme c.in_ok-rest.rest.now) groups c.if-groups-eq0.false c.in_ok-rest.ensures.found).0

pub returns-clause-further : goal.returns-clause-further
returns-clause-further c =
    let groups : AreGroups c.match-groups.groups (map lexeme c.args.tokens.now) = elim c.match-groups.branch [
      | in-Some w ↦ subst (λ n. AreGroups n (map lexeme c.args.tokens.now)) (sym w.groups-is) (subst (λ o. AreKnownGroups o (map lexeme c.args.tokens.now)) w.in-Some.is c.requires.known)
      | in-None w ↦ subst (λ n. AreGroups n (map lexeme c.args.tokens.now)) (sym w.groups-is) w.test_groups-groups.ensures
    ] in
    (group_is c.match-groups.groups (map lexeme c.args.tokens.now) (map lexeme c.in_ok-rest.rest.now) groups c.if-groups-eq0.false c.in_ok-rest.ensures.found).1
