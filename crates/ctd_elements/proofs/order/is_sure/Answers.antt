use Rattle.std.proofs.Common.{rules}
use Rattle.ctd_elements.proofs.Common.{get_or, length, subst, ◌<◌, ◌≡◌}
use Rattle.ctd_elements.specs.inner.Bounds.{IsSureOf}
use Rattle.ctd_elements.proofs.Bounds.{named_sure, number_sure}
use Rattle.ctd_elements.proofs.order.is_sure.Goals as goal

pub returns-in-None : goal.returns-in-None
returns-in-None c = λ yes. number_sure c.args.state c.args.b c.in-None.is

pub returns-in-Some-get : goal.returns-in-Some-get
returns-in-Some-get c =
    let t = c.in-Some.term in
    let inside : t.name < length c.args.state.entries.now = search rules in
    let is : c.in-Some-get.value.now ≡ get_or c.args.state.entries.now t.name c.in-Some-get.value.now = search rules in
    λ yes. named_sure c.args.state t c.in-Some-get.value.now c.args.b inside c.in-Some.is (subst (λ v. IsSureOf v) is (c.is_sure_number.ensures yes))
