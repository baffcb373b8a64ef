use Rattle.std.proofs.Common.{ap, sym, subst, ◌∙◌, arith, map}
use Rattle.std.proofs.lemmas.List.{take_all}
use Rattle.std.proofs.lemmas.Result.{IfOk-from_err}
use Rattle.ctd_store.specs.declared.value.Value.TheVariants as values
use Rattle.std.specs.List.{AllByRecursion}
use Rattle.ctd_value.proofs.Distinct.{IsKeyed, all_more}
use Rattle.ctd_value.proofs.ListTraversal.{show_more}
use Rattle.ctd_value.proofs.unique.texts_of.Goals as goal

pub loop-value-preserved : goal.loop-value-preserved
loop-value-preserved c = record {
  shown =
      show_more (λ t. values.Text t.1.now) c.push_reserved.new.self.items c.loop-value.texts.items (c.first_eight.result, c.in-Some.bytes) c.args.row.now c.loop-value.value-index c.value-item.result c.loop-value-test.true c.value-item.is
      c.push_reserved.ensures.items c.loop-value.invariant.shown (sym c.in-Some.ensures.value);
  first = all_more IsKeyed c.push_reserved.new.self.items c.loop-value.texts.items (c.first_eight.result, c.in-Some.bytes) c.push_reserved.ensures.items c.loop-value.invariant.first c.first_eight.ensures.value;
  room = omega (arith, c.loop-value.invariant.room, c.push_reserved.ensures.len, c.push_reserved.ensures.capacity);
}

pub returns : goal.returns
returns c = record { value = c.loop-value.invariant.shown ∙ take_all c.loop-value.value-index c.args.row.now c.loop-value-test.false; first = c.loop-value.invariant.first }

pub returns-in_err-texts : goal.returns-in_err-texts
returns-in_err-texts c = record { value = IfOk-from_err c.from_residual.result _ c.from_residual.ensures.0; first = IfOk-from_err c.from_residual.result _ c.from_residual.ensures.0 }

pub push_reserved-requires : goal.push_reserved-requires
push_reserved-requires c = omega (arith, c.loop-value.invariant.room, c.loop-value-test.true)

pub loop-value-init : goal.loop-value-init
loop-value-init c = record {
  shown = ap (map (λ t. values.Text t.1.now)) c.in_ok-texts.ensures.items;
  first = subst (AllByRecursion IsKeyed) (sym c.in_ok-texts.ensures.items) tt;
  room = omega (arith, c.in_ok-texts.ensures.len, c.in_ok-texts.ensures.capacity);
}
