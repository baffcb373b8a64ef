use Rattle.std.proofs.Common.{◌||◌, ap, sym, ◌∙◌}
use Rattle.std.specs.List.{list_any}
use Rattle.ctd_store.specs.calls.ValueRef.{value_of_ref}
use Rattle.ctd_store.specs.calls.Places.{cells}
use Rattle.ctd_store.specs.Order.{same_value}
use Rattle.ctd_store.proofs.Placed.{any_placed}
use Rattle.ctd_store.proofs.places.Places.has_value.Goals as goal

pub returns-then-is_scalar : goal.returns-then-is_scalar
returns-then-is_scalar c =
    let F = same_value (value_of_ref c.args.value) in
    record {
      value = sym (any_placed F c.args.self.now ∙ ap (λ t. t || (list_any F c.args.self.now.row.values.items || list_any (λ e. F e.1) (cells c.args.self.now.grid))) (sym c.is_scalar.ensures.value ∙ c.if-is_scalar.true));
    }

pub returns-then-is_among : goal.returns-then-is_among
returns-then-is_among c =
    let F = same_value (value_of_ref c.args.value) in
    let among = ap (list_any F) (sym c.deref.ensures.value) ∙ sym c.is_among.ensures.value ∙ c.if-is_among.true in
    record {
      value = sym (any_placed F c.args.self.now ∙ (λ i. (sym c.is_scalar.ensures.value ∙ c.if-is_scalar.false) i || (among i || list_any (λ e. F e.1) (cells c.args.self.now.grid))));
    }

pub returns : goal.returns
returns c =
    let F = same_value (value_of_ref c.args.value) in
    let among = ap (list_any F) (sym c.deref.ensures.value) ∙ sym c.is_among.ensures.value ∙ c.if-is_among.false in
    record {
      value = c.has_value.ensures.value
          ∙ sym (any_placed F c.args.self.now ∙ (λ i. (sym c.is_scalar.ensures.value ∙ c.if-is_scalar.false) i || (among i || list_any (λ e. F e.1) (cells c.args.self.now.grid))));
    }
