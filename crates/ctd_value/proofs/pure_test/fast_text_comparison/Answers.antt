use Rattle.std.proofs.Common.{◌≡◌, Ok, ap, sym, ◌∙◌, refl, not, Ordering, Less, Equal, Greater}
use Rattle.std.specs.Ordering.{is_eq, is_ne}
use Rattle.std.proofs.lemmas.Map.Text.{is_eq-slice_cmp}
use Rattle.ctd_store.specs.declared.value.Value.TheVariants as values
use Rattle.ctd_value.specs.Truth.{compares}
use Rattle.ctd_value.proofs.pure_test.fast_text_comparison.Goals as goal

pub returns-in-Equal : goal.returns-in-Equal
returns-in-Equal c =
    let literal = c.args.literal.now in
    let bytes = c.in_ok-bytes.bytes.now in
    record {
      value = ap (λ v. compares c.args.by v (Ok (values.Text literal))) c.in_ok-bytes.ensures.value
          ∙ ap (λ by. compares by (Ok (values.Text bytes)) (Ok (values.Text literal))) c.in-Equal.is
          ∙ ap Ok (is_eq-slice_cmp bytes literal ∙ sym c.eq.ensures);
    }

differs : (o : Ordering) → is_ne o ≡ not (is_eq o)
differs Less = refl
differs Equal = refl
differs Greater = refl

pub returns-in-Unequal : goal.returns-in-Unequal
returns-in-Unequal c =
    let literal = c.args.literal.now in
    let bytes = c.in_ok-bytes.bytes.now in
    record {
      value = ap (λ v. compares c.args.by v (Ok (values.Text literal))) c.in_ok-bytes.ensures.value
          ∙ ap (λ by. compares by (Ok (values.Text bytes)) (Ok (values.Text literal))) c.in-Unequal.is
          ∙ ap Ok (differs _ ∙ ap not (is_eq-slice_cmp bytes literal) ∙ sym c.ne.ensures);
    }
