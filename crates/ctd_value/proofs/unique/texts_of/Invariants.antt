use Rattle.std.proofs.Common.{◌≡◌, map, take, ◌+◌, ◌≤◌, length}
use Rattle.std.specs.Prelude.{vec_len, vec_capacity}
use Rattle.std.specs.List.{AllByRecursion}
use Rattle.ctd_store.specs.declared.value.Value.TheVariants as values
use Rattle.ctd_value.proofs.Distinct.{IsKeyed}
use Rattle.ctd_value.proofs.unique.texts_of.Given as goal

abbrev pub invariant-loop-value : goal.invariant-loop-value
invariant-loop-value l = record {
  shown : map (λ t. values.Text t.1.now) l.texts.items ≡ take l.value-index l.row;
  first : AllByRecursion IsKeyed l.texts.items;
  room : length l.row + vec_len l.texts ≤ vec_capacity l.texts + l.value-index;
}
