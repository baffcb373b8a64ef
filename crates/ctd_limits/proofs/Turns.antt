-- What is known of a number between two others, and of the counter of a loop.
use Rattle.std.proofs.Common.{List, None, [], arith, pos, subst, suc, sym, ℕ, ℤ, ◌+ℤ◌, ◌∷◌, ◌≡◌, ◌≤ℤ◌}
use Rattle.std.proofs.lemmas.Int.{ints}
use Rattle.std.specs.Borrow.{Bor}
use Rattle.ctd_store.specs.Store.{Bindings}
use Rattle.ctd_store.specs.declared.value.Value.TheVariants as values
use Rattle.ctd_elements.specs.declared.fact.Bound.{Bound}
use Rattle.ctd_elements.specs.declared.fact.AbstractState.{AbstractState}
use Rattle.ctd_elements.specs.calls.Limits.{IsAtLeastAll, IsAtMostAll, IsElementOf, IsExactly}
use Rattle.ctd_limits.specs.declared.known.ValueLimits.{ValueLimits}
use Rattle.ctd_limits.specs.calls.Known.{CountsOn, IsKnown, LiesBetween}
use Rattle.ctd_limits.specs.calls.Known.{KnowsBy, KnowsNumber}
use Rattle.ctd_limits.specs.inner.Values.{KnowsValue}
use Rattle.ctd_limits.proofs.Dividing.{most_less}

least_more : (names : List (Bor (List ℕ))) (h : Bindings) (bs : List Bound) (x z : ℤ) → x ≤ℤ z → IsAtLeastAll names h bs (values.Int x) → IsAtLeastAll names h bs (values.Int z)
least_more names h [] x z more all = tt
least_more names h (b ∷ bs) x z more all = ((all.0.0, all.0.1, omega (arith, ints, more, all.0.2)), least_more names h bs x z more all.1)

pub lies_between : (low high l : ValueLimits) → l.exact ≡ None → l.source ≡ None → l.lows.items ≡ low.lows.items → l.highs.items ≡ high.highs.items → LiesBetween low high l
lies_between low high l none nothing same also names h x y z is_x is_y above below = record {
  exact = subst (λ o. IsExactly names h o (values.Int z)) (sym none) tt;
  lows = subst (λ k. IsAtLeastAll names h k (values.Int z)) (sym same) (least_more names h low.lows.items x z above is_x.lows);
  highs = subst (λ k. IsAtMostAll names h k (values.Int z)) (sym also) (most_less names h high.highs.items y z below is_y.highs);
  source = subst (λ o. IsElementOf names h o (values.Int z)) (sym nothing) tt;
}

pub counts_on : (s : AbstractState) (counter : ℕ) (last one l : ValueLimits) → KnowsValue s counter last → KnowsNumber (pos 1) one → KnowsBy (λ x y. x +ℤ y) last one l → CountsOn s counter l
counts_on s counter last one l knows known by n k h it at =
    let same : (pos k +ℤ pos 1) ≡ pos (suc k) = omega (arith, ints) in
    subst (λ z. IsKnown s.names.now h l (values.Int z)) same (by s.names.now h (pos k) (pos 1) (knows n h (values.Int (pos k)) it at) (known s.names.now h))
