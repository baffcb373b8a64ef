-- What is known of values all through a loop.
use Rattle.ctd_traps.proofs.Common.{AbstractState, Bindings, Bor, Context, Counting, IsBehind, IsKnown, IsTurn, List, None, Option, Phase, Some, SparesLoop, StateStands, Unchanged, Value, ValueLimits, VarTree, [], arith, at_key, get_or, length, pos, subst, suc, sym, true, value_at, zero, ℕ, ◌++◌, ◌<◌, ◌∙◌, ◌∷◌, ◌≡◌}
use Rattle.ctd_program.specs.declared.tree.Compare.{Compare}
use Rattle.ctd_program.specs.declared.tree.Loop.{Loop}
use Rattle.ctd_elements.specs.declared.fact.AbstractState.{AbstractState as View}
use Rattle.ctd_elements.specs.declared.fact.Bound.{Bound}
use Rattle.ctd_elements.specs.declared.fact.Index.{Index}
use Rattle.ctd_elements.specs.declared.fact.Index.TheVariants as indices
use Rattle.ctd_elements.specs.declared.fact.Term.{Term}
use Rattle.ctd_elements.specs.declared.limits.Limits.{Limits}
use Rattle.ctd_elements.specs.calls.Bounds.{IsAt, IsNumber, alone}
use Rattle.ctd_elements.specs.calls.Limits.{IsAtLeast, IsAtLeastAll, IsAtMost, IsAtMostAll, IsElementOf, IsExactly}
use Rattle.ctd_elements.proofs.Limiting.{least_at, most_at}
use Rattle.ctd_limits.proofs.Listing.{least_push, most_push}
use Rattle.ctd_limits.specs.calls.Known.{CountsOn, IsNothing, IsViewOf, KnowsName, KnowsNumber}
use Rattle.ctd_partitions.proofs.Changing.{viewed}
use Rattle.ctd_partitions.specs.calls.States.{IsViewOf as IsStateView}
use Rattle.ctd_partitions.specs.calls.Tests.{ComparesState}
use Rattle.ctd_states.specs.calls.States.{name_at}
use Rattle.ctd_store.specs.declared.value.Value.TheVariants as values
use Rattle.ctd_traps.specs.inner.Turns.{AllLast, AreLasting, BoundLasts, IndexLasts, IsLasting, KnowsLasting, KnowsTurn, StandsBeside}

-- a bound by a name that keeps its value, and one that is a number
pub name_lasts : (names : List (Bor (List ℕ))) (l : Loop) (b : Bound) (t : Term) → b.term ≡ Some t → SparesLoop (name_at names t.name) l → BoundLasts names l b
name_lasts names l b t is spares h after z same bound =
    let of : IsNumber names h (Some t) b.add z = subst (λ o. IsNumber names h o b.add z) is bound in
    subst (λ o. IsNumber names after o b.add z) (sym is) (of.0, same (name_at names t.name) spares ∙ of.1, of.2)

pub number_lasts : (names : List (Bor (List ℕ))) (l : Loop) (b : Bound) → b.term ≡ None → BoundLasts names l b
number_lasts names l b is h after z same bound = subst (λ o. IsNumber names after o b.add z) (sym is) (subst (λ o. IsNumber names h o b.add z) is bound)

-- bounds
push_lasts : (names : List (Bor (List ℕ))) (l : Loop) (bs : List Bound) (b : Bound) → AllLast names l bs → BoundLasts names l b → AllLast names l (bs ++ b ∷ [])
push_lasts names l [] b all one = (one, tt)
push_lasts names l (c ∷ bs) b all one = (all.0, push_lasts names l bs b all.1 one)

pub lasting_push : (names : List (Bor (List ℕ))) (l : Loop) (bounds kept : List Bound) (i : ℕ) (e : Bound) → i < length bounds → BoundLasts names l (get_or bounds i e) → AreLasting names l bounds kept → AreLasting names l bounds (kept ++ get_or bounds i e ∷ [])
lasting_push names l bounds kept i e inside lasts so_far = record {
  lows = λ h v all. least_push names h kept (get_or bounds i e) v (so_far.lows h v all) (least_at names h bounds i e v inside all);
  highs = λ h v all. most_push names h kept (get_or bounds i e) v (so_far.highs h v all) (most_at names h bounds i e v inside all);
  last = push_lasts names l kept (get_or bounds i e) so_far.last lasts;
}

pub none_lasting : (names : List (Bor (List ℕ))) (l : Loop) (bounds kept : List Bound) → kept ≡ [] → AreLasting names l bounds kept
none_lasting names l bounds kept none = subst (AreLasting names l bounds) (sym none) (record { lows = λ h v all. tt; highs = λ h v all. tt; last = tt })

least_lasts : (names : List (Bor (List ℕ))) (l : Loop) (b : Bound) (h after : Bindings) (v : Value) → BoundLasts names l b → Unchanged (λ name. SparesLoop name l) h after → IsAtLeast names h b v → IsAtLeast names after b v
least_lasts names l b h after (values.Int x) lasts same is = (is.0, lasts h after is.0 same is.1, is.2)
least_lasts names l b h after (values.Text bytes) lasts same is = is

most_lasts : (names : List (Bor (List ℕ))) (l : Loop) (b : Bound) (h after : Bindings) (v : Value) → BoundLasts names l b → Unchanged (λ name. SparesLoop name l) h after → IsAtMost names h b v → IsAtMost names after b v
most_lasts names l b h after (values.Int x) lasts same is = (is.0, lasts h after is.0 same is.1, is.2)
most_lasts names l b h after (values.Text bytes) lasts same is = is

all_least : (names : List (Bor (List ℕ))) (l : Loop) (bs : List Bound) (h after : Bindings) (v : Value) → AllLast names l bs → Unchanged (λ name. SparesLoop name l) h after → IsAtLeastAll names h bs v → IsAtLeastAll names after bs v
all_least names l [] h after v last same all = tt
all_least names l (b ∷ bs) h after v last same all = (least_lasts names l b h after v last.0 same all.0, all_least names l bs h after v last.1 same all.1)

all_most : (names : List (Bor (List ℕ))) (l : Loop) (bs : List Bound) (h after : Bindings) (v : Value) → AllLast names l bs → Unchanged (λ name. SparesLoop name l) h after → IsAtMostAll names h bs v → IsAtMostAll names after bs v
all_most names l [] h after v last same all = tt
all_most names l (b ∷ bs) h after v last same all = (most_lasts names l b h after v last.0 same all.0, all_most names l bs h after v last.1 same all.1)

-- an index
at_lasts : (names : List (Bor (List ℕ))) (l : Loop) (b : Bound) (h after : Bindings) (v : Value) → BoundLasts names l b → Unchanged (λ name. SparesLoop name l) h after → IsAt names h (indices.Number b) v → IsAt names after (indices.Number b) v
at_lasts names l b h after (values.Int x) lasts same is = lasts h after x same is
at_lasts names l b h after (values.Text bytes) lasts same is = is

pub index_lasts : (names : List (Bor (List ℕ))) (l : Loop) (index : Index) (b : Bound) → index ≡ indices.Number b → BoundLasts names l b → IndexLasts names l index
index_lasts names l index b is lasts h after v same at = subst (λ i. IsAt names after i v) (sym is) (at_lasts names l b h after v lasts same (subst (λ i. IsAt names h i v) is at))

pub kept_index : (names : List (Bor (List ℕ))) (l : Loop) (exact : Option Index) (index : Index) → exact ≡ Some index → IndexLasts names l index → IsLasting names l exact (Some index)
kept_index names l exact index is lasts = record { said = λ h v known. subst (λ o. IsExactly names h o v) is known; lasts = lasts }

pub no_index_lasts : (names : List (Bor (List ℕ))) (l : Loop) (exact : Option Index) → IsLasting names l exact None
no_index_lasts names l exact = record { said = λ h v known. tt; lasts = λ h after v same known. tt }

-- all that is known of a count
source_none : (names : List (Bor (List ℕ))) (h : Bindings) (l : ValueLimits) (v : Value) → l.source ≡ None → IsElementOf names h l.source v
source_none names h l v none = subst (λ s. IsElementOf names h s v) (sym none) tt

pub limits_last : (names : List (Bor (List ℕ))) (l : Loop) (count kept : ValueLimits) → IsLasting names l count.exact kept.exact → AreLasting names l count.lows.items kept.lows.items → AreLasting names l count.highs.items kept.highs.items → kept.source ≡ None → KnowsLasting names l count kept
limits_last names l count kept exact lows highs none = record {
  said = λ h v known. record {
    exact = exact.said h v known.exact;
    lows = lows.lows h v known.lows;
    highs = highs.highs h v known.highs;
    source = source_none names h kept v none;
  };
  lasts = λ h after v same known. record {
    exact = exact.lasts h after v same known.exact;
    lows = all_least names l kept.lows.items h after v lows.last same known.lows;
    highs = all_most names l kept.highs.items h after v highs.last same known.highs;
    source = source_none names after kept v none;
  };
}

-- the number of a turn: that of the first one, one of which nothing is known, and one more than that of the turn before
pub knows_first : (g : Context) (st : AbstractState) (target : VarTree) (phase : Phase) (counting : Counting) (l : ValueLimits) → ((n k : ℕ) → IsTurn phase n k → k ≡ 0) → KnowsNumber (pos 0) l → KnowsTurn g st target phase counting l
knows_first g st target phase counting l first knows n k h is behind stands = subst (λ j. IsKnown g.names.now h l (values.Int (pos j))) (sym (first n k is)) (knows g.names.now h)

pub knows_nothing : (g : Context) (st : AbstractState) (target : VarTree) (phase : Phase) (counting : Counting) (l : ValueLimits) → IsNothing l → KnowsTurn g st target phase counting l
knows_nothing g st target phase counting l nothing n k h is behind stands = nothing g.names.now h (values.Int (pos k))

turn_known : (g : Context) (st : AbstractState) (view : View) (target : VarTree) (counting : Counting) (l : ValueLimits) (i n k : ℕ) (h : Bindings) → IsStateView g st view → name_at g.names.now i ≡ target.name → counting.is_name ≡ true → counting.is_kept ≡ true → CountsOn view i l
    → 0 < k → IsBehind counting (Some target) k h → StateStands g st n h → IsKnown g.names.now h l (values.Int (pos k))
turn_known g st view target counting l i n zero h seen at named kept counts is behind stands = absurd (omega (arith, is))
turn_known g st view target counting l i n (suc k) h seen at named kept counts is behind stands =
    let number : value_at h (at_key target.name []) ≡ Some (values.Int (pos k)) = behind named kept in
    let own : alone view.names.now h i ≡ Some (values.Int (pos k)) = subst (λ q. value_at h (at_key (name_at q i) []) ≡ Some (values.Int (pos k))) (sym seen.names) (subst (λ word. value_at h (at_key word []) ≡ Some (values.Int (pos k))) (sym at) number) in
    subst (λ q. IsKnown q h l (values.Int (pos (suc k)))) seen.names (counts n k h (viewed g st view n h seen stands) own)

pub knows_later : (g : Context) (st : AbstractState) (view : View) (target : VarTree) (phase : Phase) (counting : Counting) (l : ValueLimits) (i : ℕ) → IsStateView g st view → name_at g.names.now i ≡ target.name → counting.is_name ≡ true → counting.is_kept ≡ true → ((n k : ℕ) → IsTurn phase n k → 0 < k) → CountsOn view i l → KnowsTurn g st target phase counting l
knows_later g st view target phase counting l i seen at named kept later counts n k h is behind stands = turn_known g st view target counting l i n k h seen at named kept counts (later n k is) behind stands

-- the number of a turn beside the count
pub stands_same : (g : Context) (st : AbstractState) (target : VarTree) (by : Compare) (counting : Counting) → StandsBeside g st target by counting st
stands_same g st target by counting n k m h known relates stands = stands

pub stands_beside : (g : Context) (st after : AbstractState) (view : View) (target : VarTree) (by : Compare) (counting : Counting) (own : ValueLimits) (one count : Limits) → counting.is_name ≡ true → IsStateView g st view → KnowsName view target.name own → IsViewOf own one → IsViewOf counting.turns.count count
    → ComparesState g st by one count after → StandsBeside g st target by counting after
stands_beside g st after view target by counting own one count named seen knows seen_own seen_count compares n k m h known relates stands =
    compares n h (pos k) (pos m) stands
    (seen_own g.names.now h (values.Int (pos k)) (subst (λ q. IsKnown q h own (values.Int (pos k))) seen.names (knows n h (values.Int (pos k)) (viewed g st view n h seen stands) (known named).0)))
    (seen_count g.names.now h (values.Int (pos m)) (known named).1) relates
