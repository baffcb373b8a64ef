-- Indices, and what is known of an element at them.
use Rattle.ctd_transfer.proofs.Common.{AbstractState, AbstractValue, AreAtPosition, AreEvaluated, AreIndices, Bindings, Bool, Bor, Context, EachStands, Err, Evaluation, Fault, IfSome, Indices, IsAmong, IsEvaluated, IsFaultOf, IsKnown, IsPossible, Limits, List, MayBe, None, Ok, Option, PossibleResult, Result, Some, Tells, Undefined, Value, ValueLimits, [], at_key, false, named_values, not, refl, subst, sym, true, value_at, value_or_undefined, vals, ℕ, ℤ, ◌>>=◌, ◌∷◌, ◌≡◌}
use Rattle.std.specs.Prelude.{IsTrue, is_some}
use Rattle.ctd_states.specs.calls.States.{name_at}
use Rattle.ctd_elements.specs.declared.fact.AbstractState.{AbstractState as View}
use Rattle.ctd_elements.specs.declared.fact.Cell.{Cell}
use Rattle.ctd_elements.specs.declared.fact.Source.{Source}
use Rattle.ctd_elements.specs.calls.Blocks.{Has}
use Rattle.ctd_elements.specs.calls.Limits.{IsCell, IsElementOf}
use Rattle.ctd_elements.specs.calls.Reading.{AreLimited, HasElement}
use Rattle.ctd_elements.specs.calls.States.{Describes}
use Rattle.ctd_element_changes.specs.calls.Changes.{AreAt, IsIndexFrom}
use Rattle.ctd_limits.specs.calls.Known.{IsCellAt, IsViewOf, KnowsAt}
use Rattle.ctd_partitions.proofs.Changing.{viewed}
use Rattle.ctd_partitions.specs.calls.States.{IsViewOf as IsStateView}
use Rattle.ctd_transfer.specs.declared.indices.Indices.TheVariants as indices
use Rattle.ctd_transfer.specs.inner.Evaluated.{EvaluatesAt}
use Rattle.ctd_transfer.specs.inner.Indices.{IsSureAt, KnowsElement}

-- of one index, and of two
one_limited : (g : Context) (n : ℕ) (h : Bindings) (index : Evaluation) (view : Limits) (is : List Value) → IsViewOf index.limits view → AreIndices g (indices.One index) n h is → AreLimited g.names.now h view None is
one_limited g n h index view [] seen are = absurd are
one_limited g n h index view (i ∷ []) seen are = seen g.names.now h i are.1.1
one_limited g n h index view (i ∷ j ∷ is) seen are = absurd (cc are.0)

two_limited : (g : Context) (n : ℕ) (h : Bindings) (index other : Evaluation) (view second : Limits) (is : List Value) → IsViewOf index.limits view → IsViewOf other.limits second → AreIndices g (indices.Two index other) n h is → AreLimited g.names.now h view (Some second) is
two_limited g n h index other view second [] seen also are = absurd are
two_limited g n h index other view second (i ∷ []) seen also are = absurd are
two_limited g n h index other view second (i ∷ j ∷ []) seen also are = (seen g.names.now h i are.1.1, also g.names.now h j are.2.1)
two_limited g n h index other view second (i ∷ j ∷ k ∷ is) seen also are = absurd (cc are.0)

-- the position of indices
in_cell : (names : List (Bor (List ℕ))) (h : Bindings) (cell : Option Cell) (i : Value) (is : List Value) → IsCell names h cell (i ∷ is) → AreAt names h cell (i ∷ is)
in_cell names h None i is has = tt
in_cell names h (Some c) i is has = has

from_source : (names : List (Bor (List ℕ))) (h : Bindings) (source : Option Source) (i : Value) (is : List Value) → is ≡ [] → IsElementOf names h source i → IsIndexFrom names h source (i ∷ is)
from_source names h None i is none has = tt
from_source names h (Some s) i [] none has = has
from_source names h (Some s) i (j ∷ is) none has = absurd (cc none)

pub one_position : (g : Context) (n : ℕ) (h : Bindings) (index : Evaluation) (some : Indices) (view : Limits) (cell : Option Cell) (number : Option ℤ) (i : Value) (is : List Value) → some ≡ indices.One index → IsViewOf index.limits view → IsCellAt view None cell → AreIndices g some n h (i ∷ is)
    → AreAtPosition g h (record { cell = cell; source = index.limits.source; number = number }) (i ∷ is)
one_position g n h index some view cell number i is same seen stands are =
    let given : AreIndices g (indices.One index) n h (i ∷ is) = subst (λ s. AreIndices g s n h (i ∷ is)) same are in
    record {
      cell = in_cell g.names.now h cell i is (stands g.names.now h (i ∷ is) (one_limited g n h index view (i ∷ is) seen given));
      source = from_source g.names.now h index.limits.source i is given.0 given.1.1.source;
    }

pub two_position : (g : Context) (n : ℕ) (h : Bindings) (index other : Evaluation) (some : Indices) (view second : Limits) (cell : Option Cell) (number : Option ℤ) (i : Value) (is : List Value) → some ≡ indices.Two index other → IsViewOf index.limits view → IsViewOf other.limits second
    → IsCellAt view (Some second) cell → AreIndices g some n h (i ∷ is) → AreAtPosition g h (record { cell = cell; source = None; number = number }) (i ∷ is)
two_position g n h index other some view second cell number i is same seen also stands are =
    let given : AreIndices g (indices.Two index other) n h (i ∷ is) = subst (λ s. AreIndices g s n h (i ∷ is)) same are in
    record { cell = in_cell g.names.now h cell i is (stands g.names.now h (i ∷ is) (two_limited g n h index other view second (i ∷ is) seen also given)); source = tt }

-- elements that surely have values
pub one_sure : (s : View) (listed : Option ℕ) (array : ℕ) (some : Indices) (index : Evaluation) (view : Limits) → listed ≡ Some array → some ≡ indices.One index → IsViewOf index.limits view → HasElement s array view None → IsSureAt s listed some
one_sure s listed array some index view is same seen has =
    subst (λ o. IsSureAt s o some) (sym is) (subst (λ q. IsSureAt s (Some array) q) (sym same) (λ g n h all names describes are. has n h all describes (subst (λ q. AreLimited q h view None all) (sym names) (one_limited g n h index view all seen are))))

pub two_sure : (s : View) (listed : Option ℕ) (array : ℕ) (some : Indices) (index other : Evaluation) (view second : Limits) → listed ≡ Some array → some ≡ indices.Two index other → IsViewOf index.limits view → IsViewOf other.limits second → HasElement s array view (Some second) → IsSureAt s listed some
two_sure s listed array some index other view second is same seen also has =
    subst (λ o. IsSureAt s o some) (sym is)
    (subst (λ q. IsSureAt s (Some array) q) (sym same) (λ g n h all names describes are. has n h all describes (subst (λ q. AreLimited q h view (Some second) all) (sym names) (two_limited g n h index other view second all seen also are))))

-- what is known of the value of an element
pub one_known : (s : View) (name : List ℕ) (some : Indices) (index : Evaluation) (view : Limits) (l : ValueLimits) → some ≡ indices.One index → IsViewOf index.limits view → KnowsAt s name view None l → KnowsElement s name some l
one_known s name some index view l same seen knows =
    subst (λ q. KnowsElement s name q l) (sym same) (λ g n h all v names describes are has. knows n h all v describes (subst (λ q. AreLimited q h view None all) (sym names) (one_limited g n h index view all seen are)) has)

pub two_known : (s : View) (name : List ℕ) (some : Indices) (index other : Evaluation) (view second : Limits) (l : ValueLimits) → some ≡ indices.Two index other → IsViewOf index.limits view → IsViewOf other.limits second → KnowsAt s name view (Some second) l → KnowsElement s name some l
two_known s name some index other view second l same seen also knows =
    subst (λ q. KnowsElement s name q l) (sym same) (λ g n h all v names describes are has. knows n h all v describes (subst (λ q. AreLimited q h view (Some second) all) (sym names) (two_limited g n h index other view second all seen also are)) has)

-- an element that surely has a value has one
value_there : (s : View) (name : List ℕ) (listed : Option ℕ) (some : Indices) (g : Context) (n : ℕ) (h : Bindings) (is : List Value) → IfSome listed (λ i. name_at g.names.now i ≡ name) → IsSureAt s listed some → s.names.now ≡ g.names.now → Describes s n h → AreIndices g some n h is → IsTrue (is_some (value_at h (at_key name is)))
value_there s name None some g n h is named sure names describes are = absurd sure
value_there s name (Some array) some g n h is named sure names describes are =
    let has : Has s.names.now h array is = sure g n h is names describes are in
    let there : value_at h (at_key (name_at g.names.now array) is) ≡ Some has.0 = subst (λ q. value_at h (at_key (name_at q array) is) ≡ Some has.0) names has.1 in
    subst (λ o. IsTrue (is_some o)) (sym (subst (λ q. value_at h (at_key q is) ≡ Some has.0) named there)) refl

-- a value that was found, or none
value_found : (g : Context) (r : Evaluation) (one : PossibleResult) (n : ℕ) (h : Bindings) (o : Option Value) → r.found.values ≡ one.values → ((f : Fault) → IsAmong one.faults f → IsAmong r.found.faults f) → ((v : Value) → o ≡ Some v → IsKnown g.names.now h r.limits v) → IsPossible one n (value_or_undefined o)
    → IsEvaluated g r n h (value_or_undefined o)
value_found g r one n h None same more known possible = more Undefined possible
value_found g r one n h (Some v) same more known possible = (subst (λ p. MayBe p n v) (sym same) possible, known v refl)

-- what an element gives, by what is known of its indices
pub record ElementIs (g : Context) (view : View) (name : List ℕ) (some : Indices) (value : AbstractValue) (listed : Option ℕ) (lacks : Bool) (one : PossibleResult) (r : Evaluation) : Type 0 where
  pub tells : Tells (named_values g.names.now view.entries.now) name value
  pub named : IfSome listed (λ i. name_at g.names.now i ≡ name)
  pub sure : lacks ≡ false → IsSureAt view listed some
  pub knows : KnowsElement view name some r.limits
  pub may : (k : ℕ) (o : Option Value) → (lacks ≡ false → IsTrue (is_some o)) → ((v : Value) → o ≡ Some v → MayBe value.elements k v) → IsPossible one k (value_or_undefined o)
  pub values : r.found.values ≡ one.values
  pub own : (f : Fault) → IsAmong one.faults f → IsAmong r.found.faults f
  pub others : (f : Fault) → IsFaultOf some f → IsAmong r.found.faults f

nothing_at : (g : Context) (some : Indices) (n : ℕ) (h : Bindings) → AreIndices g some n h [] → ⊥
nothing_at g (indices.One index) n h are = are
nothing_at g (indices.Two index other) n h are = are
nothing_at g (indices.More f) n h are = are

element_at : (g : Context) (view : View) (name : List ℕ) (some : Indices) (value : AbstractValue) (listed : Option ℕ) (lacks : Bool) (one : PossibleResult) (r : Evaluation) (n : ℕ) (h : Bindings) (vs : Result (List Value) Fault) → ElementIs g view name some value listed lacks one r → view.names.now ≡ g.names.now
    → Describes view n h → AreEvaluated g some n h vs → IsEvaluated g r n h (vs >>= (λ is. value_or_undefined (value_at h (at_key name is))))
element_at g view name some value listed lacks one r n h (Err fault) is names describes are = is.others fault are
element_at g view name some value listed lacks one r n h (Ok []) is names describes are = absurd (nothing_at g some n h are)
element_at g view name some value listed lacks one r n h (Ok (i ∷ rest)) is names describes are =
    let o : Option Value = value_at h (at_key name (i ∷ rest)) in
    let each : EachStands (named_values g.names.now view.entries.now) n h = subst (λ q. EachStands (named_values q view.entries.now) n h) names describes.values in
    value_found g r one n h o is.values is.own (λ v has. subst (λ q. IsKnown q h r.limits v) names (is.knows g n h (i ∷ rest) v names describes are has))
    (is.may n o (λ no. value_there view name listed some g n h (i ∷ rest) is.named (is.sure no) names describes are) (λ v has. (is.tells n h each).elements i rest v has))

pub element_evaluates : (g : Context) (st : AbstractState) (view : View) (name : List ℕ) (some : Indices) (value : AbstractValue) (listed : Option ℕ) (lacks : Bool) (one : PossibleResult) (r : Evaluation) → IsStateView g st view → ElementIs g view name some value listed lacks one r → EvaluatesAt g st name some r
element_evaluates g st view name some value listed lacks one r seen is es gives n h stands =
    element_at g view name some value listed lacks one r n h (vals es h) is seen.names (viewed g st view n h seen stands) (gives n h stands)

pub is_true : (b : Bool) → not b ≡ false → b ≡ true
is_true true is = refl
is_true false is = sym is
