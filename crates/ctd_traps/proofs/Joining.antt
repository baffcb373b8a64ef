-- Joined states that are added to others.
use Rattle.ctd_traps.proofs.Common.{AbstractState, AreWithin, Bindings, Context, Describes, IsAdded, IsOf, JoinedState, List, Moment, OneDescribes, Place, StateStands, [], ap, arith, get_or, inl, inr}
use Rattle.ctd_traps.proofs.Common.{length, refl, subst, sym, zero, suc, ℕ, ◌++◌, ◌<◌, ◌∙◌, ◌∷◌, ◌≡◌, ◌⊎◌}
use Rattle.std.specs.List.{remove}
use Rattle.ctd_partitions.specs.calls.States.{IsStateWithin}

-- places of the same line and column
abbrev place_at : ℕ → ℕ → Place
place_at line column = record { line = line; column = column }

pub same_place : (a b : Place) → a.line ≡ b.line → a.column ≡ b.column → a ≡ b
same_place a b line column = ap (λ l. place_at l a.column) line ∙ ap (λ c. place_at b.line c) column

-- one more at the end
pub pushed_others : (g : Context) (xs : List JoinedState) (x : JoinedState) → AreWithin g xs (xs ++ x ∷ [])
pushed_others g [] x place moment h one = absurd one
pushed_others g (y ∷ xs) x place moment h (inl describes) = inl describes
pushed_others g (y ∷ xs) x place moment h (inr one) = inr (pushed_others g xs x place moment h one)

pub pushed_last : (g : Context) (xs : List JoinedState) (x : JoinedState) → IsAdded g x (xs ++ x ∷ [])
pushed_last g [] x place moment h describes = inl describes
pushed_last g (y ∷ xs) x place moment h describes = inr (pushed_last g xs x place moment h describes)

-- one that is taken out, or another
past : {A B X : Type 0} → A ⊎ B → A ⊎ (X ⊎ B)
past (inl a) = inl a
past (inr b) = inr (inr b)

taken_or_left : (g : Context) (xs : List JoinedState) (i : ℕ) (c : JoinedState) (place : Place) (moment : Moment) (h : Bindings) → i < length xs → OneDescribes g xs place moment h → Describes g (get_or xs i c) place moment h ⊎ OneDescribes g (remove xs i) place moment h
taken_or_left g [] i c place moment h inside one = absurd one
taken_or_left g (x ∷ xs) zero c place moment h inside (inl describes) = inl describes
taken_or_left g (x ∷ xs) zero c place moment h inside (inr one) = inr one
taken_or_left g (x ∷ xs) (suc i) c place moment h inside (inl describes) = inr (inl describes)
taken_or_left g (x ∷ xs) (suc i) c place moment h inside (inr one) = past (taken_or_left g xs i c place moment h (omega (arith, inside)) one)

either_of : {A B X : Type 0} → (A → X) → (B → X) → A ⊎ B → X
either_of f g (inl a) = f a
either_of f g (inr b) = g b

-- a joined state with another state of the same place and moment, which describes more
wider : (g : Context) (x : JoinedState) (state : AbstractState) (place : Place) (moment : Moment) (h : Bindings) → IsStateWithin g x.state state → Describes g x place moment h → Describes g (record { place = x.place; moment = x.moment; state = state }) place moment h
wider g x state place moment h tells describes = record { here = record { at = describes.here.at; when = describes.here.when }; left = describes.left; stands = tells describes.left h describes.stands }

-- a joined state that was taken out, joined with one more, and put in again
pub rejoined_others : (g : Context) (xs rest all : List JoinedState) (i : ℕ) (x : JoinedState) (both : AbstractState) → i < length xs → x ≡ get_or xs i x → rest ≡ remove xs i → IsStateWithin g x.state both → AreWithin g rest all →
    IsAdded g (record { place = x.place; moment = x.moment; state = both }) all → AreWithin g xs all
rejoined_others g xs rest all i x both inside is left joined others added place moment h one =
    either_of (λ describes. added place moment h (wider g x both place moment h joined (subst (λ (y : JoinedState). Describes g y place moment h) (sym is) describes)))
    (λ still. others place moment h (subst (λ l. OneDescribes g l place moment h) (sym left) still)) (taken_or_left g xs i x place moment h inside one)

pub rejoined_added : (g : Context) (all : List JoinedState) (x more : JoinedState) (both : AbstractState) → IsOf x more.place more.moment → IsStateWithin g more.state both → IsAdded g (record { place = x.place; moment = x.moment; state = both }) all → IsAdded g more all
rejoined_added g all x more both same joined added place moment h describes =
    added place moment h (record { here = record { at = same.at ∙ describes.here.at; when = same.when ∙ describes.here.when }; left = describes.left; stands = joined describes.left h describes.stands })

-- a state that describes variables in a place of its own
pub describes_here : (g : Context) (place : Place) (moment : Moment) (state : AbstractState) (n : ℕ) (h : Bindings) → StateStands g state n h → Describes g (record { place = place; moment = moment; state = state }) place moment h
describes_here g place moment state n h stands = record { here = record { at = refl; when = refl }; left = n; stands = stands }

-- joined states of which one after the other is taken from the end
abbrev pub LastOr : Context → (rest whole all : List JoinedState) → Type 0
LastOr g rest whole all = (place : Place) (moment : Moment) (h : Bindings) → OneDescribes g whole place moment h → OneDescribes g rest place moment h ⊎ OneDescribes g all place moment h

last_or_rest : (g : Context) (rest : List JoinedState) (x : JoinedState) (place : Place) (moment : Moment) (h : Bindings) → OneDescribes g (rest ++ x ∷ []) place moment h → Describes g x place moment h ⊎ OneDescribes g rest place moment h
last_or_rest g [] x place moment h (inl describes) = inl describes
last_or_rest g [] x place moment h (inr one) = absurd one
last_or_rest g (y ∷ rest) x place moment h (inl describes) = inr (inl describes)
last_or_rest g (y ∷ rest) x place moment h (inr one) = past (last_or_rest g rest x place moment h one)

pub last_added : (g : Context) (left rest whole old new : List JoinedState) (x : JoinedState) → left ≡ rest ++ x ∷ [] → AreWithin g old new → IsAdded g x new → LastOr g left whole old → LastOr g rest whole new
last_added g left rest whole old new x is others added so_far place moment h one =
    either_of (λ still. either_of (λ describes. inr (added place moment h describes)) (λ left. inl left) (last_or_rest g rest x place moment h (subst (λ l. OneDescribes g l place moment h) is still)))
    (λ done. inr (others place moment h done)) (so_far place moment h one)

-- a list of no length
pub empty_list : {X : Type 0} (xs : List X) → length xs ≡ 0 → xs ≡ []
empty_list [] none = refl
empty_list (x ∷ xs) none = absurd (omega (arith, none))

pub none_left : (g : Context) (left whole all : List JoinedState) → left ≡ [] → LastOr g left whole all → AreWithin g whole all
none_left g left whole all is so_far place moment h one = either_of (λ still. absurd (subst (λ l. OneDescribes g l place moment h) is still)) (λ done. done) (so_far place moment h one)
