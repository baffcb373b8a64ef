-- Findings that are sound.
use Rattle.ctd_findings.proofs.Common.{Action, Adds, All, All-append, All-cons, All-nil, All-weaker, Choice', CommandInBlock, CommandList, Contains, Contains-push_cases, Err, EventKind, Finding, IfOk}
use Rattle.ctd_findings.proofs.Common.{IfSome, IsPlaced, IsSaid, IsSound, IsTrueOfRuns, Kind, List, Loop', Never, NeverHappens, None, Note, Ok, Option, Place, PlacedEvent, Preset, Result, Says, Some}
use Rattle.ctd_findings.proofs.Common.{[], action_tree, ap, ap₂, arith, event_of, events_of, get_or, get_or-map, inl, inr, length, length-map, map, place_of, places_in, refl, subst, sym, trees_of, ℕ}
use Rattle.ctd_findings.proofs.Common.{◌<◌, ◌∙◌, ◌∷◌, ◌≡◌, ◌⊎◌}
use Rattle.ctd_program.specs.declared.tree.Action.TheVariants as actions
use Rattle.ctd_findings.specs.declared.kind.Kind.TheVariants as kinds

-- the place of a command is that of its tree
place_is : (a : Action) (place : Place) → place_of (action_tree a place) ≡ place
place_is actions.Space place = refl
place_is actions.Newline place = refl
place_is actions.Eof place = refl
place_is (actions.Int int) place = refl
place_is (actions.String e) place = refl
place_is (actions.Regex regex) place = refl
place_is (actions.Assert t) place = refl
place_is (actions.Set assignments) place = refl
place_is (actions.Unset names) place = refl
place_is (actions.Loop' p (Loop' guard counter between body)) place = refl
place_is (actions.If' p (Choice' t a b)) place = refl

-- commands have the places of their trees
pub same_places : (commands : List CommandInBlock) → places_in commands ≡ map place_of (trees_of commands)
same_places [] = refl
same_places (c ∷ rest) = ap₂ (λ p ps. p ∷ ps) (sym (place_is c.command.now.action c.command.now.place)) (same_places rest)

-- the place of a command is among those of all
pub place_among : (commands : List CommandInBlock) (i : ℕ) (c : CommandInBlock) → i < length commands → c ≡ get_or commands i c → Contains (places_in commands) c.command.now.place
place_among commands i c inside is =
    let place : CommandInBlock → Place = λ d. d.command.now.place in
    (i, subst (λ n. i < n) (sym (length-map commands place)) inside, get_or-map place commands i c (place c) inside ∙ ap place (sym is))

-- a sound finding is added to others
pub one_more : (places : List Place) (never : List Note) (f : Finding) (before after : Option (List Finding)) → IsSound places never f → Adds before (f ∷ []) after
    → IfSome before (All (IsSound places never)) → IfSome after (All (IsSound places never))
one_more places never f before None sound adds old = tt
one_more places never f None (Some after) sound adds old = absurd adds
one_more places never f (Some before) (Some after) sound adds old =
    subst (All (IsSound places never)) (sym adds) (All-append (IsSound places never) before (f ∷ []) old (All-cons (IsSound places never) f [] sound (All-nil (IsSound places never))))

-- what a finding says follows from another reading of what never happens
says_more : (P Q : EventKind → Type 0) (kind : Kind) → ((event : EventKind) → P event → Q event) → Says kind P → Says kind Q
says_more P Q kinds.Unreachable f says = f _ says
says_more P Q kinds.AlwaysTrue f says = f _ says
says_more P Q kinds.AlwaysFalse f says = f _ says
says_more P Q kinds.RangeTrue f says = f _ says
says_more P Q kinds.RangeFalse f says = f _ says
says_more P Q kinds.RepeatsBounds f says = f _ says
says_more P Q kinds.EmptyRange f says = f _ says
says_more P Q kinds.WrongSort f (inl says) = inl (f _ says)
says_more P Q kinds.WrongSort f (inr says) = inr (f _ says.0, f _ says.1)
says_more P Q kind f says = tt

one_event : (x y : PlacedEvent) → Contains [] y ⊎ (x ≡ y) → x ≡ y
one_event x y (inl none) = absurd (omega (arith, none.1))
one_event x y (inr is) = is

-- what a list says never to happen never happens, if all that it says does not
never_of : (program : CommandList) (presets : List Preset) (never : List Note) (place : Place) (event : EventKind) → NeverHappens program presets (events_of never)
    → IsSaid never place event → Never program presets place event
never_of program presets never place event none said mode d steps n s t task rest at what less skipped comes happens listed =
    let note : Note = record { place = place; kind = event } in
    let is = one_event (event_of note) (record { place = at; event = what }) (Contains-push_cases [] (event_of note) (record { place = at; event = what }) listed) in
    let among : Contains (events_of never) (event_of note) =
    (said.0, subst (λ k. said.0 < k) (sym (length-map never event_of)) said.1, get_or-map event_of never said.0 note (event_of note) said.1 ∙ ap event_of said.2) in
    none mode d steps n s t task rest at what less skipped comes happens (subst (Contains (events_of never)) is among)

module _ {V E : Type 0} (items : V → List Finding) (places : List Place) (never : List Note) where
  -- sound findings have their places
  pub are_placed : (r : Result V E) → IfOk r (λ v. All (IsSound places never) (items v)) → IfOk r (λ v. All (IsPlaced places) (items v))
  are_placed (Ok v) sound = All-weaker (IsSound places never) (IsPlaced places) (λ f s. s.0) (items v) sound
  are_placed (Err e) sound = tt

  -- and what they say is so in all runs, if nothing happens of which the list says that it never does
  pub are_meant : (program : CommandList) (presets : List Preset) (r : Result V E) → NeverHappens program presets (events_of never)
      → IfOk r (λ v. All (IsSound places never) (items v)) → IfOk r (λ v. All (IsTrueOfRuns program presets) (items v))
  are_meant program presets (Ok v) none sound =
      All-weaker (IsSound places never) (IsTrueOfRuns program presets)
      (λ f s. says_more (IsSaid never f.place) (Never program presets f.place) f.remark.kind (λ event said. never_of program presets never f.place event none said) s.1)
      (items v) sound
  are_meant program presets (Err e) none sound = tt

-- two places with the same line and column
pub same_place : (a b : Place) → a.line ≡ b.line → a.column ≡ b.column → a ≡ b
same_place a b line column i = record { line = line i; column = column i }
