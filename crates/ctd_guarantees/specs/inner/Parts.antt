-- Lines that are chosen out of what is known.
use Rattle.std.specs.Prelude.{◌≡◌, ℕ, List, Option, None, Some, All, Contains}
use Rattle.std.specs.Borrow.{Bor}
use Rattle.std.specs.Global.{Vec}
use Rattle.ctd_guarantees.specs.declared.guarantee.GuaranteeGroup.{GuaranteeGroup}
use Rattle.ctd_guarantees.specs.declared.part.Guarantee.{Guarantee}
use Rattle.ctd_store.specs.Store.{Bindings}
use Rattle.ctd_token.specs.declared.text.Place.{Place}
use Rattle.ctd_traps.specs.calls.Known.{AreSo}
use Rattle.ctd_traps.specs.declared.joined.Moment.TheVariants as moments
use Rattle.ctd_traps.specs.declared.known.Known.{Known}
use Rattle.ctd_traps.specs.declared.known.KnownAt.{KnownAt}
use Rattle.ctd_traps.specs.declared.known.Knowledge.{Knowledge}

-- parts are so of all variables of which all that is known is so
abbrev pub FollowFrom : (known parts : List Known) → Type 0
FollowFrom known parts = (names : List (Bor (List ℕ))) (h : Bindings) → AreSo names h known → AreSo names h parts

-- the parts of a line are
abbrev pub IsLineOf : List Known → Guarantee → Type 0
IsLineOf known line = FollowFrom known line.parts.items

-- this is about the end of each turn of the loop at a place
pub record EndsTurns (place : Place) (x : KnownAt) : Type 0 where
  pub here : x.place ≡ place
  pub ended : x.moment ≡ moments.TurnEnded

-- one of these is, and says this
pub record SaysInTurns (places : List KnownAt) (place : Place) (known : List Known) : Type 0 where
  pub one : KnownAt
  pub among : Contains places one
  pub ends : EndsTurns place one
  pub says : one.known.items ≡ known

-- there is something that says this
abbrev pub SaysAll : Option (Vec Known) → List Known → Type 0
SaysAll None known = ⊥
SaysAll (Some all) known = all.items ≡ known

-- this is known at the end of each turn of the loop at a place; without a place, in the end of each file that is accepted
abbrev pub IsKnownIn : Knowledge → Option Place → List Known → Type 0
IsKnownIn k (Some place) known = SaysInTurns k.at_places.items place known
IsKnownIn k None known = SaysAll k.at_end known

-- the lines of a group follow from what is known at its place
pub record IsGroupOf (k : Knowledge) (group : GuaranteeGroup) : Type 0 where
  pub known : List Known
  pub here : IsKnownIn k group.place known
  pub lines : All (IsLineOf known) group.lines.items
