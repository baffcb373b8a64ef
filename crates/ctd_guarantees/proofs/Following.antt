-- Lines that follow from what is known, and groups of them.
use Rattle.std.proofs.Common.{Contains, List, None, Option, Some, [], ap, arith, get_or, inl, inr, length, subst, sym, ℕ, ◌++◌, ◌<◌, ◌∙◌, ◌∷◌, ◌≡◌, ◌⊎◌}
use Rattle.std.proofs.lemmas.List.Elements.{All-weaker, Contains-get_or, Contains-push_cases}
use Rattle.std.specs.Borrow.{Bor}
use Rattle.std.specs.Global.{Vec}
use Rattle.ctd_guarantees.specs.calls.Guarantees.{IsGuaranteed, IsSoAt}
use Rattle.ctd_guarantees.specs.declared.guarantee.GuaranteeGroup.{GuaranteeGroup}
use Rattle.ctd_guarantees.specs.declared.part.Guarantee.{Guarantee}
use Rattle.ctd_guarantees.specs.inner.Parts.{FollowFrom, IsGroupOf, IsKnownIn, IsLineOf, SaysAll, SaysInTurns}
use Rattle.ctd_program.specs.Tree.{CommandList}
use Rattle.ctd_program.specs.declared.preset.Preset.{Preset}
use Rattle.ctd_store.specs.Store.{Bindings}
use Rattle.ctd_token.specs.declared.text.Place.{Place}
use Rattle.ctd_traps.specs.calls.Events.{finds}
use Rattle.ctd_traps.specs.calls.Known.{AreSo, EachAcceptedHas, EachFinds, IsSo}
use Rattle.ctd_traps.specs.declared.joined.Moment.TheVariants as moments
use Rattle.ctd_traps.specs.declared.known.Known.{Known}
use Rattle.ctd_traps.specs.declared.known.KnownAt.{KnownAt}
use Rattle.ctd_traps.specs.declared.known.Knowledge.{Knowledge}

-- no parts follow, and one part more
pub none_follow : (known parts : List Known) → parts ≡ [] → FollowFrom known parts
none_follow known parts none names h so k has = absurd (omega (arith, (subst (λ l. Contains l k) none has).1))

pub one_more_follows : (known parts all : List Known) (i : ℕ) (d part : Known) → i < length known → all ≡ parts ++ part ∷ [] →
    ((names : List (Bor (List ℕ))) (h : Bindings) → IsSo names h (get_or known i d) → IsSo names h part) → FollowFrom known parts → FollowFrom known all
one_more_follows known parts all i d part inside is one before names h so k has = which (Contains-push_cases parts part k (subst (λ l. Contains l k) is has))
  where
    which : Contains parts k ⊎ (part ≡ k) → IsSo names h k
    which (inl old) = before names h so k old
    which (inr new) = subst (IsSo names h) new (one names h (so (get_or known i d) (Contains-get_or known i d inside)))

-- a list of one item has no other
only_one : (y x : KnownAt) → Contains [] x ⊎ (y ≡ x) → y ≡ x
only_one y x (inl none) = absurd (omega (arith, none.1))
only_one y x (inr is) = is

module _ (program : CommandList) (presets : List Preset) (names : List (Bor (List ℕ))) where
  -- what follows from all that is known at the end of each turn is so there
  so_in_turns : (places : List KnownAt) (place : Place) (known : List Known) (line : Guarantee) → EachFinds program presets names places → SaysInTurns places place known → IsLineOf known line
      → IsSoAt program presets names (Some place) line
  so_in_turns places place known line all at follows x h has mode d steps n s t task rest here event less skipped comes happens is_here is_found =
      let y : KnownAt = record { place = place; moment = moments.TurnEnded; known = line.parts } in
      let is : y ≡ x = only_one y x (Contains-push_cases [] y x has) in
      subst (λ (z : KnownAt). AreSo names h z.known.items) is
      (follows names h (subst (AreSo names h) at.says (all at.one h at.among mode d steps n s t task rest here event less skipped comes happens
      (is_here ∙ ap (λ (z : KnownAt). z.place) (sym is) ∙ sym at.ends.here)
      (is_found ∙ ap (λ (z : KnownAt). finds z.moment h) (sym is) ∙ ap (λ m. finds m h) (sym at.ends.ended)))))

  -- what follows from all that is known in the end is so there
  so_in_end : (at_end : Option (Vec Known)) (known : List Known) (line : Guarantee) → EachAcceptedHas program presets names at_end → SaysAll at_end known → IsLineOf known line
      → IsSoAt program presets names None line
  so_in_end None known line ends says follows = absurd says
  so_in_end (Some all) known line ends says follows =
      λ mode d steps left after less run. follows names after.store (subst (AreSo names after.store) says (ends mode d steps left after less run))

  line_so : (k : Knowledge) (place : Option Place) (known : List Known) (line : Guarantee) → EachFinds program presets names k.at_places.items → EachAcceptedHas program presets names k.at_end
      → IsKnownIn k place known → IsLineOf known line → IsSoAt program presets names place line
  line_so k (Some place) known line each ends here = so_in_turns k.at_places.items place known line each here
  line_so k None known line each ends here = so_in_end k.at_end known line ends here

  -- lines that follow from what is known at the place of their group are guaranteed
  pub group_guaranteed : (k : Knowledge) (group : GuaranteeGroup) → EachFinds program presets names k.at_places.items → EachAcceptedHas program presets names k.at_end → IsGroupOf k group
      → IsGuaranteed program presets names group
  group_guaranteed k group each ends is = All-weaker (IsLineOf is.known) (IsSoAt program presets names group.place) (λ line. line_so k group.place is.known line each ends is.here) group.lines.items is.lines
