-- Lists with commas, whatever follows.
use Rattle.std.proofs.Common.{◌≡◌, ℕ, List, [], ◌∷◌, ◌++◌, length, refl, sym, subst, ◌⊎◌, inl, inr}
use Rattle.ctd_syntax.specs.Lexeme.{Lexeme, mark}
use Rattle.ctd_syntax.specs.inner.Front.{OneTree, HasTree, HasNoTree, Spelling, Following, Always, IsBefore}
use Rattle.ctd_token.specs.declared.token.Mark.{Mark}
use Rattle.ctd_token.specs.declared.token.Mark.TheVariants.{Comma}
use Rattle.ctd_syntax.proofs.Rows as here
use Rattle.ctd_syntax.proofs.Rows.{Separated, IsOne, Before, before_mark, comma, append, Listing, comma_at, no_comma}
use Rattle.ctd_syntax.proofs.Staying.{so, none_same, whole}
use Rattle.ctd_syntax.proofs.StayChains.{Partly, start, no_start, next, no_next, finish}
use Rattle.ctd_syntax.proofs.StayFronts.{before_reads, before_none, none_before, found_as, none_as}

-- what is read of a list up to a mark
abbrev pub PartRow : {T : Type 0} → Spelling T → Mark → List Lexeme → List T → List Lexeme → Type 0
PartRow Item end_mark tokens xs rest = Partly (Separated Item) (IsOne Item) (Before end_mark) comma append tokens xs rest

-- what is read of a list before an item: nothing, or items and a comma
abbrev pub BeforeItem : {T : Type 0} → Spelling T → Mark → List Lexeme → List T → List Lexeme → Type 0
BeforeItem Item end_mark tokens xs rest =
    ((xs ≡ []) × (tokens ≡ rest)) ⊎ ((r : List Lexeme) × PartRow Item end_mark tokens xs r × (r ≡ mark Comma ∷ rest))

-- one item is a list of one
one_found : {T : Type 0} (Item : Spelling T) (E : Following) (tokens rest : List Lexeme) (a : T) → HasTree Item E tokens a rest → HasTree (IsOne Item) E tokens (a ∷ []) rest
one_found Item E tokens rest a f = so (λ ts us. OneTree Item E ts a us) (λ ts us. OneTree (IsOne Item) E ts (a ∷ []) us) tokens rest (λ ts us p. here.one_found Item E ts us a p) f

one_none : {T : Type 0} (Item : Spelling T) (E : Following) (tokens : List Lexeme) (left : ℕ) → HasNoTree Item E tokens left → HasNoTree (IsOne Item) E tokens left
one_none Item E tokens left n = none_same Item (IsOne Item) E E tokens (λ ts not. here.one_none Item E ts not) (λ ts a i. ([], a ∷ [], (a, refl, whole Item ts a i))) left n

module _ {T U : Type 0} {Item : Spelling T} {Whole : Spelling U} {E : Following} {end_mark : Mark} {f : List T → U} (listing : Listing Item Whole E end_mark f) where
  -- nothing of the list's own kind
  none_listed : (tokens : List Lexeme) (left : ℕ) → HasNoTree (Separated Item) (Before end_mark) tokens left → HasNoTree (IsBefore end_mark Whole) Always tokens left
  none_listed tokens left not = none_before Whole (Before end_mark) end_mark (before_mark end_mark) tokens left (none_as (Separated Item) Whole (Before end_mark) f listing.to listing.from tokens left not)

  -- one more item
  pub lists_item : (tokens rest after : List Lexeme) (xs : List T) (b : T) → BeforeItem Item end_mark tokens xs rest → HasTree Item E rest b after → PartRow Item end_mark tokens (xs ++ b ∷ []) after
  lists_item tokens rest after xs b before found = elim before [
    | inl first ↦
        let at_start : HasTree Item E tokens b after = subst (λ l. HasTree Item E l b after) (sym first.1) found in
        subst (λ l. PartRow Item end_mark tokens (l ++ b ∷ []) after) (sym first.0) (start listing.level tokens (b ∷ []) after (one_found Item E tokens after b at_start))
    | inr i ↦ next listing.level tokens xs (b ∷ []) i.0 rest after tt i.1 (comma_at i.0 rest i.2) (one_found Item E rest after b found)
  ]

  -- none where one would stand
  pub lists_no_item : (tokens rest : List Lexeme) (xs : List T) → BeforeItem Item end_mark tokens xs rest → (left : ℕ) → HasNoTree Item E rest left → HasNoTree (IsBefore end_mark Whole) Always tokens left
  lists_no_item tokens rest xs before left not = elim before [
    | inl first ↦ none_listed tokens left (no_start listing.level tokens left (one_none Item E tokens left (subst (λ l. HasNoTree Item E l left) (sym first.1) not)))
    | inr i ↦ none_listed tokens left (no_next listing.level tokens xs i.0 rest tt i.1 (comma_at i.0 rest i.2) left (one_none Item E rest left not))
  ]

  all_read : (tokens rest : List Lexeme) (xs : List T) → PartRow Item end_mark tokens xs rest → ((r : List Lexeme) → rest ≡ mark Comma ∷ r → ⊥) → HasTree Whole (Before end_mark) tokens (f xs) rest
  all_read tokens rest xs part none = found_as (Separated Item) Whole (Before end_mark) f listing.to listing.from tokens rest xs (finish listing.level tokens xs rest part (no_comma rest none))

  -- the mark behind the last
  pub lists_end : (tokens rest r : List Lexeme) (xs : List T) → PartRow Item end_mark tokens xs rest → ((s : List Lexeme) → rest ≡ mark Comma ∷ s → ⊥) → rest ≡ mark end_mark ∷ r → HasTree (IsBefore end_mark Whole) Always tokens (f xs) r
  lists_end tokens rest r xs part none e = before_reads Whole (Before end_mark) end_mark (before_mark end_mark) tokens rest r (f xs) (all_read tokens rest xs part none) e

  -- something else behind it
  pub lists_unclosed : (tokens rest : List Lexeme) (xs : List T) → PartRow Item end_mark tokens xs rest → ((s : List Lexeme) → rest ≡ mark Comma ∷ s → ⊥) → ((s : List Lexeme) → rest ≡ mark end_mark ∷ s → ⊥) → HasNoTree (IsBefore end_mark Whole) Always tokens (length rest)
  lists_unclosed tokens rest xs part none unclosed = before_none Whole (Before end_mark) end_mark (before_mark end_mark) tokens rest (f xs) (all_read tokens rest xs part none) unclosed
