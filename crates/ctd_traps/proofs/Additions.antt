-- What is found piece by piece.
use Rattle.ctd_traps.proofs.Common.{Adds, List, None, Option, Some, ap, append_assoc, sym, ◌++◌, ◌∙◌, ◌≡◌}

-- one part is added, and then another
pub adds_both : {U : Type 0} (a b c : Option (List U)) (x y all : List U) → Adds a x b → Adds b y c → all ≡ x ++ y → Adds a all c
adds_both a b None x y all first second is = tt
adds_both a None (Some c) x y all first second is = absurd second
adds_both None (Some b) (Some c) x y all first second is = absurd first
adds_both (Some a) (Some b) (Some c) x y all first second is = second ∙ ap (λ l. l ++ y) first ∙ append_assoc a x y ∙ ap (λ l. a ++ l) (sym is)

-- What is found and what is still to be added are together what was found at first and all that is added, unless memory ran out.
abbrev pub Leads : {U : Type 0} → Option (List U) → List U → Option (List U) → List U → Type 0
Leads before all None rest = Unit {0}
Leads None all (Some now) rest = ⊥
Leads (Some before) all (Some now) rest = now ++ rest ≡ before ++ all
