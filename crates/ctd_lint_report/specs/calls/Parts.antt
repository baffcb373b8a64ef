-- What the parts of a line say: relations.
use Rattle.ctd_elements.specs.declared.fact.Fact.TheVariants as facts
use Rattle.ctd_elements.specs.declared.fact.Filling.{Filling}
use Rattle.ctd_elements.specs.declared.fact.Term.{Term}
use Rattle.ctd_traps.specs.declared.known.Known.{Known}
use Rattle.ctd_traps.specs.declared.known.Known.TheVariants as kinds
use Rattle.ctd_lint_report.specs.declared.relation.Relation.{Relation}
use Rattle.ctd_lint_report.specs.declared.relation.Sign.TheVariants as signs
use Rattle.std.specs.Prelude.{ℕ, ◌-ℤ◌, Bool, true, false, ◌&&◌, List, [], ◌∷◌, ◌++◌, Option, Some, None, if◌then◌else◌, nat_eq}
use Rattle.ctd_lint_report.specs.Prelude.{Bor, Form, int_eq}
use Rattle.ctd_lint_report.specs.calls.Expressions.{name_text}
use Rattle.ctd_lint_report.specs.calls.Relations.{elements_relations, fact_relations, filling_in, sums_relation, value_relations}

-- the elements that are known to have values, if what is known is that
abbrev pub filling_of : Known → Option Filling
filling_of (kinds.Beside (facts.Filled f)) = Some f
filling_of k = None

-- what is known, by which elements are known to have values just before
abbrev pub part_relations : Form → List (Bor (List ℕ)) → Option Filling → Known → List Relation
part_relations form names before (kinds.Has i p) = value_relations form names (name_text names i) None p.text p.number
part_relations form names before (kinds.MayHave i p) = value_relations form names (name_text names i) None p.text p.number
part_relations form names before (kinds.Elements i p) = elements_relations form names i p (filling_in i before)
part_relations form names before (kinds.Beside f) = fact_relations form names f

-- part by part
abbrev pub parts_relations : Form → List (Bor (List ℕ)) → Option Filling → List Known → List Relation
parts_relations form names before [] = []
parts_relations form names before (k ∷ rest) = part_relations form names before k ++ parts_relations form names (filling_of k) rest

-- whether two multiples of names are the same
abbrev pub is_same_term : Option Term → Option Term → Bool
is_same_term None None = true
is_same_term (Some s) (Some t) = nat_eq s.name t.name && nat_eq s.times t.times
is_same_term s t = false

-- whether one number is at most another, and that at most the first
abbrev pub is_converse : Known → Known → Bool
is_converse (kinds.Beside (facts.AtMost a b)) (kinds.Beside (facts.AtMost c d)) =
    is_same_term a.term d.term && (is_same_term b.term c.term && int_eq (b.add -ℤ a.add) (c.add -ℤ d.add))
is_converse k l = false

-- one number by another that it is equal to
abbrev pub equality_of : Form → List (Bor (List ℕ)) → Known → List Relation
equality_of form names (kinds.Beside (facts.AtMost a b)) = sums_relation form names signs.Equal a b ∷ []
equality_of form names k = []

-- what two parts say that are an equality, if they are one
abbrev pub equal_relations : Form → List (Bor (List ℕ)) → List Known → List Relation
equal_relations form names (k ∷ l ∷ []) = if is_converse k l then equality_of form names k else []
equal_relations form names parts = []

-- the first of two lists that is not empty
abbrev pub either_relations : List Relation → List Relation → List Relation
either_relations [] others = others
either_relations (r ∷ rest) others = r ∷ rest

-- what the parts of a line say
abbrev pub line_relations : Form → List (Bor (List ℕ)) → List Known → List Relation
line_relations form names parts = either_relations (equal_relations form names parts) (parts_relations form names None parts)
