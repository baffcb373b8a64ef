-- What is known of numbers and strings, as relations between expressions.
use Rattle.ctd_elements.specs.declared.fact.Bound.{Bound}
use Rattle.ctd_elements.specs.declared.fact.Fact.{Fact}
use Rattle.ctd_elements.specs.declared.fact.Fact.TheVariants as facts
use Rattle.ctd_elements.specs.declared.fact.Filling.{Filling}
use Rattle.ctd_range.specs.declared.range.Range.{Range}
use Rattle.ctd_source.specs.declared.limits.TheConstants.{WINDOW}
use Rattle.ctd_states.specs.declared.value.Lengths.{Lengths}
use Rattle.ctd_states.specs.declared.value.PossibleValues.{PossibleValues}
use Rattle.ctd_lint_report.specs.declared.relation.Relation.{Relation}
use Rattle.ctd_lint_report.specs.declared.relation.Sign.{Sign}
use Rattle.ctd_lint_report.specs.declared.relation.Sign.TheVariants as signs
use Rattle.std.specs.Prelude.{ℕ, ℤ, pos, negsuc, ◌-ℤ◌, ◌-◌, ◌^◌, List, [], ◌∷◌, ◌++◌, codes, Option, Some, None, if◌then◌else◌, nat_eq, nat_le}
use Rattle.ctd_lint_report.specs.Prelude.{Bor, Form, int_eq}
use Rattle.ctd_lint_report.specs.calls.Expressions.{elements_text, sum_text}
use Rattle.ctd_lint_report.specs.calls.Numbers.{integer_entry}

-- what stands left and right of a sign
abbrev pub relation : List ℕ → Sign → List ℕ → Relation
relation left sign right = record { left = left; sign = sign; right = right }

-- the least number of all
abbrev pub least_number : ℤ
least_number = negsuc (2 ^ 127 - 1)

-- the greatest number of all
abbrev pub greatest_number : ℤ
greatest_number = pos (2 ^ 127 - 1)

-- that a number is at least this one; nothing where each number is
abbrev pub least_relations : Form → List ℕ → ℤ → List Relation
least_relations form subject low = if int_eq low least_number then [] else relation (integer_entry form low) signs.AtMost subject ∷ []

-- that a number is at most this one; nothing where each number is
abbrev pub most_relations : Form → List ℕ → ℤ → List Relation
most_relations form subject high = if int_eq high greatest_number then [] else relation subject signs.AtMost (integer_entry form high) ∷ []

-- that elements are at most the bound that is known with them, if there is one
abbrev pub bound_relations : Form → List (Bor (List ℕ)) → List ℕ → Option Bound → List Relation
bound_relations form names subject None = []
bound_relations form names subject (Some b) = relation subject signs.AtMost (sum_text form names b.term b.add) ∷ []

-- that a number is this one, and under a bound, if there is one
abbrev pub same_relations : Form → List (Bor (List ℕ)) → List ℕ → Option Bound → ℤ → List Relation
same_relations form names subject bound z = relation subject signs.Equal (integer_entry form z) ∷ bound_relations form names subject bound

-- that a number lies between two, and under a bound, if there is one
abbrev pub between_relations : Form → List (Bor (List ℕ)) → List ℕ → Option Bound → ℤ → ℤ → List Relation
between_relations form names subject bound low high = least_relations form subject low ++ (bound_relations form names subject bound ++ most_relations form subject high)

-- what is known of a number by its least and its greatest value
abbrev pub range_relations : Form → List (Bor (List ℕ)) → List ℕ → Option Bound → ℤ → ℤ → List Relation
range_relations form names subject bound low high =
    if int_eq low high then same_relations form names subject bound low else between_relations form names subject bound low high

-- the least length that says something, as a number
abbrev pub least_length : ℕ → ℤ
least_length n = if nat_eq n 0 then least_number else pos n

-- the greatest length that says something: strings that are read are no longer than the window
abbrev pub most_length : ℕ → ℤ
most_length n = if nat_le WINDOW n then greatest_number else pos n

-- the length of a string
abbrev pub length_text : List ℕ → List ℕ
length_text subject = codes "STRLEN(" ++ subject ++ codes ")"

-- what is known of a value: of a number itself, of a string its length, and nothing where it may be either
abbrev pub value_relations : Form → List (Bor (List ℕ)) → List ℕ → Option Bound → Option Lengths → Option Range → List Relation
value_relations form names subject bound None (Some r) = range_relations form names subject bound r.low r.high
value_relations form names subject bound (Some l) None = range_relations form names (length_text subject) None (least_length l.least) (most_length l.most)
value_relations form names subject bound text number = []

-- the elements that are known to have values, if they are those of this array
abbrev pub filling_in : ℕ → Option Filling → Option Filling
filling_in array None = None
filling_in array (Some f) = if nat_eq f.array array then Some f else None

-- the bound of elements, if some are known to have values
abbrev pub most_of : Option Filling → Option Bound
most_of None = None
most_of (Some f) = f.most

-- what is known of elements, by which are known to have values
abbrev pub elements_relations : Form → List (Bor (List ℕ)) → ℕ → PossibleValues → Option Filling → List Relation
elements_relations form names array p filling = value_relations form names (elements_text form names array filling) (most_of filling) p.text p.number

-- one number by another: what is added stands on the right
abbrev pub sums_relation : Form → List (Bor (List ℕ)) → Sign → Bound → Bound → Relation
sums_relation form names sign a b = relation (sum_text form names a.term (pos 0)) sign (sum_text form names b.term (b.add -ℤ a.add))

-- that a number is less than another
abbrev pub less_relation : Form → List (Bor (List ℕ)) → Bound → Bound → Relation
less_relation form names a b = relation (sum_text form names a.term (pos 0)) signs.Less (sum_text form names b.term (pos 0))

-- that a number is at most another; where one is added to it, less
abbrev pub order_relation : Form → List (Bor (List ℕ)) → Bound → Bound → Relation
order_relation form names a b = if int_eq (b.add -ℤ a.add) (negsuc 0) then less_relation form names a b else sums_relation form names signs.AtMost a b

-- what a fact says, but for which elements have values
abbrev pub fact_relations : Form → List (Bor (List ℕ)) → Fact → List Relation
fact_relations form names (facts.AtMost a b) = order_relation form names a b ∷ []
fact_relations form names (facts.Unequal a b) = sums_relation form names signs.Unequal a b ∷ []
fact_relations form names f = []
