-- A command line that clap takes has the name of the program's file.
use Rattle.std.proofs.Common.{◌≡◌, ◌∙◌, ◌⊎◌, ◌||◌, ◌<◌, ℕ, zero, suc, Bool, true, false, not, true≢false, List, [], ◌∷◌, length, map, ap, sym, subst, inl, inr, refl, arith, codes, is_some, All, get_or}
use Rattle.std.proofs.lemmas.Bool.{cases_lt}
use Rattle.std.proofs.lemmas.List.{get_or-map, length-map}
use Rattle.std.proofs.lemmas.List.Elements.{All-cons, All-nil}
use Rattle.std.proofs.lemmas.Map.Keys.{apart_from_distinct}
use Rattle.std.proofs.lemmas.Slice.Eq.{bytes_eq-Decides}
use Rattle.std.specs.List.{IsDistinct}
use Rattle.std.specs.Str.{bytes_eq}
use Rattle.clap.proofs.CallerLemmas.{required_in_chain}
use Rattle.clap.specs.Built.{FitsChain, HasDistinctIds, IsParsedFrom}
use Rattle.clap.specs.Matches.{first_value, found_of}
use Rattle.clap.specs.Words.{Text}
use Rattle.clap.specs.declared.builder.arg.Arg.{Arg}
use Rattle.clap.specs.declared.builder.command.Command.{Command}
use Rattle.clap.specs.declared.parser.matches.ArgMatches.{ArgMatches}
use Rattle.ctd_arguments.specs.calls.Options.{IsLocal}
use Rattle.ctd_arguments.specs.inner.RequiredProgram.{RequiresProgram, names}

-- no two names are one
names_differ : IsDistinct bytes_eq names
unfolding IsDistinct
names_differ = search

-- the name of an argument stands at its place among the names
name_at : (args : List Arg) (k : ℕ) (other : Arg) → map (λ a. a.id.now) args ≡ names → k < length args → get_or names k [] ≡ (get_or args k other).id.now
name_at args k other is low = sym (ap (λ ts. get_or ts k []) is) ∙ get_or-map (λ a. a.id.now) args k other [] low

-- as many arguments as names
as_many : (args : List Arg) → map (λ a. a.id.now) args ≡ names → length args ≡ 7
as_many args is = sym (length-map args (λ a. a.id.now)) ∙ ap length is

-- two names at different places differ
apart : (j k : ℕ) → j < k → k < 7 → bytes_eq (get_or names j []) (get_or names k []) ≡ false
apart j k below low = apart_from_distinct bytes_eq names j k [] names_differ below low

-- two arguments of one name are one
distinct : (args : List Arg) → map (λ a. a.id.now) args ≡ names → HasDistinctIds args
distinct args is j k d e low_j low_k same =
    let many = as_many args is in
    let first = name_at args j e is low_j in
    let second = name_at args k d is low_k in
    let equal : get_or names j [] ≡ get_or names k [] = first ∙ (bytes_eq-Decides _ _).0 same ∙ sym second in
    let itself : (t : Text) → bytes_eq t t ≡ true = λ t. (bytes_eq-Decides t t).1 refl in
    elim (cases_lt j k) [
      | inl below ↦
          let differ : bytes_eq (get_or names k []) (get_or names k []) ≡ false = rw equal at (apart j k below (omega (arith, many, low_k))) in
          let one = itself (get_or names k []) in
          cc
      | inr above ↦ elim (cases_lt k j) [
        | inl below ↦
            let differ : bytes_eq (get_or names k []) (get_or names k []) ≡ false = rw equal at (apart k j below (omega (arith, many, low_j))) in
            let one = itself (get_or names k []) in
            cc
        | inr other ↦ omega (arith, above, other)
      ]
    ]

-- a name that clap gives to no argument of its own
abbrev IsOurs : Text → Type 0
IsOurs name = (name ≡ [] → ⊥) × ((name ≡ codes "help") ⊎ (name ≡ codes "version") → ⊥)

abbrev is_ours : Text → Bool
is_ours name = not (bytes_eq name [] || bytes_eq name (codes "help") || bytes_eq name (codes "version"))

none_is_taken : (text name : Text) → is_ours text ≡ false → is_ours name ≡ true → name ≡ text → ⊥
none_is_taken text name taken free is = true≢false (sym free ∙ ap is_ours is ∙ taken)

ours_by : (name : Text) → is_ours name ≡ true → IsOurs name
ours_by name h = (
  none_is_taken [] name refl h,
  λ taken. elim taken [
    | inl is ↦ none_is_taken (codes "help") name refl h is
    | inr is ↦ none_is_taken (codes "version") name refl h is
  ],
)

ours_at : (k : ℕ) → k < 7 → is_ours (get_or names k []) ≡ true
ours_at zero low = refl
ours_at (suc zero) low = refl
ours_at (suc (suc zero)) low = refl
ours_at (suc (suc (suc zero))) low = refl
ours_at (suc (suc (suc (suc zero)))) low = refl
ours_at (suc (suc (suc (suc (suc zero))))) low = refl
ours_at (suc (suc (suc (suc (suc (suc zero)))))) low = refl
ours_at (suc (suc (suc (suc (suc (suc (suc k))))))) low = absurd (omega (arith, low))

-- what the rules of the chain ask of each argument
fits : (args : List Arg) → map (λ a. a.id.now) args ≡ names → All IsLocal args → All FitsChain args
fits args is local k d low =
    let named = name_at args k d is low in
    let own = subst IsOurs named (ours_by _ (ours_at k (omega (arith, as_many args is, low)))) in
    ((local k d low).0, (local k d low).1, own.0, own.1)

-- where clap takes the words, PROGRAM has a value
pub program_has_value : (command : Command) (m : ArgMatches) → RequiresProgram command → IsParsedFrom command m → is_some (first_value (found_of m) (codes "PROGRAM")) ≡ true
program_has_value command m r p = given r.args refl
  where
    given : (args : List Arg) → r.args ≡ args → is_some (first_value (found_of m) (codes "PROGRAM")) ≡ true
    given [] is = let none : length r.args ≡ 0 = ap length is in absurd (omega (arith, none, as_many r.args r.named))
    given (other ∷ _) is =
        let low : 5 < length r.args = omega (arith, as_many r.args r.named) in
        subst (λ name. is_some (first_value (found_of m) name) ≡ true) (sym (name_at r.args 5 other r.named low))
        (required_in_chain r.bare command r.args 5 other m r.added r.no_args r.no_groups r.no_globals r.always (fits r.args r.named r.local) (distinct r.args r.named) low (r.program other) p)

-- seven arguments that are each local are so together
pub all_local : (a b c d e f g : Arg) → IsLocal a → IsLocal b → IsLocal c → IsLocal d → IsLocal e → IsLocal f → IsLocal g → All IsLocal (a ∷ b ∷ c ∷ d ∷ e ∷ f ∷ g ∷ [])
all_local a b c d e f g la lb lc ld le lf lg =
    All-cons IsLocal a (b ∷ c ∷ d ∷ e ∷ f ∷ g ∷ []) la (All-cons IsLocal b (c ∷ d ∷ e ∷ f ∷ g ∷ []) lb (All-cons IsLocal c (d ∷ e ∷ f ∷ g ∷ []) lc
    (All-cons IsLocal d (e ∷ f ∷ g ∷ []) ld (All-cons IsLocal e (f ∷ g ∷ []) le (All-cons IsLocal f (g ∷ []) lf (All-cons IsLocal g [] lg (All-nil IsLocal)))))))
