-- Of which data a check found the meaning.
use Rattle.std.proofs.Common.{◌≡◌, ◌≢◌, ℕ, false, List, [], ◌∷◌, ◌++◌, length, take, Option, Some, None, refl, ap, sym, ◌∙◌, subst, append-nil}
use Rattle.std.specs.Io.KnownBytes.{Consumes}
use Rattle.std.specs.Prelude.{IfSome}
use Rattle.ctd_source.specs.declared.source.Source.{Ghosts}
use Rattle.ctd_source.specs.declared.source.Seen.{Seen}
use Rattle.ctd_source.specs.declared.source.Seen.TheVariants.{Going, Ended, Broken}
use Rattle.ctd_source.specs.TestData.{TestData}
use Rattle.ctd_source.specs.Agreement.{Agrees}
use Rattle.ctd_source.specs.calls.Agreement.{data_of_call}
use Rattle.ctd_source.specs.SourceReads.{GaveBytes}
use Rattle.ctd_program.specs.declared.limits.Limits.{Limits}
use Rattle.ctd_outcome.specs.declared.outcome.Checked.{Checked}
use Rattle.ctd_outcome.specs.declared.outcome.Outcome.{Outcome}
use Rattle.ctd_check.specs.Run.{Meaning}
use Rattle.ctd_check.specs.calls.Run.{Finds}
use Rattle.ctd_check.specs.calls.Checks.{FindsMeaning}

-- bytes begin with themselves
begin_with : (given left : List ℕ) → take (length given) (given ++ left) ≡ given
begin_with [] left = refl
begin_with (b ∷ given) left = ap (λ bytes. b ∷ bytes) (begin_with given left)

-- the data of the call agree with what was given and seen
call_agrees : (given left : List ℕ) (seen : Seen) (limit : ℕ) → Agrees given seen (data_of_call given left seen limit)
call_agrees given left Going limit = begin_with given left
call_agrees given left Ended limit = (append-nil given, refl)
call_agrees given left Broken limit = (append-nil given, refl)

-- known bytes agree with those that were given of them and with an end that is no failed read
known_agree : (given bytes : List ℕ) (rest : Option (List ℕ)) (seen : Seen) (limit : ℕ) → seen ≢ Broken → Consumes (Some bytes) rest given → (seen ≡ Ended → given ≡ bytes) → Agrees given seen (record { bytes = bytes; broken = false; limit = limit })
known_agree given bytes None Going limit other first all = absurd first
known_agree given bytes (Some left) Going limit other first all = ap (take (length given)) first ∙ begin_with given left
known_agree given bytes rest Ended limit other first all = (sym (all refl), refl)
known_agree given bytes rest Broken limit other first all = absurd (other refl)

module _ {D : Type 0} {G : Ghosts D} where
  pub taken_decides : (old new : D) (limits : Limits) (meaning_on : TestData → Meaning) (checked : Checked) → (found : FindsMeaning G old new limits meaning_on checked) → (d e : TestData) → d.limit ≡ limits.bytes → e.limit ≡ limits.bytes
      → Agrees found.given checked.seen d → Agrees found.given checked.seen e → meaning_on e ≡ meaning_on d
  taken_decides old new limits meaning_on checked found d e limit_d limit_e agrees_d agrees_e =
      let on_d = found.finds d limit_d agrees_d in
      let on_e = found.finds e limit_e agrees_e in
      let made : Outcome → ℕ → ℕ → Meaning = λ outcome steps consumed. record { outcome = outcome; steps = steps; consumed = consumed } in
      ap (λ x. made x (meaning_on e).steps (meaning_on e).consumed) (sym on_e.outcome ∙ on_d.outcome)
      ∙ ap (λ x. made (meaning_on d).outcome x (meaning_on e).consumed) (sym on_e.steps ∙ on_d.steps)
      ∙ ap (λ x. made (meaning_on d).outcome (meaning_on d).steps x) (sym on_e.consumed ∙ on_d.consumed)

  pub call_is_found : (old new : D) (limits : Limits) (meaning_on : TestData → Meaning) (checked : Checked) → (found : FindsMeaning G old new limits meaning_on checked) → (left : List ℕ) → Finds checked (meaning_on (data_of_call found.given left checked.seen limits.bytes))
  call_is_found old new limits meaning_on checked found left = found.finds (data_of_call found.given left checked.seen limits.bytes) refl (call_agrees found.given left checked.seen limits.bytes)

  all_given : (old new : D) (given bytes : List ℕ) → GaveBytes G old new given → G.seen old ≡ Going → G.left old ≡ Some bytes → G.seen new ≡ Ended → given ≡ bytes
  all_given old new given bytes gave going left ended = subst (λ had. IfSome had (λ xs. given ≡ xs)) left (gave.end.all going ended)

  pub known_are_found : (old new : D) (limits : Limits) (meaning_on : TestData → Meaning) (checked : Checked) → FindsMeaning G old new limits meaning_on checked → G.seen old ≡ Going → checked.seen ≡ G.seen new → checked.seen ≢ Broken
      → (bytes : List ℕ) → G.left old ≡ Some bytes → Finds checked (meaning_on (record { bytes = bytes; broken = false; limit = limits.bytes }))
  known_are_found old new limits meaning_on checked found going seen other bytes left =
      let first : Consumes (Some bytes) found.gave.rest found.given = subst (λ had. Consumes had found.gave.rest found.given) left found.gave.first in
      found.finds (record { bytes = bytes; broken = false; limit = limits.bytes }) refl
      (known_agree found.given bytes found.gave.rest checked.seen limits.bytes other first (λ ended. all_given old new found.given bytes found.gave going left (sym seen ∙ ended)))
