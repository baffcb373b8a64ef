-- What a pull gave, behind what was given before.
use Rattle.std.proofs.Common.{◌≡◌, ℕ, zero, suc, ◌+◌, ◌≤◌, List, ◌++◌, length, take, refl, ap, sym, ◌∙◌, arith, Ok, length-take}
use Rattle.std.specs.Io.KnownBytes.{Consumes, IsAtEnd}
use Rattle.ctd_source.specs.declared.source.Source.{Ghosts}
use Rattle.ctd_source.specs.declared.source.Seen.TheVariants.{Going, Ended}
use Rattle.ctd_source.specs.Pull.{seen_after}
use Rattle.ctd_source.specs.SourceReads.{GaveBytes}
use Rattle.ctd_source.specs.inner.ReadingOn.{gave_both, consumed_to_end}

-- a source that gave bytes goes on
pub going_after : (n : ℕ) → (n ≡ 0 → ⊥) → seen_after (Ok n) ≡ Going
going_after zero some = absurd (some refl)
going_after (suc n) some = refl

module _ {R : Type 0} (G : Ghosts R) where
  -- one pull that gave bytes
  pulled_bytes : (old new : R) (n : ℕ) (buf : List ℕ) → G.seen old ≡ Going → n ≤ length buf → G.given new ≡ G.given old + n → Consumes (G.left old) (G.left new) (take n buf)
      → (G.seen new ≡ Ended → IsAtEnd (G.left new)) → GaveBytes G old new (take n buf)
  pulled_bytes old new n buf going within given bytes end = record {
    count = given ∙ ap (λ k. G.given old + k) (sym (let e : length (take n buf) ≡ n = omega (arith, length-take n buf) in e));
    rest = G.left new;
    first = bytes;
    left = λ _. refl;
    end = record {
      all = λ _ ended. consumed_to_end (G.left old) (G.left new) (take n buf) bytes (end ended);
      final = λ stopped. absurd (stopped going);
    };
  }

  -- and behind what was given before
  pub pulled_behind : (first old new : R) (before piece : List ℕ) (n : ℕ) → G.seen old ≡ Going → n ≤ length piece → G.given new ≡ G.given old + n → Consumes (G.left old) (G.left new) (take n piece)
      → (G.seen new ≡ Ended → IsAtEnd (G.left new)) → GaveBytes G first old before → GaveBytes G first new (before ++ take n piece)
  pulled_behind first old new before piece n going within given bytes end gave =
      gave_both (G.seen old) first old new before (take n piece) refl gave (pulled_bytes old new n piece going within given bytes end)
