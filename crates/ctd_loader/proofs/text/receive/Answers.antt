use Rattle.std.proofs.Common.{◌≤◌, ◌-◌, ◌++◌, ℕ, List, length, take, arith, length-append, length-take, ◌∙◌, IfErr, Result, Ok, Err, rules}
use Rattle.ctd_source.specs.inner.ReadingOn.{gave_nothing}
use Rattle.ctd_loader.proofs.PulledText.{going_after, pulled_behind}
use Rattle.ctd_loader.proofs.text.receive.Goals as goal

within_most : (before piece : List ℕ) (n most : ℕ) → length before ≤ most → n ≤ most - length before → length (before ++ take n piece) ≤ most
within_most before piece n most so_far more = omega (arith, length-append before (take n piece), length-take n piece, so_far, more)

-- what holds whatever the error is
if_err : {A E P : Type 0} (r : Result A E) → P → IfErr r (λ _. P)
if_err (Ok a) p = tt
if_err (Err e) p = p

pub loop-piece-init : goal.loop-piece-init
loop-piece-init g c = rw c.new-bytes.ensures.items (record { within = omega arith; going = c.requires.going; gave = gave_nothing c.args.program.now })

pub loop-piece-preserved : goal.loop-piece-preserved
loop-piece-preserved g c =
    let i = c.loop-piece.invariant in
    rw c.in_ok-extend_from_slice-in-Ok.ensures.items (record {
      within = within_most c.loop-piece.bytes.items c.pull_most.new.piece c.in-Ok.more c.args.most i.within (omega (arith, c.in-Ok.ensures.most, c.len-in-loop-piece.ensures));
      going = c.in-Ok.ensures.seen ∙ going_after c.in-Ok.more c.in-Ok.more-test.1;
      gave = pulled_behind g.P.Source _ _ _ _ c.pull_most.new.piece c.in-Ok.more i.going c.in-Ok.ensures.bound c.in-Ok.ensures.given c.in-Ok.ensures.bytes (c.in-Ok.ensures.end i.going) i.gave;
    })

pub returns-in_err-extend_from_slice-in-Ok-clause-memory : goal.returns-in_err-extend_from_slice-in-Ok-clause-memory
returns-in_err-extend_from_slice-in-Ok-clause-memory g c =
    let i = c.loop-piece.invariant in
    if_err c.from_residual.result (
      c.loop-piece.bytes.items ++ take c.in-Ok.more c.pull_most.new.piece,
      within_most c.loop-piece.bytes.items c.pull_most.new.piece c.in-Ok.more c.args.most i.within (omega (arith, c.in-Ok.ensures.most, c.len-in-loop-piece.ensures)),
      pulled_behind g.P.Source _ _ _ _ c.pull_most.new.piece c.in-Ok.more i.going c.in-Ok.ensures.bound c.in-Ok.ensures.given c.in-Ok.ensures.bytes (c.in-Ok.ensures.end i.going) i.gave,
    )

pub returns-clause-ended : goal.returns-clause-ended
returns-clause-ended g c = search rules
