use Rattle.ctd_traps.proofs.Common.{Note, has_key, inl, key_of, subst, true, ◌∙◌, ◌≡◌}
use Rattle.ctd_traps.specs.declared.note.EventKind.TheVariants as kinds
use Rattle.ctd_traps.proofs.Absent.{key_step, keys_done, still_true}
use Rattle.ctd_traps.proofs.never.keys_of.Goals as goal

pub loop-note-init : goal.loop-note-init
loop-note-init c = λ x has. inl has

pub loop-note-preserved : goal.loop-note-preserved
loop-note-preserved c =
    let notes = c.args.notes.now in
    let i = c.loop-note.note-index in
    let none : Note = record { place = record { line = 0; column = 0 }; kind = kinds.Begins } in
    let old = c.loop-note.keys in
    let new = c.insert.new.self in
    let updates = c.in_ok-insert.ensures.updates in
    key_step notes i none (λ x. has_key old (key_of x)) (λ x. has_key new (key_of x)) c.loop-note-test.true
    (λ x is. updates.0 (key_of x) ∙ still_true _ (has_key old (key_of x)) is)
    (subst (λ key. has_key new key ≡ true) c.key_of.ensures updates.1) c.loop-note.invariant

pub returns : goal.returns
returns c = keys_done c.args.notes.now c.loop-note.note-index (λ x. has_key c.loop-note.keys (key_of x)) c.loop-note-test.false c.loop-note.invariant
