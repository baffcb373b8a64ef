use Rattle.std.proofs.Common.{[], ◌∷◌, ◌++◌, ◌+◌, map, drop, drop_of_length-le, append_assoc, ap, sym, ◌∙◌, arith}
use Rattle.std.proofs.lemmas.List.{append-nil}
use Rattle.ctd_store.specs.calls.Showing.{entry}
use Rattle.ctd_store.specs.calls.Store.{numbered, slot}
use Rattle.ctd_store.specs.inner.Reading.{front_list}
use Rattle.ctd_store.proofs.Lines.{along_from}
use Rattle.ctd_store.proofs.line.Line.add_entries.Goals as goal

pub loop-at-preserved : goal.loop-at-preserved
loop-at-preserved c =
    let front = front_list c.args.front in
    let line = c.args.self.now in
    let at = c.loop-at.at in
    ap (λ es. es ++ numbered front (line.base + (at + 1)) (drop (at + 1) line.values.items))
    (c.in_ok-add_entry.ensures.added ∙ ap (λ q. map entry c.loop-at.entries.items ++ (q, c.index.result.now) ∷ []) c.indices_behind-indices.ensures.value)
    ∙ append_assoc (map entry c.loop-at.entries.items) ((front ++ slot (line.base + at), c.index.result.now) ∷ []) (numbered front (line.base + (at + 1)) (drop (at + 1) line.values.items))
    ∙ ap (λ es. map entry c.loop-at.entries.items ++ es) (sym (along_from front line.base at line.values.items c.index.result.now (omega (arith, c.loop-at-test.true, c.len-at-end.ensures)) c.index.ensures))
    ∙ c.loop-at.invariant

pub returns : goal.returns
returns c = record {
  added = sym (append-nil (map entry c.loop-at.entries.items))
      ∙ ap (λ xs. map entry c.loop-at.entries.items ++ numbered (front_list c.args.front) (c.args.self.now.base + c.loop-at.at) xs) (sym (drop_of_length-le c.args.self.now.values.items (omega (arith, c.loop-at-test.false, c.len-at-end.ensures))))
      ∙ c.loop-at.invariant;
}
