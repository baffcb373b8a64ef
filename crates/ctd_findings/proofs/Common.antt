-- What the proofs take from elsewhere.
pub use Rattle.ctd_findings.specs.calls.Findings.{IsPlaced, IsTrueOfRuns, Never, Says}
pub use Rattle.ctd_findings.specs.calls.Kinds.{named_among}
pub use Rattle.ctd_findings.specs.declared.finding.Finding.{Finding}
pub use Rattle.ctd_findings.specs.declared.kind.Kind.{Kind}
pub use Rattle.ctd_findings.specs.inner.Never.{AllHave, IsSaid}
pub use Rattle.ctd_findings.specs.inner.Sound.{AllSound, IsSound, places_in}
pub use Rattle.ctd_program.proofs.Trees.{boxed_element}
pub use Rattle.ctd_program.specs.Tree.{CommandList}
pub use Rattle.ctd_program.specs.calls.Places.{place_of}
pub use Rattle.ctd_program.specs.calls.View.{action_tree, command_trees, expr_list, expr_tree, exprs_of}
pub use Rattle.ctd_program.specs.declared.preset.Preset.{Preset}
pub use Rattle.ctd_program.specs.declared.tree.Action.{Action}
pub use Rattle.ctd_program.specs.declared.tree.Choice.{Choice'}
pub use Rattle.ctd_program.specs.declared.tree.Expr.{Expr}
pub use Rattle.ctd_program.specs.declared.tree.Expr.TheVariants.{Element}
pub use Rattle.ctd_program.specs.declared.tree.Loop.{Loop'}
pub use Rattle.ctd_token.specs.declared.text.Place.{Place}
pub use Rattle.ctd_traps.specs.calls.Collector.{Adds}
pub use Rattle.ctd_traps.specs.calls.Commands.{trees_of}
pub use Rattle.ctd_traps.specs.calls.Events.{NeverHappens, PlacedEvent, event_of, events_of}
pub use Rattle.ctd_traps.specs.declared.block.CommandInBlock.{CommandInBlock}
pub use Rattle.ctd_traps.specs.declared.note.EventKind.{EventKind}
pub use Rattle.ctd_traps.specs.declared.note.Note.{Note}
pub use Rattle.std.proofs.Common.{All, Contains, Err, IfOk, IfSome, IsTrue, List, None, Ok, Option, Result, Some, [], ap, ap₂, arith, drop, get_or, inl, inr, length, map, refl, rules, subst, sym, ℕ, ◌-◌, ◌<◌, ◌∙◌, ◌∷◌, ◌≡◌, ◌⊎◌}
pub use Rattle.std.proofs.lemmas.List.{get_or-map, length-map}
pub use Rattle.std.proofs.lemmas.List.Elements.{All-append, All-cons, All-nil, All-weaker, Contains-push_cases}
pub use Rattle.std.specs.Global.{Box}
