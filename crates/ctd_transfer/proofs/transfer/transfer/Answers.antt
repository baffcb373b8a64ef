use Rattle.ctd_transfer.proofs.Common.{ActKeeps, Acts, ClearsAll, IsCopyOf, StateAfter, ap, assignment, assignments_of, command_tree, expr_tree, if_ok_more, int, map, names_of, regex, set, string, target, ◌∙◌}
use Rattle.ctd_transfer.proofs.Plain.{blank_step, int_step, regex_step, set_step, string_step, unset_step}
use Rattle.ctd_transfer.proofs.transfer.transfer.Goals as goal

pub returns-in-Space : goal.returns-in-Space
returns-in-Space c =
    let g = c.args.context in
    let st = c.args.state.now in
    let command = c.args.command.now in
    if_ok_more (λ (a : StateAfter). IsCopyOf st a.after) (λ (a : StateAfter). ActKeeps g st a.after a.faults (command_tree command)) c.stay.result
    (λ a so. blank_step g st a.after a.faults command.action command.place c.in-Space.is so) c.stay.ensures

pub returns-in-Int : goal.returns-in-Int
returns-in-Int c =
    let g = c.args.context in
    let st = c.args.state.now in
    let command = c.args.command.now in
    let held = c.deref.result.now in
    if_ok_more (λ (a : StateAfter). Acts g st a.after a.faults (int (expr_tree held.low) (expr_tree held.high) (target held.target))) (λ (a : StateAfter). ActKeeps g st a.after a.faults (command_tree command)) c.take_integer.result
    (λ a so. int_step g st a.after a.faults command.action c.in-Int.int held command.place c.in-Int.is c.deref.ensures so) c.take_integer.ensures

pub returns-in-String : goal.returns-in-String
returns-in-String c =
    let g = c.args.context in
    let st = c.args.state.now in
    let command = c.args.command.now in
    let held = c.deref-in-String.result.now in
    if_ok_more (λ (a : StateAfter). Acts g st a.after a.faults (string (expr_tree held))) (λ (a : StateAfter). ActKeeps g st a.after a.faults (command_tree command)) c.take_string.result
    (λ a so. string_step g st a.after a.faults command.action c.in-String.e held command.place c.in-String.is c.deref-in-String.ensures so) c.take_string.ensures

pub returns-in-Regex : goal.returns-in-Regex
returns-in-Regex c =
    let g = c.args.context in
    let st = c.args.state.now in
    let command = c.args.command.now in
    let held = c.deref-in-Regex.result.now in
    if_ok_more (λ (a : StateAfter). Acts g st a.after a.faults (regex held.literal.bytes (target held.target))) (λ (a : StateAfter). ActKeeps g st a.after a.faults (command_tree command)) c.take_match.result
    (λ a so. regex_step g st a.after a.faults command.action c.in-Regex.regex held command.place c.in-Regex.is c.deref-in-Regex.ensures so) c.take_match.ensures

pub returns-in-Set : goal.returns-in-Set
returns-in-Set c =
    let g = c.args.context in
    let st = c.args.state.now in
    let command = c.args.command.now in
    let held = c.as_slice.result.now in
    if_ok_more (λ (a : StateAfter). Acts g st a.after a.faults (set (map assignment held))) (λ (a : StateAfter). ActKeeps g st a.after a.faults (command_tree command)) c.set_all.result
    (λ a so. set_step g st a.after a.faults command.action c.in-Set.assignments held command.place c.in-Set.is (c.as_slice.ensures ∙ ap assignments_of c.deref-in-Set.ensures) so) c.set_all.ensures

pub returns-in-Unset : goal.returns-in-Unset
returns-in-Unset c =
    let g = c.args.context in
    let st = c.args.state.now in
    let command = c.args.command.now in
    let held = c.as_slice-in-Unset.result.now in
    if_ok_more (λ (a : StateAfter). ClearsAll g st held a.after) (λ (a : StateAfter). ActKeeps g st a.after a.faults (command_tree command)) c.clear_all.result
    (λ a so. unset_step g st a.after a.faults command.action c.in-Unset.names held command.place c.in-Unset.is (c.as_slice-in-Unset.ensures ∙ ap names_of c.deref-in-Unset.ensures) so) c.clear_all.ensures
