-- The topmost frame's loop.
use Rattle.std.proofs.Common.{arith, ◌≡◌, ◌≤◌, ◌<◌, ℕ, suc, ◌+◌, ◌-◌, ◌^◌, List, [], ◌∷◌, ◌++◌, length, take, drop, refl, ap, sym, ◌∙◌, subst, append_assoc, Option, None, Some, IfSome, max, Bor}
use Rattle.std.specs.Prelude.{slice_get, slice_set, option_map}
use Rattle.std.specs.Option.{option_to_list, option_copied}
use Rattle.std.proofs.lemmas.List.{append-nil, length-append, same_from_push}
use Rattle.std.proofs.Math.Seq.{take-append_seam}
use Rattle.std.specs.List.{refill}
use Rattle.ctd_program.specs.declared.tree.Command.{Command}
use Rattle.ctd_program.specs.calls.Blocks.{blocks, list_blocks}
use Rattle.ctd_program.specs.calls.View.{command_tree, command_trees}
use Rattle.ctd_check.specs.declared.frame.Frame.{Frame}
use Rattle.ctd_check.specs.declared.frame.RunningLoop.{RunningLoop}
use Rattle.ctd_check.specs.Loops.{turn, tasks}
use Rattle.ctd_check.specs.inner.FrameTasks.{most_frames, to_do, all_to_do, Fits, top_loop, next_turn, loop_tasks, loop_in, body_tasks, frame_tasks, frame_blocks, loop_blocks, loop_turn, IsAtTurn, IsListDone, IsInHand}
use Rattle.ctd_check.proofs.Stacks.{IsOnTop, split_last, with_top, to_do_push, to_do_by_top, top_done, fits_pop, fits_push, fits_less}

top_of : (below : List Frame) (f : Frame) → top_loop (below ++ f ∷ []) ≡ f.running_loop
top_of [] f = refl
top_of (g ∷ []) f = refl
top_of (g ∷ h ∷ fs) f = top_of (h ∷ fs) f

pub top_at : (all : List Frame) (last : ℕ) (f : Frame) → IsOnTop all last f → top_loop all ≡ f.running_loop
top_at all last f top = ap top_loop top.is ∙ top_of top.below f

before_last : (n : ℕ) → suc (suc n) - 1 ≡ suc (suc n - 1)
before_last n = omega arith

-- what is found at the last place is the topmost frame
pub top_seen : (fs : List Frame) (f : Frame) → Some f ≡ slice_get fs (length fs - 1) → top_loop fs ≡ f.running_loop
top_seen [] f is = cc
top_seen (g ∷ []) f is = let same : Some f ≡ Some g = is in ap (λ o. IfLoop o) (sym same)
  where
    IfLoop : Option Frame → Option RunningLoop
    IfLoop None = None
    IfLoop (Some h) = h.running_loop
top_seen (g ∷ h ∷ fs) f is = top_seen (h ∷ fs) f (is ∙ ap (slice_get (g ∷ h ∷ fs)) (before_last (length fs)))

-- what is known of it
pub top_room : (left : ℕ) (all : List Frame) (running_loop : RunningLoop) → top_loop all ≡ Some running_loop → Fits left all → length all + loop_blocks (Some running_loop) ≤ most_frames
top_room left [] running_loop is fits = cc
top_room left (g ∷ fs) running_loop is fits =
    let split = split_last g fs in
    let room = (fits_pop left (g ∷ fs) split.1 split.0 split.2 fits).room in
    let long = ap length split.2 ∙ length-append split.1 (split.0 ∷ []) in
    omega (arith, room, long, ap loop_blocks (sym (top_of split.1 split.0) ∙ sym (ap top_loop split.2) ∙ is))

pub top_turn : (left : ℕ) (all : List Frame) (running_loop : RunningLoop) → top_loop all ≡ Some running_loop → Fits left all → running_loop.turn + left + 1 ≤ 2 ^ 64
top_turn left [] running_loop is fits = cc
top_turn left (g ∷ fs) running_loop is fits =
    let split = split_last g fs in
    let turn = (fits_pop left (g ∷ fs) split.1 split.0 split.2 fits).turn in
    omega (arith, turn, ap loop_turn (sym (top_of split.1 split.0) ∙ sym (ap top_loop split.2) ∙ is))

pub loop_room : (left : ℕ) (all : List Frame) (r : Option (Bor RunningLoop)) → option_copied r ≡ top_loop all → Fits left all → IfSome r (λ running_loop. length all + loop_blocks (Some running_loop.now) ≤ most_frames)
loop_room left all None is fits = tt
loop_room left all (Some running_loop) is fits = top_room left all running_loop.now (sym is) fits

pub turn_before_last : (left : ℕ) (all : List Frame) (o : Option RunningLoop) → 0 < left → top_loop all ≡ o → Fits left all → IfSome o (λ running_loop. running_loop.turn + 1 < 2 ^ 64)
turn_before_last left all None some is fits = tt
turn_before_last left all (Some running_loop) some is fits = let most = top_turn left all running_loop is fits in omega (arith, most, some)

pub turn_within : (o : Option RunningLoop) → IfSome o (λ running_loop. running_loop.turn + 1 < 2 ^ 64) → loop_turn o + 1 < 2 ^ 64
turn_within None h = omega arith
turn_within (Some running_loop) h = h

-- a list that is done leaves the next turn
pub at_turn : (all : List Frame) (running_loop : RunningLoop) → top_loop all ≡ Some running_loop → IsListDone all → IsAtTurn all running_loop
at_turn [] running_loop is done = cc
at_turn (g ∷ fs) running_loop is done =
    let split = split_last g fs in
    record { below = split.1; frame = split.0; is = split.2; done = done split.1 split.0 split.2; loop_is = sym (top_of split.1 split.0) ∙ sym (ap top_loop split.2) ∙ is }

done_tasks : (f : Frame) (o : Option RunningLoop) → f.rest.now ≡ [] → f.running_loop ≡ o → frame_tasks f ≡ loop_tasks o
done_tasks f o done is = ap (λ cs. tasks (command_trees cs) ++ loop_tasks f.running_loop) done ∙ ap loop_tasks is

pub to_do_at : (all : List Frame) (running_loop : RunningLoop) (at : IsAtTurn all running_loop) → to_do all ≡ turn (loop_in running_loop) running_loop.turn ∷ to_do at.below
to_do_at all running_loop at = to_do_push all at.below at.frame at.is ∙ ap (λ ts. ts ++ to_do at.below) (done_tasks at.frame (Some running_loop) at.done at.loop_is)

-- what going round does to a frame
pub record TakesNextTurn (f g : Frame) : Type 0 where
  pub running_loop : g.running_loop ≡ option_map next_turn f.running_loop
  pub rest : g.rest ≡ f.rest

pub after_next_turn : (all : List Frame) (last : ℕ) (f g : Frame) (running_loop : RunningLoop) (at : IsAtTurn all running_loop) (body : List Command) → IsOnTop all last f → TakesNextTurn f g → IfSome f.running_loop (λ l. body ≡ l.body.now)
    → all_to_do body (slice_set all last g) ≡ body_tasks running_loop ++ to_do at.below
after_next_turn all last f g running_loop at body top goes is =
    let same = same_from_push at.below top.below at.frame f (sym at.is ∙ top.is) in
    let loop_is : f.running_loop ≡ Some running_loop = ap (λ x. x.running_loop) (sym same.1) ∙ at.loop_is in
    let none : g.rest.now ≡ [] = ap (λ r. r.now) goes.rest ∙ ap (λ x. x.rest.now) (sym same.1) ∙ at.done in
    let P : Option RunningLoop → Type 0 = λ o. IfSome o (λ l. body ≡ l.body.now) in
    let body_is : body ≡ running_loop.body.now = subst P loop_is is in
    ap (λ cs. tasks (command_trees cs) ++ to_do (slice_set all last g)) body_is
    ∙ ap (λ ts. tasks (command_trees running_loop.body.now) ++ ts) (to_do_by_top (slice_set all last g) top.below g [] (Some (next_turn running_loop)) (with_top all last f g top) none (goes.running_loop ∙ ap (option_map next_turn) loop_is))
    ∙ ap (λ fs. tasks (command_trees running_loop.body.now) ++ turn (loop_in running_loop) (running_loop.turn + 1) ∷ to_do fs) (sym same.0)
    ∙ simp append_assoc refl

-- the list of the frame is done as before
pub done_at_turn : (all : List Frame) (last : ℕ) (f g : Frame) → IsOnTop all last f → TakesNextTurn f g → IsListDone all → IsListDone (slice_set all last g)
done_at_turn all last f g top goes done = top_done all last f g top (ap (λ r. r.now) goes.rest ∙ done top.below f top.is)

-- the body of a loop is in hand in its turn, and so is its separator before it
pub body_in_hand : (frames : List Frame) (running_loop : RunningLoop) (body : List Command) (n : ℕ) → IsListDone frames → body ≡ running_loop.body.now → length frames ≡ n → 0 < n → n + loop_blocks (Some running_loop) ≤ most_frames → IsInHand body frames
body_in_hand frames running_loop body n done is same some room =
    record { done = done; room = omega (arith, same, room, ap (λ cs. list_blocks (command_trees cs)) is); taken = λ c rest _. omega (arith, same, some) }

pub separator_in_hand : (frames : List Frame) (running_loop : RunningLoop) (c : Command) (body : List Command) (n : ℕ) → IsListDone frames → body ≡ running_loop.body.now → length frames ≡ n → 0 < n → n + loop_blocks (Some running_loop) ≤ most_frames → blocks (command_tree c) ≤ loop_blocks (Some running_loop)
    → IsInHand (c ∷ body) frames
separator_in_hand frames running_loop c body n done is same some room within =
    record { done = done; room = omega (arith, same, room, within, ap (λ cs. list_blocks (command_trees cs)) is); taken = λ d rest _. omega (arith, same, some) }

-- a stack whose topmost frame is of a loop has frames
pub some_frames : (frames : List Frame) (running_loop : RunningLoop) → top_loop frames ≡ Some running_loop → 0 < length frames
some_frames [] running_loop is = cc
some_frames (f ∷ fs) running_loop is = omega arith

turn_blocks : (f g : Frame) (o : Option RunningLoop) → f.running_loop ≡ o → TakesNextTurn f g → frame_blocks g ≡ frame_blocks f
turn_blocks f g None is goes =
    ap (λ r. max (loop_blocks g.running_loop) (list_blocks (command_trees r.now))) goes.rest
    ∙ ap (λ o. max (loop_blocks o) (list_blocks (command_trees f.rest.now))) (goes.running_loop ∙ ap (option_map next_turn) is ∙ sym is)
turn_blocks f g (Some running_loop) is goes =
    ap (λ r. max (loop_blocks g.running_loop) (list_blocks (command_trees r.now))) goes.rest
    ∙ ap (λ n. max n (list_blocks (command_trees f.rest.now))) (ap loop_blocks (goes.running_loop ∙ ap (option_map next_turn) is) ∙ ap loop_blocks (sym is))

turn_number : (f g : Frame) (o : Option RunningLoop) → f.running_loop ≡ o → TakesNextTurn f g → loop_turn g.running_loop ≤ loop_turn f.running_loop + 1
turn_number f g None is goes = omega (arith, ap loop_turn (goes.running_loop ∙ ap (option_map next_turn) is))
turn_number f g (Some running_loop) is goes = omega (arith, ap loop_turn (goes.running_loop ∙ ap (option_map next_turn) is), ap loop_turn is)

-- the frames fit a step later
pub turn_fits : (left : ℕ) (all : List Frame) (last : ℕ) (f g : Frame) → IsOnTop all last f → TakesNextTurn f g → Fits (left + 1) all → Fits left (slice_set all last g)
turn_fits left all last f g top goes fits =
    let known = fits_pop (left + 1) all top.below f top.is fits in
    let room = known.room in
    let turn = known.turn in
    let P : List Frame → Type 0 = λ xs. Fits left xs in
    subst P (sym (with_top all last f g top))
    (fits_push left top.below g (fits_less (left + 1) left top.below (omega arith) known.below) (omega (arith, room, turn_blocks f g f.running_loop refl goes)) (omega (arith, turn, turn_number f g f.running_loop refl goes)))

-- a list that is written over whole
pub refilled : (n : ℕ) (xs ws : List Frame) → length ws ≡ n → refill n xs ws ≡ ws
refilled n xs ws same = ap (λ m. take m (ws ++ drop (length ws) xs)) (sym same) ∙ take-append_seam ws (drop (length ws) xs)

-- a list that is done, of no loop, leaves nothing
pub left_list : (all fs : List Frame) (r : Option Frame) → all ≡ fs ++ option_to_list r → IsListDone all → top_loop all ≡ None → to_do fs ≡ to_do all
left_list all fs None is done none = sym (ap to_do (is ∙ append-nil fs))
left_list all fs (Some f) is done none =
    sym (to_do_push all fs f is ∙ ap (λ ts. ts ++ to_do fs) (done_tasks f None (done fs f is) (sym (top_of fs f) ∙ sym (ap top_loop is) ∙ none)))
