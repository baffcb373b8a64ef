-- What frames have still to do, and the room that they need.
use Rattle.ctd_program.specs.Tree
use Rattle.ctd_check.specs.declared.frame.Guard.TheVariants as guards
use Rattle.ctd_check.specs.Loops
use Rattle.std.specs.Prelude.{◌≡◌, ℕ, ◌+◌, ◌^◌, ◌<◌, ◌≤◌, max, List, [], ◌∷◌, ◌++◌, length, Option, Some, None}
use Rattle.std.specs.Coded.{×_prop, Unit-prop, le_prop}
use Rattle.std.proofs.Common.{Bor}
use Rattle.ctd_token.specs.declared.limits.TheConstants.{NESTING_LIMIT}
use Rattle.ctd_program.specs.declared.tree.Command.{Command}
use Rattle.ctd_program.specs.declared.tree.Var.{Var}
use Rattle.ctd_program.specs.Tree.{VarTree, Separator}
use Rattle.ctd_program.specs.calls.Blocks.{list_blocks, separator_blocks}
use Rattle.ctd_program.specs.calls.View.{var_tree, test_tree, command_tree, command_trees}
use Rattle.ctd_check.specs.declared.frame.Guard.{Guard}
use Rattle.ctd_check.specs.declared.frame.RunningLoop.{RunningLoop}
use Rattle.ctd_check.specs.declared.frame.Frame.{Frame}
use Rattle.ctd_check.specs.Loops.{Loop, Task, start, turn, finish, tasks}
use Rattle.ctd_check.specs.calls.Loops.{loop_of}

-- a guard
abbrev pub guard_in : Guard → Loops.Guard
guard_in (guards.Times turns) = Loops.times turns
guard_in (guards.While t) = Loops.while_true (test_tree t.now)

-- a counter, or none
abbrev pub counter_in : Option (Bor Var) → Option VarTree
counter_in None = None
counter_in (Some v) = Some (var_tree v.now)

-- a separator, or none
abbrev pub separator_in : Option (Bor Command) → Separator
separator_in None = Tree.nothing
separator_in (Some c) = Tree.between (command_tree c.now)

-- the tasks of a separator, if there is one
abbrev pub separator_tasks : Option (Bor Command) → List Task
separator_tasks None = []
separator_tasks (Some c) = start (command_tree c.now) ∷ []

-- a running loop, as the definitions have it
abbrev pub loop_in : RunningLoop → Loop
loop_in running_loop = loop_of running_loop.place (guard_in running_loop.guard) (counter_in running_loop.counter) (separator_in running_loop.between) (command_trees running_loop.body.now)

-- the next turn, where there is a loop
abbrev pub loop_tasks : Option RunningLoop → List Task
loop_tasks None = []
loop_tasks (Some running_loop) = turn (loop_in running_loop) running_loop.turn ∷ []

-- the tasks of a frame
abbrev pub frame_tasks : Frame → List Task
frame_tasks frame = tasks (command_trees frame.rest.now) ++ loop_tasks frame.running_loop

-- the topmost frame, which is the last, comes first, and what lies below them comes last
abbrev pub stack_tasks : List Frame → List Task → List Task
stack_tasks [] below = below
stack_tasks (frame ∷ above) below = stack_tasks above (frame_tasks frame ++ below)

-- all that is to be done
abbrev pub to_do : List Frame → List Task
to_do frames = stack_tasks frames (finish ∷ [])

-- the list in hand comes before what the frames have to do
abbrev pub all_to_do : List Command → List Frame → List Task
all_to_do list frames = tasks (command_trees list) ++ to_do frames

-- the list of the topmost frame, if there is one, is done
abbrev pub IsListDone : List Frame → Type 0
IsListDone frames = (below : List Frame) (frame : Frame) → frames ≡ below ++ frame ∷ [] → frame.rest.now ≡ []

-- the loop of the topmost frame, if there is one
abbrev pub top_loop : List Frame → Option RunningLoop
top_loop [] = None
top_loop (frame ∷ []) = frame.running_loop
top_loop (frame ∷ next ∷ above) = top_loop (next ∷ above)

-- a running loop, a turn later
abbrev pub next_turn : RunningLoop → RunningLoop
next_turn running_loop = record running_loop { turn = running_loop.turn + 1 }

-- the topmost frame has done its list, runs this loop, and lies on others
pub record IsAtTurn (frames : List Frame) (running_loop : RunningLoop) : Type 0 where
  pub below : List Frame
  pub frame : Frame
  pub is : frames ≡ below ++ frame ∷ []
  pub done : frame.rest.now ≡ []
  pub loop_is : frame.running_loop ≡ Some running_loop

-- the body of a loop, and then the next turn
abbrev pub body_tasks : RunningLoop → List Task
body_tasks running_loop = tasks (command_trees running_loop.body.now) ++ turn (loop_in running_loop) (running_loop.turn + 1) ∷ []

-- how many blocks may be open above a loop
abbrev pub loop_blocks : Option RunningLoop → ℕ
loop_blocks None = 0
loop_blocks (Some running_loop) = max (separator_blocks (separator_in running_loop.between)) (list_blocks (command_trees running_loop.body.now))

-- how many blocks may be open above a frame
abbrev pub frame_blocks : Frame → ℕ
frame_blocks frame = max (loop_blocks frame.running_loop) (list_blocks (command_trees frame.rest.now))

-- the number of the next turn
abbrev pub loop_turn : Option RunningLoop → ℕ
loop_turn None = 0
loop_turn (Some running_loop) = running_loop.turn

-- how many frames may lie on one another: that of the program itself, and those of blocks in one another
abbrev pub most_frames : ℕ
most_frames = NESTING_LIMIT + 1

-- this list was taken from the topmost frame, and there is room for its blocks
pub record IsInHand (list : List Command) (frames : List Frame) : Type 0 where
  pub done : IsListDone frames
  pub room : length frames + list_blocks (command_trees list) ≤ most_frames
  pub taken : (c : Command) (rest : List Command) → list ≡ c ∷ rest → 0 < length frames

-- each frame, from number i on, has room for its blocks, and its turns can be counted
abbrev pub FitsFrom : ℕ → ℕ → List Frame → Type 0
FitsFrom i left [] = Unit {0}
FitsFrom i left (frame ∷ above) = (i + 1 + frame_blocks frame ≤ most_frames) × ((loop_turn frame.running_loop + left + 1 ≤ 2 ^ 64) × FitsFrom (i + 1) left above)

-- so it is of all frames of a stack, the lowest first
abbrev pub Fits : ℕ → List Frame → Type 0
Fits left frames = FitsFrom 0 left frames

-- that frames have room is a mere fact: two proofs of it are one
fits_from_prop : (i left : ℕ) (fs : List Frame) → IsProp (FitsFrom i left fs)
fits_from_prop i left [] = Unit-prop
fits_from_prop i left (frame ∷ above) = ×_prop le_prop (×_prop le_prop (fits_from_prop (i + 1) left above))

-- that frames fit is a mere fact, which a field of the stack can hold
pub fits_prop : (left : ℕ) (fs : List Frame) → IsProp (Fits left fs)
fits_prop left fs = fits_from_prop 0 left fs
