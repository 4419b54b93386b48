-- Dispatch: which task runs on each processor after an event.
use Rattle.std.specs.Prelude.{◌≡◌, ℕ, ◌+◌, ◌==◌, Bool, true, false, not, if◌then◌else◌, List, [], ◌∷◌, filter}
use Rattle.std.specs.Prelude.{slice_set, Option, None, Some}
use Rattle.brd_kernel.specs.declared.processor.Processor.{Processor}
use Rattle.brd_kernel.specs.Kernel.{KernelState, processor_at, is_held, running_on}
use Rattle.brd_queue.specs.Queue.{Plain}
use Rattle.brd_tasks.specs.Tasks.{TaskTable, ready_on, first_id, top_of}

-- a processor that isn't held runs the first of its ready tasks, or none
abbrev pub dispatched_one : Option Processor → List Plain → Option Processor
dispatched_one None ready = None
dispatched_one (Some p) ready = Some (if is_held p then p else record p { running = first_id ready })

-- the processors from a number on, each dispatched by its ready list
abbrev pub dispatched_from : TaskTable → ℕ → List (Option Processor) → List (Option Processor)
dispatched_from t cpu [] = []
dispatched_from t cpu (p ∷ ps) = dispatched_one p (ready_on t cpu) ∷ dispatched_from t (cpu + 1) ps

-- on one processor
abbrev pub dispatched_on : KernelState → ℕ → KernelState
dispatched_on k cpu =
    record k { processors = slice_set k.processors cpu (dispatched_one (processor_at k cpu) (ready_on k.tasks cpu)) }

-- on all of them
abbrev pub dispatched : KernelState → KernelState
dispatched k = record k { processors = dispatched_from k.tasks 0 k.processors }

abbrev pub is_same_task : Option ℕ → Option ℕ → Bool
is_same_task None None = true
is_same_task None (Some id) = false
is_same_task (Some id) None = false
is_same_task (Some id) (Some other) = id == other

-- The running task of a processor has become another one: another task, or none where one ran, or one where none ran.
-- `old` is the kernel before a dispatch, `new` after it.
abbrev pub has_changed : KernelState → KernelState → ℕ → Bool
has_changed old new cpu = not (is_same_task (running_on old cpu) (running_on new cpu))

-- the processors of which that is so
abbrev pub changed_processors : KernelState → KernelState → List ℕ
changed_processors old new = filter (has_changed old new) (1 ∷ 2 ∷ 3 ∷ 4 ∷ 5 ∷ 6 ∷ 7 ∷ 8 ∷ [])

-- each processor that isn't held runs the first of its ready tasks, or none where none is ready
abbrev pub IsSettled : KernelState → Type 0
IsSettled k =
    (cpu : ℕ) (p : Processor) → processor_at k cpu ≡ Some p → is_held p ≡ false → p.running ≡ top_of k.tasks cpu
