-- Who runs is ready, after every list of events from a boot.
use Rattle.std.proofs.Common.{◌≡◌, ℕ, ◌+◌, List, [], ◌∷◌, get_or, refl, subst, arith}
use Rattle.std.specs.Prelude.{Bool, true, false, Result, Ok, Err, ◌&&◌, if◌then◌else◌, All}
use Rattle.brd_time.specs.Time.{advanced as time_advanced}
use Rattle.brd_kernel.specs.Kernel.{KernelState, with_tasks, accepted_line}
use Rattle.brd_kernel.specs.Waits.{ticked_on}
use Rattle.brd_kernel.specs.Running.{is_ready_on, IsRunning}
use Rattle.brd_kernel.proofs.who_runs.RunningLemmas.{listed-ready, HoldsReady, runs-hold, dispatch-runs, context-runs, context-holds}
use Rattle.brd_kernel.proofs.who_runs.RunningCallLemmas.{serve-holds, fault-holds, ticked-runs, accepted-runs, pending-runs}
use Rattle.brd_board.specs.declared.event.Event.{Event}
use Rattle.brd_board.specs.Board.{BoardState, happens, after}
use Rattle.std.proofs.lemmas.List.Elements.{All-cons, All-nil, All-head, All-tail}
use Rattle.brd_base.specs.Space.{base}
use Rattle.brd_queue.specs.Queue.{has, AreApart}
use Rattle.brd_text.specs.Faults.{◌>>=◌}
use Rattle.brd_mem.specs.declared.image.Image.{Image}
use Rattle.brd_mem.specs.declared.image.Symbol.{Symbol}
use Rattle.brd_mem.specs.Memory.{contains}
use Rattle.brd_config.specs.declared.objects.TaskConfig.{TaskConfig}
use Rattle.brd_config.specs.Configuration.{Configuration, IsTask, IsConfiguration}
use Rattle.brd_tasks.specs.declared.task.TaskSetup.{TaskSetup}
use Rattle.brd_objects.specs.declared.block.PoolSetup.{PoolSetup}
use Rattle.brd_tasks.specs.Ready.{IsSetup}
use Rattle.brd_tasks.specs.Tasks.{made, task_at, ready_on}
use Rattle.brd_kernel.specs.declared.processor.LineSetup.{LineSetup}
use Rattle.brd_kernel.specs.Making.{made_kernel}
use Rattle.brd_kernel.proofs.who_runs.RunningMadeLemmas.{made-runs, started-runs}
use Rattle.brd_board.specs.declared.boot.BootFault.{BootFault}
use Rattle.brd_board.specs.declared.boot.BootFault.TheVariants.{Outside}
use Rattle.brd_board.specs.declared.setup.Region.{Region}
use Rattle.brd_board.specs.declared.setup.Placed.{Placed}
use Rattle.brd_board.specs.Setup.{value_of, is_code_address, region_of, placed_in, placed_task, setups_from, setups_of, all_started}
use Rattle.brd_board.specs.Boot.{booted_kernel, boot}
use Rattle.brd_board.proofs.EventLemmas.{Kept, happens-kept, after-kept, all-started-kept, boot-begins}
use Rattle.brd_board.proofs.CallingLemmas.{Calls, called-leaves}

calls-hold : (k : KernelState) (cpu : ℕ) → Calls IsRunning HoldsReady k cpu
calls-hold k cpu = record {
  quiet = runs-hold;
  goes_on = λ now who s was. context-runs now cpu who s was;
  replies = λ now who s was. context-holds now cpu who s was;
  serves = λ now p c same there may was. serve-holds now cpu p c there may was;
}

running-kept : Kept IsRunning HoldsReady
running-kept = record {
  context = context-runs;
  call = λ k cpu was. called-leaves k cpu (calls-hold k cpu) was;
  fault = λ k cpu p there on was. fault-holds k cpu p there on was;
  accept = λ k cpu line was. runs-hold (accepted_line k cpu line) (accepted-runs k cpu line was);
  tick = λ k was. runs-hold (ticked_on k (time_advanced k.time)) (ticked-runs k was);
  raise = pending-runs;
  dispatch = dispatch-runs;
}

pub happens-runs : (b : BoardState) (event : Event) → IsRunning b.kernel → IsRunning (happens b event).board.kernel
happens-runs b event was = happens-kept running-kept b event was

-- Boot.

-- a task that boot lays can be made
abbrev IsGood : Result Placed BootFault → Type 0
IsGood (Ok placed) = IsSetup placed.setup
IsGood (Err fault) = Unit {0}

good-if : (test : Bool) (task : TaskConfig) (exinf address : ℕ) (region : Region) → IsTask 8 task →
    IsGood (if test then Ok (placed_in task exinf address region) else Err Outside)
good-if true task exinf address region is = (is.id.least, is.id.most, (is.processor.least, is.processor.most))
good-if false task exinf address region is = tt

good-by : (size : ℕ) (task : TaskConfig) (exinf address : Result ℕ BootFault) (region : Result Region BootFault) → IsTask 8 task →
    IsGood (exinf >>= (λ e. address >>= (λ a. region >>= (λ r.
    if is_code_address size a && contains size r.low r.len then Ok (placed_in task e a r) else Err Outside))))
good-by size task (Err fault) address region is = tt
good-by size task (Ok e) (Err fault) region is = tt
good-by size task (Ok e) (Ok a) (Err fault) is = tt
good-by size task (Ok e) (Ok a) (Ok r) is = good-if (is_code_address size a && contains size r.low r.len) task e a r is

placed-good : (size : ℕ) (symbols : List Symbol) (free : ℕ) (task : TaskConfig) → IsTask 8 task → IsGood (placed_task size symbols free task)
unfolding placed_task
placed-good size symbols free task is =
    good-by size task (value_of symbols task.exinf) (value_of symbols task.address) (region_of symbols free task) is

abbrev AreGood : Result (List TaskSetup) BootFault → Type 0
AreGood (Ok setups) = All IsSetup setups
AreGood (Err fault) = Unit {0}

more-good : (placed : Placed) (others : Result (List TaskSetup) BootFault) → IsSetup placed.setup → AreGood others →
    AreGood (others >>= (λ setups. Ok (placed.setup ∷ setups)))
more-good placed (Ok setups) first rest = All-cons IsSetup placed.setup setups first rest
more-good placed (Err fault) first rest = tt

first-good : (size : ℕ) (symbols : List Symbol) (placed : Result Placed BootFault) (tasks : List TaskConfig) → IsGood placed →
    ((free : ℕ) → AreGood (setups_from size symbols free tasks)) →
    AreGood (placed >>= (λ p. setups_from size symbols p.free tasks >>= (λ setups. Ok (p.setup ∷ setups))))
first-good size symbols (Ok p) tasks first rest = more-good p (setups_from size symbols p.free tasks) first (rest p.free)
first-good size symbols (Err fault) tasks first rest = tt

setups-good : (size : ℕ) (symbols : List Symbol) (tasks : List TaskConfig) (free : ℕ) → All (IsTask 8) tasks →
    AreGood (setups_from size symbols free tasks)
unfolding setups_from
setups-good size symbols [] free all = All-nil IsSetup
setups-good size symbols (task ∷ tasks) free all =
    first-good size symbols (placed_task size symbols free task) tasks
    (placed-good size symbols free task (All-head (IsTask 8) task tasks all))
    (λ next. setups-good size symbols tasks next (All-tail (IsTask 8) task tasks all))

-- the tasks of a board's configuration
within : (c : Configuration) → IsConfiguration c → All (IsTask 8) c.tasks
within c valid i task below =
    let is : IsTask c.processors (get_or c.tasks i task) = valid.tasks i task below in
    record {
      id = is.id;
      processor = record { least = is.processor.least; most = omega (arith, is.processor.most, valid.processors.most) };
      attributes = is.attributes;
      priority = is.priority;
      stack_size = is.stack_size;
    }

booted-runs : (config : Configuration) (s : List TaskSetup) (l : List LineSetup) (p : List PoolSetup) → All IsSetup s → IsRunning (booted_kernel s l p config)
booted-runs config s l p good =
    let first : KernelState = made_kernel config.standard config.processors s l config.semaphores config.flags config.queues config.spin_locks config.mutexes p config.mailboxes in
    let on : KernelState = with_tasks first (all_started (made s) config.tasks) in
    dispatch-runs on (runs-hold on (all-started-kept {P = IsRunning} started-runs first config.tasks (made-runs first config.processors s refl refl good)))

pub boot-runs : (image : Image) (config : Configuration) (b : BoardState) (events : List Event) → IsConfiguration config →
    boot image config ≡ Ok b → IsRunning (after b events).kernel
boot-runs image config b events valid is =
    let good : AreGood (setups_of config.ram image.symbols config.tasks) =
    setups-good config.ram image.symbols config.tasks (base + config.ram) (within config valid) in
    after-kept running-kept b events
    (boot-begins (λ x. IsRunning x.kernel) image config b (λ s l p m are. booted-runs config s l p (subst AreGood are good)) is)

-- Who is ready.

pub boot-lists : (image : Image) (config : Configuration) (b : BoardState) (events : List Event) (id cpu : ℕ) → IsConfiguration config →
    boot image config ≡ Ok b →
    has id (ready_on (after b events).kernel.tasks cpu) ≡ is_ready_on (task_at (after b events).kernel.tasks id) cpu
boot-lists image config b events id cpu valid is =
    let runs : IsRunning (after b events).kernel = boot-runs image config b events valid is in
    listed-ready (after b events).kernel.tasks id cpu runs.tasks.consistent

pub boot-once : (image : Image) (config : Configuration) (b : BoardState) (events : List Event) (cpu : ℕ) → IsConfiguration config →
    boot image config ≡ Ok b → AreApart (ready_on (after b events).kernel.tasks cpu)
boot-once image config b events cpu valid is = (boot-runs image config b events valid is).tasks.once cpu
