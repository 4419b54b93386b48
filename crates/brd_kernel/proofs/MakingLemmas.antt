-- The kernel as it is made.
use Rattle.std.proofs.Common.{◌≡◌, ◌≤◌, ℕ, zero, suc, ◌+◌, List, [], ◌∷◌, ◌++◌, map, refl, sym, ap, subst, ◌∙◌, length, arith}
use Rattle.std.specs.Prelude.{Bool, true, false, ◌&&◌, nat_le, if◌then◌else◌, slice_index_or, replicate, Option, None, Some}
use Rattle.std.specs.List.{range_with_len}
use Rattle.brd_exec.specs.State.{State}
use Rattle.brd_tasks.specs.Tasks.{TaskTable, no_context, are_there}
use Rattle.brd_time.specs.Time.{Time}
use Rattle.brd_objects.specs.Table.{Table}
use Rattle.brd_objects.specs.declared.semaphore.Semaphore.{Semaphore}
use Rattle.brd_objects.specs.declared.flag.Flag.{Flag}
use Rattle.brd_objects.specs.DataQueues.{DataQueueState}
use Rattle.brd_kernel.specs.declared.processor.Processor.{Processor}
use Rattle.brd_kernel.specs.declared.processor.InterruptLine.{InterruptLine}
use Rattle.brd_kernel.specs.declared.processor.LineSetup.{LineSetup}
use Rattle.brd_timers.specs.declared.timer.Timer.{Timer}
use Rattle.brd_kernel.specs.Kernel.{idle, running_in, line_count}
use Rattle.brd_kernel.specs.Services.{console_size}
use Rattle.brd_kernel.specs.Always.{is_task_or_none, run_tasks, IsKernel, AreQuiet}
use Rattle.brd_kernel.proofs.ThereLemmas.{both}
use Rattle.std.proofs.lemmas.List.FromFn.{map-range_with_len_more, length-map-range_with_len, get_or-map-range_with_len}
use Rattle.std.specs.Prelude.{false}
use Rattle.std.proofs.lemmas.List.Elements.{All-nil, All-cons}
use Rattle.brd_config.specs.declared.objects.SpinLockConfig.{SpinLockConfig}
use Rattle.brd_kernel.specs.Making.{idle_one, idle_ones, made_line, made_lines, made_timer, timers_below, is_configured, made_spin_locks}
use Rattle.brd_objects.specs.declared.mutex.Mutex.{Mutex}
use Rattle.brd_objects.specs.Pools.{PoolState}
use Rattle.brd_objects.specs.Mailboxes.{MailboxState}

-- the lines by one number more

pub no_lines : (setups : List LineSetup) → made_lines setups 0 ≡ []
unfolding made_lines
no_lines setups = refl

pub lines_more : (setups : List LineSetup) (n : ℕ) → made_lines setups (n + 1) ≡ made_lines setups n ++ made_line setups n ∷ []
unfolding made_lines
lines_more setups n = map-range_with_len_more (made_line setups) 0 n n (omega arith)

-- the time handlers alike

pub no_timers : (setups : List LineSetup) → timers_below setups 0 ≡ []
unfolding timers_below
no_timers setups = refl

pub timers_more : (setups : List LineSetup) (n : ℕ) → timers_below setups (n + 1) ≡ timers_below setups n ++ made_timer setups n ∷ []
unfolding timers_below
timers_more setups n = map-range_with_len_more (made_timer setups) 0 n n (omega arith)

-- the spin locks alike

pub no_locks : (configs : List SpinLockConfig) → made_spin_locks configs 0 ≡ []
unfolding made_spin_locks
no_locks configs = refl

pub locks_more : (configs : List SpinLockConfig) (n : ℕ) → made_spin_locks configs (n + 1) ≡ made_spin_locks configs n ++ is_configured configs n ∷ []
unfolding made_spin_locks
locks_more configs n = map-range_with_len_more (is_configured configs) 0 n n (omega arith)

lines-length : (setups : List LineSetup) (n : ℕ) → length (made_lines setups n) ≡ n
unfolding made_lines
lines-length setups n = length-map-range_with_len (made_line setups) 0 n

ones-length : (processors n : ℕ) → length (idle_ones processors n) ≡ n
unfolding idle_ones
ones-length processors n = length-map-range_with_len (idle_one processors) 0 n

idle-runs : (there : List Bool) (one : Bool) → is_task_or_none there (running_in (if one then Some idle else None)) ≡ true
idle-runs there true = refl
idle-runs there false = refl

idle-run : (there : List Bool) (processors from n : ℕ) → run_tasks there (map (idle_one processors) (range_with_len from n)) ≡ true
idle-run there processors from zero = refl
idle-run there processors from (suc n) =
    both _ _ (idle-runs there (nat_le 1 from && nat_le from processors)) (idle-run there processors (from + 1) n)

idle-ones-run : (there : List Bool) (processors n : ℕ) → run_tasks there (idle_ones processors n) ≡ true
unfolding idle_ones
idle-ones-run there processors n = idle-run there processors 0 n

none-at-0 : (processors : ℕ) → slice_index_or (idle_ones processors 9) 0 None ≡ None
unfolding idle_ones
none-at-0 processors = get_or-map-range_with_len (idle_one processors) 0 9 0 0 None (omega arith) (omega arith)

-- what a function has made part by part is a kernel
pub made-kernel : (standard : Bool) (time : Time) (timers : List (Option Timer)) (tasks : TaskTable) (semaphores : Table Semaphore) (flags : Table Flag) (queues : Table DataQueueState) (mutexes : Table Mutex) (pools : Table PoolState) (mailboxes : Table MailboxState) (locks : List Bool) (processors : ℕ) (setups : List LineSetup) (ps : List (Option Processor)) (contexts : List State) (lines : List InterruptLine) (console : List ℕ) →
    ps ≡ idle_ones processors 9 → contexts ≡ replicate 9 no_context → lines ≡ made_lines setups (line_count standard) → console ≡ [] →
    IsKernel (record { off = false; standard = standard; clock = 0; time = time; timers = timers; tasks = tasks; semaphores = semaphores; flags = flags; queues = queues; mutexes = mutexes; pools = pools; mailboxes = mailboxes; spin_locks = locks; processors = ps; handler_contexts = contexts; lines = lines; console = console })
made-kernel standard time timers tasks semaphores flags queues mutexes pools mailboxes locks processors setups ps contexts lines console ps_are contexts_are lines_are console_is = record {
  processors = ap length ps_are ∙ ones-length processors 9;
  handler_contexts = ap length contexts_are;
  lines = ap length lines_are ∙ lines-length setups (line_count standard);
  console = subst (λ c. length c ≤ console_size) (sym console_is) (omega arith);
  nobody = subst (λ l. slice_index_or l 0 None ≡ None) (sym ps_are) (none-at-0 processors);
  running = subst (λ l. run_tasks (are_there tasks) l ≡ true) (sym ps_are) (idle-ones-run (are_there tasks) processors 9);
}

quiet-from : (setups : List LineSetup) (from n : ℕ) → AreQuiet (map (made_line setups) (range_with_len from n))
quiet-from setups from zero = All-nil (λ (line : InterruptLine). line.pending ≡ false)
quiet-from setups from (suc n) =
    All-cons (λ (line : InterruptLine). line.pending ≡ false) (made_line setups from) (map (made_line setups) (range_with_len (from + 1) n)) refl
    (quiet-from setups (from + 1) n)

pub made-quiet : (setups : List LineSetup) (n : ℕ) (lines : List InterruptLine) → lines ≡ made_lines setups n → AreQuiet lines
unfolding made_lines
made-quiet setups n lines are = subst AreQuiet (sym are) (quiet-from setups 0 n)
