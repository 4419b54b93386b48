-- The kernel as it is made, before any task has been started.
use Rattle.std.specs.Prelude.{ℕ, nat_le, Bool, false, ◌==◌, ◌&&◌, if◌then◌else◌, List, [], map, find, replicate}
use Rattle.std.specs.Prelude.{Option, None, Some}
use Rattle.std.specs.Option.{option_map, option_and_then}
use Rattle.std.specs.List.{range_with_len, list_any}
use Rattle.brd_tasks.specs.Tasks.{made, no_context}
use Rattle.brd_tasks.specs.declared.task.TaskSetup.{TaskSetup}
use Rattle.brd_config.specs.declared.objects.SemaphoreConfig.{SemaphoreConfig}
use Rattle.brd_config.specs.declared.objects.FlagConfig.{FlagConfig}
use Rattle.brd_config.specs.declared.objects.QueueConfig.{QueueConfig}
use Rattle.brd_config.specs.declared.objects.SpinLockConfig.{SpinLockConfig}
use Rattle.brd_config.specs.declared.objects.MutexConfig.{MutexConfig}
use Rattle.brd_config.specs.declared.objects.MailboxConfig.{MailboxConfig}
use Rattle.brd_objects.specs.declared.block.PoolSetup.{PoolSetup}
use Rattle.brd_time.specs.Time.{beginning}
use Rattle.brd_timers.specs.declared.course.Course.{Course}
use Rattle.brd_timers.specs.declared.timer.Timer.{Timer}
use Rattle.brd_timers.specs.Timers as timers
use Rattle.brd_objects.specs.Semaphores.{made_semaphores}
use Rattle.brd_objects.specs.Flags.{made_flags}
use Rattle.brd_objects.specs.DataQueues.{made_queues}
use Rattle.brd_objects.specs.Mutexes.{made_mutexes}
use Rattle.brd_objects.specs.Pools.{made_pools}
use Rattle.brd_objects.specs.Mailboxes.{made_mailboxes}
use Rattle.brd_kernel.specs.declared.processor.Processor.{Processor}
use Rattle.brd_kernel.specs.declared.processor.Handler.{Handler}
use Rattle.brd_kernel.specs.declared.processor.InterruptLine.{InterruptLine}
use Rattle.brd_kernel.specs.declared.processor.LineSetup.{LineSetup}
use Rattle.brd_kernel.specs.Kernel.{KernelState, idle, quiet, line_count, timer_line}

-- the processor of a number on a board that has n, counted from 1
abbrev pub idle_one : ℕ → ℕ → Option Processor
idle_one processors cpu = if nat_le 1 cpu && nat_le cpu processors then Some idle else None

-- those of the numbers below one
unfoldable pub idle_ones : ℕ → ℕ → List (Option Processor)
idle_ones processors count = map (idle_one processors) (range_with_len 0 count)

-- the first setup of a line, if there is one, and its handler

abbrev pub setup_of : List LineSetup → ℕ → Option LineSetup
setup_of setups line = find (λ setup. setup.line == line) setups

abbrev pub handler_of : List LineSetup → ℕ → Option Handler
handler_of setups line = option_map (λ setup. setup.handler) (setup_of setups line)

-- a line with that handler and nothing pending
abbrev pub made_line : List LineSetup → ℕ → InterruptLine
made_line setups line = quiet (handler_of setups line)

-- those of the numbers below one
unfoldable pub made_lines : List LineSetup → ℕ → List InterruptLine
made_lines setups count = map (made_line setups) (range_with_len 0 count)

-- when the kernel raises a line, if it does, by the first setup of that line
abbrev pub course_of : List LineSetup → ℕ → Option Course
course_of setups line = option_and_then (λ setup. setup.course) (setup_of setups line)

-- the time handler at a place, as it is at boot
abbrev pub made_timer : List LineSetup → ℕ → Option Timer
made_timer setups place = option_map timers.made (course_of setups (timer_line place))

-- those of the places below a number
unfoldable pub timers_below : List LineSetup → ℕ → List (Option Timer)
timers_below setups count = map (made_timer setups) (range_with_len 0 count)

-- the profile alone has time handlers
abbrev pub made_timers : Bool → List LineSetup → List (Option Timer)
made_timers standard setups = if standard then timers_below setups 128 else []

-- a spin lock of that ID is configured
abbrev pub is_configured : List SpinLockConfig → ℕ → Bool
is_configured configs id = list_any (λ config. config.id == id) configs

-- for each ID below one whether it is
unfoldable pub made_spin_locks : List SpinLockConfig → ℕ → List Bool
made_spin_locks configs count = map (is_configured configs) (range_with_len 0 count)

abbrev pub made_kernel : Bool → ℕ → List TaskSetup → List LineSetup → List SemaphoreConfig → List FlagConfig →
    List QueueConfig → List SpinLockConfig → List MutexConfig → List PoolSetup → List MailboxConfig → KernelState
made_kernel standard processors setups lines semaphores flags queues spin_locks mutexes pools mailboxes = record {
  off = false;
  standard = standard;
  clock = 0;
  time = beginning;
  timers = made_timers standard lines;
  tasks = made setups;
  semaphores = made_semaphores semaphores;
  flags = made_flags flags;
  queues = made_queues queues;
  mutexes = made_mutexes mutexes;
  pools = made_pools pools;
  mailboxes = made_mailboxes mailboxes;
  spin_locks = made_spin_locks spin_locks 256;
  processors = idle_ones processors 9;
  handler_contexts = replicate 9 no_context;
  lines = made_lines lines (line_count standard);
  console = [];
}
