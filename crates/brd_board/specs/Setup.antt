-- What a configuration makes of an image: where each task starts and where its stack lies, which tasks are started,
-- where the handler of each interrupt line starts, where the blocks of each memory pool lie, and where each time
-- handler starts and when it is due. Where the configuration names a symbol of the image, its value is meant. The first
-- fault in the order of the statements is answered; of one statement first all its symbols are looked up, then its
-- addresses are tested.
use Rattle.std.specs.Prelude.{ℕ, ◌+◌, ◌-◌, ◌*◌, ◌%◌, ◌==◌, Bool, true, false, ◌&&◌, if◌then◌else◌, List, [], ◌∷◌}
use Rattle.std.specs.Prelude.{None, Some, Result, Ok, Err}
use Rattle.std.specs.Int.RustNames.{bit_and}
use Rattle.brd_base.specs.Space.{base}
use Rattle.brd_text.specs.Faults as text
use Rattle.brd_text.specs.Faults.{◌>>=◌, or_fault}
use Rattle.brd_mem.specs.declared.image.Symbol.{Symbol}
use Rattle.brd_mem.specs.Image.{symbol_value}
use Rattle.brd_mem.specs.Memory.{contains}
use Rattle.brd_config.specs.declared.objects.Operand.{Operand}
use Rattle.brd_config.specs.declared.objects.Operand.TheVariants.{Number, Name}
use Rattle.brd_config.specs.declared.objects.Stack.{Stack}
use Rattle.brd_config.specs.declared.objects.Stack.TheVariants.{Automatic, At}
use Rattle.brd_config.specs.declared.objects.TaskConfig.{TaskConfig}
use Rattle.brd_config.specs.declared.objects.HandlerConfig.{HandlerConfig}
use Rattle.brd_config.specs.declared.objects.CyclicConfig.{CyclicConfig}
use Rattle.brd_config.specs.declared.objects.AlarmConfig.{AlarmConfig}
use Rattle.brd_config.specs.declared.objects.PoolConfig.{PoolConfig}
use Rattle.brd_objects.specs.declared.block.PoolSetup.{PoolSetup}
use Rattle.brd_objects.specs.Pools.{distance_of}
use Rattle.brd_tasks.specs.declared.task.TaskSetup.{TaskSetup}
use Rattle.brd_tasks.specs.declared.task.Request.TheVariants.{Assigned}
use Rattle.brd_tasks.specs.Tasks.{TaskTable, activated}
use Rattle.brd_kernel.specs.declared.processor.LineSetup.{LineSetup}
use Rattle.brd_timers.specs.declared.course.Course.TheVariants.{Cyclic, Alarm}
use Rattle.brd_timers.specs.declared.course.Cycle.{Cycle}
use Rattle.brd_kernel.specs.Kernel.{timer_line, cyclic_place, alarm_place}
use Rattle.brd_board.specs.declared.boot.BootFault.{BootFault}
use Rattle.brd_board.specs.declared.boot.BootFault.TheVariants.{NoMemory, UnknownSymbol, Outside}
use Rattle.brd_board.specs.declared.setup.Region.{Region}
use Rattle.brd_board.specs.declared.setup.Placed.{Placed}
use Rattle.brd_board.specs.declared.pools.Area.{Area}
use Rattle.brd_board.specs.declared.pools.PlacedPool.{PlacedPool}

-- a number as it stands, or the value of the symbol that is named
abbrev pub value_of : List Symbol → Operand → Result ℕ BootFault
value_of symbols (Number n) = Ok n
value_of symbols (Name name) = or_fault UnknownSymbol (symbol_value symbols name)

-- an instruction can lie at an address: the word there is aligned, and in a RAM of that size
abbrev pub is_code_address : ℕ → ℕ → Bool
is_code_address size address = address % 4 == 0 && contains size address 4

-- Stacks (own choice).

-- rounded up to a multiple of 16, and rounded down to a multiple of 8
abbrev pub rounded_up : ℕ → ℕ
rounded_up n = n + 15 - (n + 15) % 16

abbrev pub rounded_down : ℕ → ℕ
rounded_down n = n - n % 8

-- A stack that the configuration leaves open has its bytes, rounded up, just below `free`; the stack pointer is `free`,
-- and the next such stack ends where this one begins. Where it has more bytes than there are addresses below `free`, it
-- begins at 0, which is outside of RAM. A stack that the configuration places begins there, the stack pointer is its
-- end, rounded down, and `free` stays.
abbrev pub region_by : List Symbol → ℕ → ℕ → Stack → Result Region BootFault
region_by symbols free stack_size Automatic =
    Ok (record {
      low = free - rounded_up stack_size;
      len = rounded_up stack_size;
      sp = free;
      free = free - rounded_up stack_size;
    })
region_by symbols free stack_size (At operand) = do
  low ← value_of symbols operand
  Ok (record { low = low; len = stack_size; sp = rounded_down (low + stack_size); free = free })

-- the stack of a task, where the next stack that the configuration leaves open ends at `free`
unfoldable pub region_of : List Symbol → ℕ → TaskConfig → Result Region BootFault
region_of symbols free task = region_by symbols free task.stack_size task.stack

-- the task as its statement says it; the next stack that the configuration leaves open ends at region.free
abbrev pub placed_in : TaskConfig → ℕ → ℕ → Region → Placed
placed_in task exinf address region = record {
  setup = record {
    id = task.id;
    cpu = task.processor;
    priority = task.priority;
    exinf = exinf;
    address = address;
    sp = region.sp;
  };
  free = region.free;
}

-- a task whose address and stack lie in a RAM of that size
unfoldable pub placed_task : ℕ → List Symbol → ℕ → TaskConfig → Result Placed BootFault
placed_task size symbols free task = do
  exinf ← value_of symbols task.exinf
  address ← value_of symbols task.address
  region ← region_of symbols free task
  if is_code_address size address && contains size region.low region.len then Ok (placed_in task exinf address region)
      else Err Outside

-- the tasks in the order of their statements
unfoldable pub setups_from : ℕ → List Symbol → ℕ → List TaskConfig → Result (List TaskSetup) BootFault
setups_from size symbols free [] = Ok []
setups_from size symbols free (task ∷ tasks) = do
  placed ← placed_task size symbols free task
  setups ← setups_from size symbols placed.free tasks
  Ok (placed.setup ∷ setups)

-- all tasks: the first stack that the configuration leaves open ends where RAM ends
abbrev pub setups_of : ℕ → List Symbol → List TaskConfig → Result (List TaskSetup) BootFault
setups_of size symbols tasks = setups_from size symbols (base + size) tasks

-- where a handler starts
unfoldable pub handler_address : ℕ → List Symbol → Operand → Result ℕ BootFault
handler_address size symbols operand = do
  address ← value_of symbols operand
  if is_code_address size address then Ok address else Err Outside

-- the line of a handler that starts there, and finds the line in $a0; the processor takes the line's interrupts
abbrev pub line_of : HandlerConfig → ℕ → LineSetup
line_of handler address = record {
  line = handler.line;
  handler = record { cpu = handler.processor; address = address; argument = handler.line };
  course = None;
}

-- the lines that have a handler, in the order of the handlers' statements
unfoldable pub handlers_of : ℕ → List Symbol → List HandlerConfig → Result (List LineSetup) BootFault
handlers_of size symbols [] = Ok []
handlers_of size symbols (handler ∷ handlers) = do
  address ← handler_address size symbols handler.address
  lines ← handlers_of size symbols handlers
  Ok (line_of handler address ∷ lines)

-- Time handlers, each on the line of its ID; it starts there, and finds its exinf in $a0.

abbrev pub ta_sta : ℕ
ta_sta = 2

abbrev pub ta_phs : ℕ
ta_phs = 4

-- the times of a cyclic handler
abbrev pub cycle_of : CyclicConfig → Cycle
cycle_of cyclic = record {
  period = cyclic.period;
  phase = cyclic.phase;
  starts = bit_and cyclic.attributes.0 ta_sta == ta_sta;
  keeps = bit_and cyclic.attributes.0 ta_phs == ta_phs;
}

unfoldable pub placed_cyclic : ℕ → List Symbol → CyclicConfig → Result LineSetup BootFault
placed_cyclic size symbols cyclic = do
  argument ← value_of symbols cyclic.exinf
  address ← handler_address size symbols cyclic.address
  Ok (record {
    line = timer_line (cyclic_place cyclic.id);
    handler = record { cpu = cyclic.processor; address = address; argument = argument };
    course = Some (Cyclic (cycle_of cyclic));
  })

unfoldable pub placed_alarm : ℕ → List Symbol → AlarmConfig → Result LineSetup BootFault
placed_alarm size symbols alarm = do
  argument ← value_of symbols alarm.exinf
  address ← handler_address size symbols alarm.address
  Ok (record {
    line = timer_line (alarm_place alarm.id);
    handler = record { cpu = alarm.processor; address = address; argument = argument };
    course = Some Alarm;
  })

-- what is placed of each of these, in their order, or the first fault
unfoldable pub each_placed : {X Y : Type 0} → (X → Result Y BootFault) → List X → Result (List Y) BootFault
each_placed placed [] = Ok []
each_placed placed (x ∷ xs) = do
  one ← placed x
  others ← each_placed placed xs
  Ok (one ∷ others)

-- the lines of the cyclic handlers and of the alarm handlers, in the order of their statements

abbrev pub cyclics_of : ℕ → List Symbol → List CyclicConfig → Result (List LineSetup) BootFault
cyclics_of size symbols cyclics = each_placed (placed_cyclic size symbols) cyclics

abbrev pub alarms_of : ℕ → List Symbol → List AlarmConfig → Result (List LineSetup) BootFault
alarms_of size symbols alarms = each_placed (placed_alarm size symbols) alarms

-- Memory pools (own choice where they lie).

-- where the next area that the configuration leaves open ends, after a stack
abbrev pub below_stack : ℕ → ℕ → Stack → ℕ
below_stack free stack_size Automatic = free - rounded_up stack_size
below_stack free stack_size (At operand) = free

-- after all tasks' stacks
unfoldable pub below_stacks : ℕ → List TaskConfig → ℕ
below_stacks free [] = free
below_stacks free (task ∷ tasks) = below_stacks (below_stack free task.stack_size task.stack) tasks

-- how many bytes the blocks of a pool have
abbrev pub bytes_of_pool : PoolConfig → ℕ
bytes_of_pool pool = pool.count * distance_of pool.size

-- An area that the configuration leaves open has its bytes just below `free`, and the next one ends where this one
-- begins. Where it has more bytes than there are addresses below `free`, it begins at 0, which is outside of RAM. One
-- that the configuration places begins there, and `free` stays.
abbrev pub area_by : List Symbol → ℕ → ℕ → Stack → Result Area BootFault
area_by symbols free bytes Automatic = Ok (record { low = free - bytes; free = free - bytes })
area_by symbols free bytes (At operand) = do
  low ← value_of symbols operand
  Ok (record { low = low; free = free })

-- the area of a pool, where the next one that the configuration leaves open ends at `free`
unfoldable pub area_of : List Symbol → ℕ → PoolConfig → Result Area BootFault
area_of symbols free pool = area_by symbols free (bytes_of_pool pool) pool.area

-- the pool as its statement says it, with its first block at the start of its area
abbrev pub laid_in : PoolConfig → Area → PlacedPool
laid_in pool area = record {
  setup = record {
    id = pool.id;
    attributes = pool.attributes;
    count = pool.count;
    distance = distance_of pool.size;
    start = area.low;
  };
  free = area.free;
}

-- a pool whose blocks are aligned, and lie in a RAM of that size
unfoldable pub placed_pool : ℕ → List Symbol → ℕ → PoolConfig → Result PlacedPool BootFault
placed_pool size symbols free pool = do
  area ← area_of symbols free pool
  if area.low % 4 == 0 && contains size area.low (bytes_of_pool pool) then Ok (laid_in pool area) else Err Outside

-- the pools in the order of their statements
unfoldable pub pools_from : ℕ → List Symbol → ℕ → List PoolConfig → Result (List PoolSetup) BootFault
pools_from size symbols free [] = Ok []
pools_from size symbols free (pool ∷ pools) = do
  placed ← placed_pool size symbols free pool
  setups ← pools_from size symbols placed.free pools
  Ok (placed.setup ∷ setups)

-- all pools: the first area that the configuration leaves open ends where the lowest such stack begins
abbrev pub pools_of : ℕ → List Symbol → List TaskConfig → List PoolConfig → Result (List PoolSetup) BootFault
pools_of size symbols tasks pools = pools_from size symbols (below_stacks (base + size) tasks) pools

abbrev pub ta_act : ℕ
ta_act = 2

-- the task has TA_ACT
abbrev pub has_ta_act : TaskConfig → Bool
has_ta_act task = bit_and task.attributes.0 ta_act == ta_act

-- a task with TA_ACT is started
abbrev pub started_at_boot : TaskTable → TaskConfig → TaskTable
started_at_boot t task = if has_ta_act task then activated t task.id Assigned else t

-- the tasks with TA_ACT are started, in the order of their statements
abbrev pub all_started : TaskTable → List TaskConfig → TaskTable
all_started t [] = t
all_started t (task ∷ tasks) = all_started (started_at_boot t task) tasks

abbrev pub is_no_memory : BootFault → Bool
is_no_memory NoMemory = true
is_no_memory UnknownSymbol = false
is_no_memory Outside = false

-- what a function answered is what is meant, or that memory ran out
abbrev pub Boots : {X : Type 0} → Result X BootFault → Result X BootFault → Type 0
Boots meant answer = text.Gives is_no_memory (λ x. x) answer meant
