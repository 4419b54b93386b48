-- Where stacks lie: a task's where boot has laid it, and a handler's between two symbols of the image.
use Rattle.std.specs.Prelude.{◌+◌, ◌++◌, ℕ, List, [], ◌∷◌, Option, None, Some, Result, Ok, Err, codes}
use Rattle.std.specs.List.{cons_option, filter_map, range_with_len}
use Rattle.std.specs.Option.{option_map}
use Rattle.std.specs.Fmt.{decimal}
use Rattle.brd_base.specs.Space.{base}
use Rattle.brd_mem.specs.declared.image.Symbol.{Symbol}
use Rattle.brd_mem.specs.Image.{symbol_value}
use Rattle.brd_config.specs.declared.objects.TaskConfig.{TaskConfig}
use Rattle.brd_config.specs.declared.objects.HandlerConfig.{HandlerConfig}
use Rattle.brd_board.specs.declared.boot.BootFault.{BootFault}
use Rattle.brd_board.specs.declared.setup.Region.{Region}
use Rattle.brd_board.specs.Setup.{region_of}
use Rattle.brd_stacks.specs.declared.stack.Stack.{Stack}
use Rattle.brd_stacks.specs.declared.laid.Laid.{Laid}

abbrev pub found : {A : Type 0} → Result A BootFault → Option A
found (Ok x) = Some x
found (Err fault) = None

-- a region from its lowest address to behind its last byte; the next stack that the configuration leaves open ends at
-- free
abbrev pub laid_in : Region → Laid
laid_in region = record { low = region.low; end = region.low + region.len; free = region.free }

abbrev pub laid_by : Result Region BootFault → Option Laid
laid_by region = option_map laid_in (found region)

-- where boot has laid the stack of a task, where the next one that the configuration leaves open ends at free
abbrev pub place_of : List Symbol → ℕ → TaskConfig → Option Laid
place_of symbols free task = laid_by (region_of symbols free task)

abbrev pub free_by : ℕ → Option Laid → ℕ
free_by free None = free
free_by free (Some laid) = laid.free

abbrev pub stack_of : ℕ → Laid → Stack
stack_of id laid = record { strand = id; low = laid.low; end = laid.end }

abbrev pub task_stack : List Symbol → ℕ → TaskConfig → Option Stack
task_stack symbols free task = option_map (stack_of task.id) (place_of symbols free task)

-- the stacks of tasks in the order of their statements
abbrev pub task_stacks : List Symbol → ℕ → List TaskConfig → List Stack
task_stacks symbols free [] = []
task_stacks symbols free (task ∷ tasks) =
    cons_option (task_stack symbols free task) (task_stacks symbols (free_by free (place_of symbols free task)) tasks)

-- a name and a number behind it
abbrev pub numbered : List ℕ → ℕ → List ℕ
numbered name number = name ++ decimal number

abbrev pub stack_between : ℕ → Option ℕ → Option ℕ → Option Stack
stack_between line (Some low) (Some end) = Some (record { strand = 256 + line; low = low; end = end })
stack_between line (Some low) None = None
stack_between line None end = None

-- the stack of the handler of a line: the kit for C has these symbols
abbrev pub handler_stack : List Symbol → ℕ → Option Stack
handler_stack symbols line =
    stack_between line (symbol_value symbols (numbered (codes "handler_stack_") line))
    (symbol_value symbols (numbered (codes "end_of_handler_stack_") line))

abbrev pub handler_stacks : List Symbol → List HandlerConfig → List Stack
handler_stacks symbols [] = []
handler_stacks symbols (handler ∷ handlers) =
    cons_option (handler_stack symbols handler.line) (handler_stacks symbols handlers)

-- those of time handlers, which have the lines from 32 to 159
abbrev pub time_handler_stacks : List Symbol → List Stack
time_handler_stacks symbols = filter_map (handler_stack symbols) (range_with_len 32 128)

-- the stacks of a configuration: the first one that it leaves open ends where RAM ends
abbrev pub stacks_of : List Symbol → ℕ → List TaskConfig → List HandlerConfig → List Stack
stacks_of symbols ram tasks handlers =
    task_stacks symbols (base + ram) tasks ++ handler_stacks symbols handlers ++ time_handler_stacks symbols
