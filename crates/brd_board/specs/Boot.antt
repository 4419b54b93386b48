-- Boot: the board that an image and a configuration make.
use Rattle.std.specs.Prelude.{ℕ, ◌+◌, ◌-◌, ◌*◌, ◌^◌, nat_le, Bool, true, false, ◌&&◌, if◌then◌else◌, List, [], ◌∷◌}
use Rattle.std.specs.Prelude.{◌++◌, length, map, flat_map, replicate, None, unwrap_or, Result, Ok, Err}
use Rattle.std.specs.List.{range_with_len}
use Rattle.brd_base.specs.Space.{base}
use Rattle.brd_text.specs.Faults.{◌>>=◌}
use Rattle.brd_word.specs.declared.order.Order.{Order}
use Rattle.brd_word.specs.Words.{bytes_of_word}
use Rattle.brd_mem.specs.declared.image.Image.{Image}
use Rattle.brd_mem.specs.declared.image.Segment.{Segment}
use Rattle.brd_mem.specs.Memory.{Memory, memory_of_bytes, contains}
use Rattle.brd_mem.specs.Image.{byte_in}
use Rattle.brd_config.specs.declared.objects.Operand.TheVariants.{Number}
use Rattle.brd_config.specs.declared.objects.Stack.TheVariants.{Automatic}
use Rattle.brd_config.specs.declared.objects.TaskConfig.{TaskConfig}
use Rattle.brd_config.specs.Configuration.{Configuration}
use Rattle.brd_tasks.specs.declared.task.TaskSetup.{TaskSetup}
use Rattle.brd_objects.specs.declared.block.PoolSetup.{PoolSetup}
use Rattle.brd_kernel.specs.declared.processor.LineSetup.{LineSetup}
use Rattle.brd_kernel.specs.Kernel.{KernelState, with_tasks}
use Rattle.brd_kernel.specs.Making.{made_kernel}
use Rattle.brd_kernel.specs.Dispatch.{dispatched}
use Rattle.brd_board.specs.Board.{BoardState}
use Rattle.brd_board.specs.Setup.{setups_of, handlers_of, pools_of, cyclics_of, alarms_of, ta_act, all_started}
use Rattle.brd_board.specs.declared.boot.BootFault.{BootFault}
use Rattle.brd_board.specs.declared.boot.BootFault.TheVariants.{Outside}

-- each segment lies inside a RAM of that size
abbrev pub are_inside : ℕ → List Segment → Bool
are_inside size [] = true
are_inside size (segment ∷ others) = contains size segment.address (length segment.bytes) && are_inside size others

-- RAM of that order and size as boot leaves it: at each address the byte of the segment that holds it, and 0 where none
-- does
unfoldable pub memory_of : Order → ℕ → List Segment → Memory
memory_of order size segments =
    memory_of_bytes order (map (λ at. unwrap_or (byte_in segments (base + at)) 0) (range_with_len 0 size))

-- the same, where all segments lie inside
unfoldable pub loaded : Order → ℕ → List Segment → Result Memory BootFault
loaded order size segments = if are_inside size segments then Ok (memory_of order size segments) else Err Outside

-- the kernel at count 0: its objects and the handlers of its lines are as configured, its tasks with TA_ACT have been
-- started, and each processor runs its first ready task
abbrev pub booted_kernel : List TaskSetup → List LineSetup → List PoolSetup → Configuration → KernelState
booted_kernel setups lines pools config =
    let made = made_kernel config.standard config.processors setups lines config.semaphores config.flags config.queues
    config.spin_locks config.mutexes pools config.mailboxes in
    dispatched (with_tasks made (all_started made.tasks config.tasks))

-- the board as boot leaves it: without links and faults
abbrev pub booted_board : KernelState → Memory → BoardState
booted_board kernel memory = record { kernel = kernel; memory = memory; links = []; faults = replicate 9 None }

-- The board that an image and a configuration make, or the first fault: of the segments, of the tasks, of the handlers,
-- of the memory pools, of the cyclic handlers, of the alarm handlers. Its byte order is the image's.
-- Tasks start where the configuration says, whatever entry the image names.
unfoldable pub boot : Image → Configuration → Result BoardState BootFault
boot image config = do
  memory ← loaded image.order config.ram image.segments
  setups ← setups_of config.ram image.symbols config.tasks
  lines ← handlers_of config.ram image.symbols config.handlers
  pools ← pools_of config.ram image.symbols config.tasks config.pools
  cyclics ← cyclics_of config.ram image.symbols config.cyclics
  alarms ← alarms_of config.ram image.symbols config.alarms
  Ok (booted_board (booted_kernel setups ((lines ++ cyclics) ++ alarms) pools config) memory)

-- Words: their image is booted with 64 KiB of RAM and one task, which starts at RAM's first address.

abbrev pub words_ram : ℕ
words_ram = 2 ^ 16

-- BOARD(1, 0x10000); CRE_TSK(1, {TA_ACT, 0, 0x80000000, 1, 256, NULL});
abbrev pub words_task : TaskConfig
words_task = record {
  id = 1;
  processor = 1;
  attributes = record { 0 = ta_act };
  exinf = Number 0;
  address = Number base;
  priority = 1;
  stack_size = 256;
  stack = Automatic;
}

abbrev pub words_config : Configuration
words_config =
    record {
      standard = false;
      processors = 1;
      ram = words_ram;
      tasks = words_task ∷ [];
      semaphores = [];
      flags = [];
      queues = [];
      spin_locks = [];
      mutexes = [];
      pools = [];
      mailboxes = [];
      cyclics = [];
      alarms = [];
      handlers = [];
    }

-- that task: its stack pointer is the end of RAM
abbrev pub words_setup : TaskSetup
words_setup = record { id = 1; cpu = 1; priority = 1; exinf = 0; address = base; sp = base + words_ram }

-- the memory of a list of words: it is big-endian, they lie from its start on, and zeros after them
abbrev pub memory_of_words : List ℕ → Memory
memory_of_words words =
    memory_of_bytes Order.Big (flat_map (bytes_of_word Order.Big) words ++ replicate (words_ram - 4 * length words) 0)

-- the board of a list of words, of which 16,384 fit into RAM
abbrev pub boot_words : List ℕ → Result BoardState BootFault
boot_words words =
    if nat_le (length words) 16384
    then Ok (booted_board (booted_kernel (words_setup ∷ []) [] [] words_config) (memory_of_words words))
    else Err Outside
