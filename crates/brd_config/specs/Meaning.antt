-- The configuration that a text says, or the fault of its first faulty statement. Of the faults of one statement the
-- first in this order is answered: Syntax, BadProcessor, BadId, Duplicate, BadAttribute, BadPriority, BadCount.
use Rattle.std.specs.Prelude.{ℕ, suc, ◌%◌, ◌^◌, Bool, true, false, not, ◌&&◌, nat_le, ◌==◌, if◌then◌else◌, List, []}
use Rattle.std.specs.Prelude.{◌∷◌, ◌++◌, length, Option, Some, None, is_none, is_some, unwrap_or, Result, Ok, Err}
use Rattle.std.specs.Prelude.{codes}
use Rattle.std.specs.List.{list_any}
use Rattle.std.specs.Str.{bytes_eq}
use Rattle.std.specs.Int.RustNames.{bit_and}
use Rattle.brd_text.specs.Tokens.{Token, Text, tokens_of, first, others}
use Rattle.brd_text.specs.Tokens.Token.{Run, Mark, Unclosed, End}
use Rattle.brd_text.specs.Faults.{◌>>=◌}
use Rattle.brd_text.specs.Turns.{Flow, repeated}
use Rattle.brd_text.specs.Turns.Flow.{More, Done}
use Rattle.brd_config.specs.declared.fault.ConfigFault.{ConfigFault}
use Rattle.brd_config.specs.declared.fault.ConfigFault.TheVariants.{NoMemory, Syntax, Duplicate, BadId, BadAttribute}
use Rattle.brd_config.specs.declared.fault.ConfigFault.TheVariants.{BadPriority, BadCount, BadProcessor}
use Rattle.brd_config.specs.declared.objects.TaskConfig.{TaskConfig}
use Rattle.brd_config.specs.declared.objects.SemaphoreConfig.{SemaphoreConfig}
use Rattle.brd_config.specs.declared.objects.FlagConfig.{FlagConfig}
use Rattle.brd_config.specs.declared.objects.QueueConfig.{QueueConfig}
use Rattle.brd_config.specs.declared.objects.SpinLockConfig.{SpinLockConfig}
use Rattle.brd_config.specs.declared.objects.MutexConfig.{MutexConfig}
use Rattle.brd_config.specs.declared.objects.PoolConfig.{PoolConfig}
use Rattle.brd_config.specs.declared.objects.MailboxConfig.{MailboxConfig}
use Rattle.brd_config.specs.declared.objects.CyclicConfig.{CyclicConfig}
use Rattle.brd_config.specs.declared.objects.AlarmConfig.{AlarmConfig}
use Rattle.brd_config.specs.declared.objects.HandlerConfig.{HandlerConfig}
use Rattle.brd_config.specs.declared.statement.TaskStatement.{TaskStatement}
use Rattle.brd_config.specs.declared.statement.SemaphoreStatement.{SemaphoreStatement}
use Rattle.brd_config.specs.declared.statement.FlagStatement.{FlagStatement}
use Rattle.brd_config.specs.declared.statement.QueueStatement.{QueueStatement}
use Rattle.brd_config.specs.declared.statement.SpinLockStatement.{SpinLockStatement}
use Rattle.brd_config.specs.declared.statement.MutexStatement.{MutexStatement}
use Rattle.brd_config.specs.declared.statement.PoolStatement.{PoolStatement}
use Rattle.brd_config.specs.declared.statement.MailboxStatement.{MailboxStatement}
use Rattle.brd_config.specs.declared.statement.CyclicStatement.{CyclicStatement}
use Rattle.brd_config.specs.declared.statement.AlarmStatement.{AlarmStatement}
use Rattle.brd_config.specs.declared.statement.HandlerStatement.{HandlerStatement}
use Rattle.brd_config.specs.declared.statement.Statement.{Statement}
use Rattle.brd_config.specs.declared.statement.Statement.TheVariants.{Board, Class, ClassEnd, Task, Semaphore, Flag}
use Rattle.brd_config.specs.declared.statement.Statement.TheVariants.{Queue, SpinLock, Mutex, Pool, Mailbox}
use Rattle.brd_config.specs.declared.statement.Statement.TheVariants.{Cyclic, Alarm, Handler}
use Rattle.brd_config.specs.Statements.{board_at, statement_at}
use Rattle.brd_config.specs.declared.objects.Protocol.{Protocol}
use Rattle.brd_config.specs.declared.objects.Protocol.TheVariants as protocol
use Rattle.brd_config.specs.Configuration.{Configuration, least_ceiling, most_ticks}

-- ---- tests of values

-- n, which has to lie from low to high
unfoldable pub within : ℕ → ℕ → ConfigFault → ℕ → Result ℕ ConfigFault
within low high fault n = if nat_le low n && nat_le n high then Ok n else Err fault

-- bits, which have to be among those that are allowed
unfoldable pub only_bits : ℕ → ConfigFault → ℕ → Result ℕ ConfigFault
only_bits allowed fault bits = if bit_and bits allowed == bits then Ok bits else Err fault

-- a fault where the test holds
abbrev pub refused : Bool → ConfigFault → Result (Unit {0}) ConfigFault
refused test fault = if test then Err fault else Ok tt

-- `IsRamSize`, as a test
unfoldable pub is_ram_size : ℕ → Bool
is_ram_size ram = nat_le (2 ^ 16) ram && nat_le ram (2 ^ 24) && (ram % 2 ^ 16 == 0)

-- ---- what statements say

-- What statements have said so far, and the processor of the class in which the next one stands.
pub record State : Type 0 where
  pub config : Configuration
  pub class : Option ℕ

-- outside of classes, processor 1
abbrev pub processor_of : Option ℕ → ℕ
processor_of class = unwrap_or class 1

-- The ID, the attributes and the priority of a task, next to tasks that are defined. A stack of no bytes is refused.
unfoldable pub task_numbers : ℕ → List TaskConfig → TaskStatement → Result (ℕ × ℕ × ℕ) ConfigFault
task_numbers line tasks t = do
  id ← within 1 255 (BadId line) t.id
  new ← refused (list_any (λ other. other.id == t.id) tasks) (Duplicate line)
  attributes ← only_bits 3 (BadAttribute line) t.attributes
  priority ← within 1 16 (BadPriority line) t.priority
  stacked ← refused (t.stack_size == 0) (BadCount line)
  Ok (id, attributes, priority)

-- A task on this processor, next to tasks that are defined.
unfoldable pub task_of : ℕ → List TaskConfig → ℕ → TaskStatement → Result TaskConfig ConfigFault
task_of line tasks processor t = do
  numbers ← task_numbers line tasks t
  Ok (record {
    id = numbers.0;
    processor = processor;
    attributes = record { 0 = numbers.1 };
    exinf = t.exinf;
    address = t.address;
    priority = numbers.2;
    stack_size = t.stack_size;
    stack = t.stack;
  })

unfoldable pub semaphore_of : ℕ → List SemaphoreConfig → SemaphoreStatement → Result SemaphoreConfig ConfigFault
semaphore_of line semaphores s = do
  id ← within 1 255 (BadId line) s.id
  new ← refused (list_any (λ other. other.id == s.id) semaphores) (Duplicate line)
  attributes ← only_bits 1 (BadAttribute line) s.attributes
  maximum ← within 1 65535 (BadCount line) s.maximum
  initial ← within 0 s.maximum (BadCount line) s.initial
  Ok (record { id = id; attributes = record { 0 = attributes }; initial = initial; maximum = maximum })

unfoldable pub flag_of : ℕ → List FlagConfig → FlagStatement → Result FlagConfig ConfigFault
flag_of line flags f = do
  id ← within 1 255 (BadId line) f.id
  new ← refused (list_any (λ other. other.id == f.id) flags) (Duplicate line)
  attributes ← only_bits 7 (BadAttribute line) f.attributes
  Ok (record { id = id; attributes = record { 0 = attributes }; pattern = f.pattern })

unfoldable pub queue_of : ℕ → List QueueConfig → QueueStatement → Result QueueConfig ConfigFault
queue_of line queues q = do
  id ← within 1 255 (BadId line) q.id
  new ← refused (list_any (λ other. other.id == q.id) queues) (Duplicate line)
  attributes ← only_bits 1 (BadAttribute line) q.attributes
  capacity ← within 0 256 (BadCount line) q.capacity
  Ok (record { id = id; attributes = record { 0 = attributes }; capacity = capacity })

-- A spin lock has no attributes.
unfoldable pub spin_lock_of : ℕ → List SpinLockConfig → SpinLockStatement → Result SpinLockConfig ConfigFault
spin_lock_of line spin_locks s = do
  id ← within 1 255 (BadId line) s.id
  new ← refused (list_any (λ other. other.id == s.id) spin_locks) (Duplicate line)
  attributes ← only_bits 0 (BadAttribute line) s.attributes
  Ok (record { id = id })

-- what the attribute of a mutex stands for
abbrev pub meant_protocol : ℕ → Protocol
meant_protocol n =
    if n == 0 then protocol.Arrival
    else (if n == 1 then protocol.Priority else (if n == 2 then protocol.Inherit else protocol.Ceiling))

unfoldable pub mutex_of : ℕ → List MutexConfig → MutexStatement → Result MutexConfig ConfigFault
mutex_of line mutexes m = do
  id ← within 1 255 (BadId line) m.id
  new ← refused (list_any (λ other. other.id == m.id) mutexes) (Duplicate line)
  number ← within 0 3 (BadAttribute line) m.protocol
  ceiling ← within (least_ceiling (meant_protocol m.protocol)) 16 (BadPriority line) m.ceiling
  Ok (record { id = id; protocol = meant_protocol number; ceiling = ceiling })

-- A memory pool on a board with this much RAM.
unfoldable pub pool_of : ℕ → ℕ → List PoolConfig → PoolStatement → Result PoolConfig ConfigFault
pool_of line ram pools p = do
  id ← within 1 255 (BadId line) p.id
  new ← refused (list_any (λ other. other.id == p.id) pools) (Duplicate line)
  attributes ← only_bits 1 (BadAttribute line) p.attributes
  count ← within 1 256 (BadCount line) p.count
  size ← within 1 ram (BadCount line) p.size
  Ok (record { id = id; attributes = record { 0 = attributes }; count = count; size = size; area = p.area })

unfoldable pub mailbox_of : ℕ → List MailboxConfig → MailboxStatement → Result MailboxConfig ConfigFault
mailbox_of line mailboxes m = do
  id ← within 1 255 (BadId line) m.id
  new ← refused (list_any (λ other. other.id == m.id) mailboxes) (Duplicate line)
  attributes ← only_bits 3 (BadAttribute line) m.attributes
  priorities ← within 1 16 (BadPriority line) m.priorities
  Ok (record { id = id; attributes = record { 0 = attributes }; priorities = priorities })

-- A cyclic handler on this processor.
unfoldable pub cyclic_of : ℕ → List CyclicConfig → ℕ → CyclicStatement → Result CyclicConfig ConfigFault
cyclic_of line cyclics processor c = do
  id ← within 1 64 (BadId line) c.id
  new ← refused (list_any (λ other. other.id == c.id) cyclics) (Duplicate line)
  attributes ← only_bits 7 (BadAttribute line) c.attributes
  period ← within 1 most_ticks (BadCount line) c.period
  phase ← within 0 most_ticks (BadCount line) c.phase
  Ok (record {
    id = id;
    processor = processor;
    attributes = record { 0 = attributes };
    exinf = c.exinf;
    address = c.address;
    period = period;
    phase = phase;
  })

-- An alarm handler on this processor.
unfoldable pub alarm_of : ℕ → List AlarmConfig → ℕ → AlarmStatement → Result AlarmConfig ConfigFault
alarm_of line alarms processor a = do
  id ← within 1 64 (BadId line) a.id
  new ← refused (list_any (λ other. other.id == a.id) alarms) (Duplicate line)
  attributes ← only_bits 1 (BadAttribute line) a.attributes
  Ok (record { id = id; processor = processor; exinf = a.exinf; address = a.address })

-- A handler on this processor. Lines are the board's, so each has one handler.
unfoldable pub handler_of : ℕ → List HandlerConfig → ℕ → HandlerStatement → Result HandlerConfig ConfigFault
handler_of line handlers processor h = do
  number ← within 0 31 (BadId line) h.line
  new ← refused (list_any (λ other. other.line == h.line) handlers) (Duplicate line)
  attributes ← only_bits 1 (BadAttribute line) h.attributes
  Ok (record { line = number; processor = processor; address = h.address })

-- What BOARD says, with the profile or without.
unfoldable pub board_of : Bool → ℕ → ℕ → ℕ → Result Configuration ConfigFault
board_of standard line processors ram = do
  count ← within 1 8 (BadProcessor line) processors
  sized ← refused (not (is_ram_size ram)) (BadCount line)
  Ok (record {
    standard = standard;
    processors = count;
    ram = ram;
    tasks = [];
    semaphores = [];
    flags = [];
    queues = [];
    spin_locks = [];
    mutexes = [];
    pools = [];
    mailboxes = [];
    cyclics = [];
    alarms = [];
    handlers = [];
  })

-- What one more statement, which begins on this line, adds.
unfoldable pub added : ℕ → State → Statement → Result State ConfigFault
added line s (Board processors ram) = do
  count ← within 1 8 (BadProcessor line) processors
  Err (Duplicate line)
added line s (Class n) = do
  processor ← within 1 s.config.processors (BadProcessor line) n
  Ok (record s { class = Some processor })
added line s ClassEnd = Ok (record s { class = None })
added line s (Task t) = do
  task ← task_of line s.config.tasks (processor_of s.class) t
  Ok (record s { config = record s.config { tasks = s.config.tasks ++ task ∷ [] } })
added line s (Semaphore x) = do
  semaphore ← semaphore_of line s.config.semaphores x
  Ok (record s { config = record s.config { semaphores = s.config.semaphores ++ semaphore ∷ [] } })
added line s (Flag x) = do
  flag ← flag_of line s.config.flags x
  Ok (record s { config = record s.config { flags = s.config.flags ++ flag ∷ [] } })
added line s (Queue x) = do
  queue ← queue_of line s.config.queues x
  Ok (record s { config = record s.config { queues = s.config.queues ++ queue ∷ [] } })
added line s (SpinLock x) = do
  spin_lock ← spin_lock_of line s.config.spin_locks x
  Ok (record s { config = record s.config { spin_locks = s.config.spin_locks ++ spin_lock ∷ [] } })
added line s (Mutex x) = do
  mutex ← mutex_of line s.config.mutexes x
  Ok (record s { config = record s.config { mutexes = s.config.mutexes ++ mutex ∷ [] } })
added line s (Pool x) = do
  pool ← pool_of line s.config.ram s.config.pools x
  Ok (record s { config = record s.config { pools = s.config.pools ++ pool ∷ [] } })
added line s (Mailbox x) = do
  mailbox ← mailbox_of line s.config.mailboxes x
  Ok (record s { config = record s.config { mailboxes = s.config.mailboxes ++ mailbox ∷ [] } })
added line s (Cyclic x) = do
  cyclic ← cyclic_of line s.config.cyclics (processor_of s.class) x
  Ok (record s { config = record s.config { cyclics = s.config.cyclics ++ cyclic ∷ [] } })
added line s (Alarm x) = do
  alarm ← alarm_of line s.config.alarms (processor_of s.class) x
  Ok (record s { config = record s.config { alarms = s.config.alarms ++ alarm ∷ [] } })
added line s (Handler x) = do
  handler ← handler_of line s.config.handlers (processor_of s.class) x
  Ok (record s { config = record s.config { handlers = s.config.handlers ++ handler ∷ [] } })

-- ---- the text

abbrev pub is_end : Token → Bool
is_end (Run run) = false
is_end (Mark b) = false
is_end Unclosed = false
is_end End = true

-- one more statement, which is read and says something
unfoldable pub one_more : State × Text → Result (Flow (State × Text) Configuration) ConfigFault
one_more x = do
  read ← statement_at x.0.config.standard (is_some x.0.class) x.1
  next ← added (first x.1).line x.0 read.0
  Ok (More (next, read.1))

-- The text ends between statements, outside of classes, or one more statement stands there.
unfoldable pub statement_step : State × Text → Result (Flow (State × Text) Configuration) ConfigFault
statement_step x = if is_none x.0.class && is_end (first x.1).token then Ok (Done x.0.config) else one_more x

-- the statements up to the end of the text
unfoldable pub statements_from : State × Text → Result Configuration ConfigFault
statements_from x = repeated NoMemory statement_step (suc (length x.1.tokens)) x

-- a token is this word, or this mark

abbrev pub is_word : List ℕ → Token → Bool
is_word word (Run run) = bytes_eq run word
is_word word (Mark b) = false
is_word word Unclosed = false
is_word word End = false

abbrev pub is_mark : ℕ → Token → Bool
is_mark mark (Run run) = false
is_mark mark (Mark b) = b == mark
is_mark mark Unclosed = false
is_mark mark End = false

abbrev pub is_board : Token → Bool
is_board token = is_word (codes "BOARD") token

-- BOARD(processors, ram); after its first token, which stands on this line
unfoldable pub first_board : Bool → ℕ → Text → Result (State × Text) ConfigFault
first_board standard line t = do
  board ← board_at t
  config ← board_of standard line board.0 board.1
  Ok (record { config = config; class = None }, board.2)

-- The first statement is BOARD, but for the profile.
unfoldable pub first_statement : Bool → Text → Result (State × Text) ConfigFault
first_statement standard t =
    if is_board (first t).token then first_board standard (first t).line (others t) else Err (Syntax (first t).line)

-- a text from BOARD on, with the profile or without
unfoldable pub config_from : Bool × Text → Result Configuration ConfigFault
config_from x = first_statement x.0 x.1 >>= statements_from

-- what a text says, or its first fault, where no text asks for the profile
abbrev pub plain_config_of : List ℕ → Result Configuration ConfigFault
plain_config_of bytes = config_from (false, tokens_of bytes)

-- the text after its first five tokens
abbrev pub behind_profile : Text → Text
behind_profile t = others (others (others (others (others t))))

-- PROFILE(STANDARD); stands at the front.
unfoldable pub has_profile : Text → Bool
has_profile t =
    is_word (codes "PROFILE") (first t).token && is_mark 40 (first (others t)).token
    && is_word (codes "STANDARD") (first (others (others t))).token
    && is_mark 41 (first (others (others (others t)))).token
    && is_mark 59 (first (others (others (others (others t))))).token

-- Whether a text asks for the profile, and the text from BOARD on. If PROFILE has any other form, it is no statement.
unfoldable pub opened : Text → Bool × Text
opened t = if has_profile t then (true, behind_profile t) else (false, t)

-- what a text says, or its first fault
unfoldable pub config_of : List ℕ → Result Configuration ConfigFault
config_of bytes = config_from (opened (tokens_of bytes))
