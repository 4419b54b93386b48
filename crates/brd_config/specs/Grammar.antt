-- The language as a grammar, apart from how it is read: the form of each statement, which tokens spell a form, and what
-- configuration a list of statements says.
use Rattle.std.specs.Prelude.{◌≡◌, ℕ, ◌≤◌, Bool, true, false, List, [], ◌∷◌, ◌++◌, Option, Some, None, codes}
use Rattle.std.specs.List.{flat_map}
use Rattle.std.specs.Int.RustNames.{bit_or}
use Rattle.brd_text.specs.Tokens.{Token}
use Rattle.brd_text.specs.Tokens.Token.{Run, Mark}
use Rattle.brd_text.specs.Numbers.{number_of}
use Rattle.brd_text.specs.Spelling.{Spells}
use Rattle.brd_config.specs.declared.objects.Operand.{Operand}
use Rattle.brd_config.specs.declared.objects.Stack.{Stack}
use Rattle.brd_config.specs.declared.objects.TaskConfig.{TaskConfig}
use Rattle.brd_config.specs.declared.objects.SemaphoreConfig.{SemaphoreConfig}
use Rattle.brd_config.specs.declared.objects.FlagConfig.{FlagConfig}
use Rattle.brd_config.specs.declared.objects.QueueConfig.{QueueConfig}
use Rattle.brd_config.specs.declared.objects.SpinLockConfig.{SpinLockConfig}
use Rattle.brd_config.specs.declared.objects.MutexConfig.{MutexConfig}
use Rattle.brd_config.specs.declared.objects.PoolConfig.{PoolConfig}
use Rattle.brd_config.specs.declared.objects.MailboxConfig.{MailboxConfig}
use Rattle.brd_config.specs.declared.objects.CyclicConfig.{CyclicConfig}
use Rattle.brd_config.specs.declared.objects.AlarmConfig.{AlarmConfig}
use Rattle.brd_config.specs.declared.objects.HandlerConfig.{HandlerConfig}
use Rattle.brd_config.specs.declared.statement.AttributeNames.{AttributeNames}
use Rattle.brd_config.specs.declared.statement.AttributeNames.TheVariants as named
use Rattle.brd_config.specs.declared.statement.Statement.{Statement}
use Rattle.brd_config.specs.declared.statement.Statement.TheVariants.{Board, Class, ClassEnd, Task, Semaphore, Flag}
use Rattle.brd_config.specs.declared.statement.Statement.TheVariants.{Queue, SpinLock, Mutex, Pool, Mailbox}
use Rattle.brd_config.specs.declared.statement.Statement.TheVariants.{Cyclic, Alarm, Handler}
use Rattle.brd_config.specs.declared.statement.TaskStatement.{TaskStatement}
use Rattle.brd_config.specs.declared.statement.SemaphoreStatement.{SemaphoreStatement}
use Rattle.brd_config.specs.declared.statement.FlagStatement.{FlagStatement}
use Rattle.brd_config.specs.declared.statement.QueueStatement.{QueueStatement}
use Rattle.brd_config.specs.declared.statement.SpinLockStatement.{SpinLockStatement}
use Rattle.brd_config.specs.declared.statement.MutexStatement.{MutexStatement}
use Rattle.brd_config.specs.declared.statement.PoolStatement.{PoolStatement}
use Rattle.brd_config.specs.declared.statement.MailboxStatement.{MailboxStatement}
use Rattle.brd_config.specs.declared.statement.CyclicStatement.{CyclicStatement}
use Rattle.brd_config.specs.declared.statement.AlarmStatement.{AlarmStatement}
use Rattle.brd_config.specs.declared.statement.HandlerStatement.{HandlerStatement}
use Rattle.brd_config.specs.Reading.{attribute_of, class_of, protocol_of, operand_of, stack_of, is_area}
use Rattle.brd_config.specs.Configuration.{Configuration, IsWithin, IsConfiguration}
use Rattle.brd_config.specs.Meaning.{processor_of, meant_protocol}

-- ---- tokens

-- A piece of a statement: a token that stands for itself, a mark, or tokens for a value.
pub data Piece : Type 0 where
  Exactly : List ℕ → Piece
  Sign : ℕ → Piece
  Numeral : ℕ → Piece
  Attributes : AttributeNames → ℕ → Piece
  Value : Operand → Piece
  StackValue : Stack → Piece
  Area : Piece
  ClassName : ℕ → Piece
  Protocol : ℕ → Piece

-- Attributes of these names with bars between them, whose bits are joined to those before them and come to all of them.
pub data Joined : AttributeNames → ℕ → ℕ → List Token → Type 0 where
  last : (names : AttributeNames) (before : ℕ) (run : List ℕ) (bits : ℕ) → attribute_of names run ≡ Some bits →
      Joined names before (bit_or before bits) (Run run ∷ [])
  bar : (names : AttributeNames) (before : ℕ) (run : List ℕ) (bits all : ℕ) (tokens : List Token) →
      attribute_of names run ≡ Some bits → Joined names (bit_or before bits) all tokens →
      Joined names before all (Run run ∷ Mark 124 ∷ tokens)

-- one run, of which this is true
abbrev pub OneRun : (List ℕ → Type 0) → List Token → Type 0
OneRun P tokens = (run : List ℕ) × (tokens ≡ Run run ∷ []) × P run

abbrev pub IsSpelled : Piece → List Token → Type 0
IsSpelled (Exactly bytes) tokens = tokens ≡ Run bytes ∷ []
IsSpelled (Sign b) tokens = tokens ≡ Mark b ∷ []
IsSpelled (Numeral n) tokens = OneRun (λ run. number_of run ≡ Some n) tokens
IsSpelled (Attributes names bits) tokens = Joined names 0 bits tokens
IsSpelled (Value v) tokens = OneRun (λ run. operand_of run ≡ Some v) tokens
IsSpelled (StackValue v) tokens = OneRun (λ run. stack_of run ≡ Some v) tokens
IsSpelled Area tokens = OneRun (λ run. is_area run ≡ true) tokens
IsSpelled (ClassName n) tokens = OneRun (λ run. class_of run ≡ Some n) tokens
IsSpelled (Protocol n) tokens = OneRun (λ run. protocol_of run ≡ Some n) tokens

-- one piece after the other
abbrev pub AreSpelled : List Piece → List Token → Type 0
AreSpelled [] tokens = tokens ≡ []
AreSpelled (p ∷ ps) tokens =
    (front : List Token) × (rest : List Token) × IsSpelled p front × AreSpelled ps rest × (tokens ≡ front ++ rest)

-- ---- forms

-- ( id , { attributes , .. } ) ;
abbrev pub object : List ℕ → ℕ → ℕ → List Piece → List Piece
object keyword id attributes fields =
    Exactly keyword ∷ Sign 40 ∷ Numeral id ∷ Sign 44 ∷ Sign 123 ∷ Attributes named.Common attributes ∷ Sign 44
    ∷ (fields ++ Sign 125 ∷ Sign 41 ∷ Sign 59 ∷ [])

abbrev pub form : Statement → List Piece
form (Board processors ram) =
    Exactly (codes "BOARD") ∷ Sign 40 ∷ Numeral processors ∷ Sign 44 ∷ Numeral ram ∷ Sign 41 ∷ Sign 59 ∷ []
form (Class n) = Exactly (codes "CLASS") ∷ Sign 40 ∷ ClassName n ∷ Sign 41 ∷ Sign 123 ∷ []
form ClassEnd = Sign 125 ∷ []
form (Task t) =
    object (codes "CRE_TSK") t.id t.attributes
    (Value t.exinf ∷ Sign 44 ∷ Value t.address ∷ Sign 44 ∷ Numeral t.priority ∷ Sign 44 ∷ Numeral t.stack_size ∷ Sign 44
    ∷ StackValue t.stack ∷ [])
form (Semaphore s) = object (codes "CRE_SEM") s.id s.attributes (Numeral s.initial ∷ Sign 44 ∷ Numeral s.maximum ∷ [])
form (Flag f) = object (codes "CRE_FLG") f.id f.attributes (Numeral f.pattern ∷ [])
form (Queue q) = object (codes "CRE_DTQ") q.id q.attributes (Numeral q.capacity ∷ Sign 44 ∷ Area ∷ [])
form (SpinLock s) =
    Exactly (codes "CRE_SPN") ∷ Sign 40 ∷ Numeral s.id ∷ Sign 44 ∷ Sign 123 ∷ Attributes named.Common s.attributes
    ∷ Sign 125 ∷ Sign 41 ∷ Sign 59 ∷ []
form (Mutex m) =
    Exactly (codes "CRE_MTX") ∷ Sign 40 ∷ Numeral m.id ∷ Sign 44 ∷ Sign 123 ∷ Protocol m.protocol ∷ Sign 44
    ∷ Numeral m.ceiling ∷ Sign 125 ∷ Sign 41 ∷ Sign 59 ∷ []
form (Pool p) =
    object (codes "CRE_MPF") p.id p.attributes
    (Numeral p.count ∷ Sign 44 ∷ Numeral p.size ∷ Sign 44 ∷ StackValue p.area ∷ [])
form (Mailbox m) =
    Exactly (codes "CRE_MBX") ∷ Sign 40 ∷ Numeral m.id ∷ Sign 44 ∷ Sign 123 ∷ Attributes named.Mailbox m.attributes
    ∷ Sign 44 ∷ Numeral m.priorities ∷ Sign 44 ∷ Exactly (codes "NULL") ∷ Sign 125 ∷ Sign 41 ∷ Sign 59 ∷ []
form (Cyclic c) =
    Exactly (codes "CRE_CYC") ∷ Sign 40 ∷ Numeral c.id ∷ Sign 44 ∷ Sign 123 ∷ Attributes named.Cyclic c.attributes
    ∷ Sign 44 ∷ Value c.exinf ∷ Sign 44 ∷ Value c.address ∷ Sign 44 ∷ Numeral c.period ∷ Sign 44 ∷ Numeral c.phase
    ∷ Sign 125 ∷ Sign 41 ∷ Sign 59 ∷ []
form (Alarm a) = object (codes "CRE_ALM") a.id a.attributes (Value a.exinf ∷ Sign 44 ∷ Value a.address ∷ [])
form (Handler h) = object (codes "DEF_INH") h.line h.attributes (Value h.address ∷ [])

-- what stands before all statements where the profile is asked for
abbrev pub profile_form : Bool → List Piece
profile_form true =
    Exactly (codes "PROFILE") ∷ Sign 40 ∷ Exactly (codes "STANDARD") ∷ Sign 41 ∷ Sign 59 ∷ []
profile_form false = []

-- The bytes spell the profile, if it is asked for, and the statements, in their forms.
abbrev pub IsText : List ℕ → Bool → List Statement → Type 0
IsText bytes standard statements =
    (tokens : List Token) × Spells bytes tokens
    × AreSpelled (profile_form standard ++ flat_map form statements) tokens

-- ---- what statements say

-- what a statement says of its object
abbrev pub task_said : ℕ → TaskStatement → TaskConfig
task_said processor t =
    record {
      id = t.id;
      processor = processor;
      attributes = record { 0 = t.attributes };
      exinf = t.exinf;
      address = t.address;
      priority = t.priority;
      stack_size = t.stack_size;
      stack = t.stack;
    }

abbrev pub semaphore_said : SemaphoreStatement → SemaphoreConfig
semaphore_said s =
    record { id = s.id; attributes = record { 0 = s.attributes }; initial = s.initial; maximum = s.maximum }

abbrev pub flag_said : FlagStatement → FlagConfig
flag_said f = record { id = f.id; attributes = record { 0 = f.attributes }; pattern = f.pattern }

abbrev pub queue_said : QueueStatement → QueueConfig
queue_said q = record { id = q.id; attributes = record { 0 = q.attributes }; capacity = q.capacity }

abbrev pub spin_lock_said : SpinLockStatement → SpinLockConfig
spin_lock_said s = record { id = s.id }

abbrev pub mutex_said : MutexStatement → MutexConfig
mutex_said m = record { id = m.id; protocol = meant_protocol m.protocol; ceiling = m.ceiling }

abbrev pub pool_said : PoolStatement → PoolConfig
pool_said p =
    record { id = p.id; attributes = record { 0 = p.attributes }; count = p.count; size = p.size; area = p.area }

abbrev pub mailbox_said : MailboxStatement → MailboxConfig
mailbox_said m = record { id = m.id; attributes = record { 0 = m.attributes }; priorities = m.priorities }

abbrev pub cyclic_said : ℕ → CyclicStatement → CyclicConfig
cyclic_said processor c =
    record {
      id = c.id;
      processor = processor;
      attributes = record { 0 = c.attributes };
      exinf = c.exinf;
      address = c.address;
      period = c.period;
      phase = c.phase;
    }

abbrev pub alarm_said : ℕ → AlarmStatement → AlarmConfig
alarm_said processor a = record { id = a.id; processor = processor; exinf = a.exinf; address = a.address }

abbrev pub handler_said : ℕ → HandlerStatement → HandlerConfig
handler_said processor h = record { line = h.line; processor = processor; address = h.address }

-- The tasks of statements that stand in this class, in their order.
abbrev pub tasks_of : Option ℕ → List Statement → List TaskConfig
tasks_of class [] = []
tasks_of class (Board processors ram ∷ ss) = tasks_of class ss
tasks_of class (Class n ∷ ss) = tasks_of (Some n) ss
tasks_of class (ClassEnd ∷ ss) = tasks_of None ss
tasks_of class (Task t ∷ ss) = task_said (processor_of class) t ∷ tasks_of class ss
tasks_of class (Semaphore s ∷ ss) = tasks_of class ss
tasks_of class (Flag f ∷ ss) = tasks_of class ss
tasks_of class (Queue q ∷ ss) = tasks_of class ss
tasks_of class (SpinLock s ∷ ss) = tasks_of class ss
tasks_of class (Mutex s ∷ ss) = tasks_of class ss
tasks_of class (Pool p ∷ ss) = tasks_of class ss
tasks_of class (Mailbox m ∷ ss) = tasks_of class ss
tasks_of class (Cyclic c ∷ ss) = tasks_of class ss
tasks_of class (Alarm a ∷ ss) = tasks_of class ss
tasks_of class (Handler h ∷ ss) = tasks_of class ss

abbrev pub semaphores_of : List Statement → List SemaphoreConfig
semaphores_of [] = []
semaphores_of (Board processors ram ∷ ss) = semaphores_of ss
semaphores_of (Class n ∷ ss) = semaphores_of ss
semaphores_of (ClassEnd ∷ ss) = semaphores_of ss
semaphores_of (Task t ∷ ss) = semaphores_of ss
semaphores_of (Semaphore s ∷ ss) = semaphore_said s ∷ semaphores_of ss
semaphores_of (Flag f ∷ ss) = semaphores_of ss
semaphores_of (Queue q ∷ ss) = semaphores_of ss
semaphores_of (SpinLock s ∷ ss) = semaphores_of ss
semaphores_of (Mutex s ∷ ss) = semaphores_of ss
semaphores_of (Pool p ∷ ss) = semaphores_of ss
semaphores_of (Mailbox m ∷ ss) = semaphores_of ss
semaphores_of (Cyclic c ∷ ss) = semaphores_of ss
semaphores_of (Alarm a ∷ ss) = semaphores_of ss
semaphores_of (Handler h ∷ ss) = semaphores_of ss

abbrev pub flags_of : List Statement → List FlagConfig
flags_of [] = []
flags_of (Board processors ram ∷ ss) = flags_of ss
flags_of (Class n ∷ ss) = flags_of ss
flags_of (ClassEnd ∷ ss) = flags_of ss
flags_of (Task t ∷ ss) = flags_of ss
flags_of (Semaphore s ∷ ss) = flags_of ss
flags_of (Flag f ∷ ss) = flag_said f ∷ flags_of ss
flags_of (Queue q ∷ ss) = flags_of ss
flags_of (SpinLock s ∷ ss) = flags_of ss
flags_of (Mutex s ∷ ss) = flags_of ss
flags_of (Pool p ∷ ss) = flags_of ss
flags_of (Mailbox m ∷ ss) = flags_of ss
flags_of (Cyclic c ∷ ss) = flags_of ss
flags_of (Alarm a ∷ ss) = flags_of ss
flags_of (Handler h ∷ ss) = flags_of ss

abbrev pub queues_of : List Statement → List QueueConfig
queues_of [] = []
queues_of (Board processors ram ∷ ss) = queues_of ss
queues_of (Class n ∷ ss) = queues_of ss
queues_of (ClassEnd ∷ ss) = queues_of ss
queues_of (Task t ∷ ss) = queues_of ss
queues_of (Semaphore s ∷ ss) = queues_of ss
queues_of (Flag f ∷ ss) = queues_of ss
queues_of (Queue q ∷ ss) = queue_said q ∷ queues_of ss
queues_of (SpinLock s ∷ ss) = queues_of ss
queues_of (Mutex s ∷ ss) = queues_of ss
queues_of (Pool p ∷ ss) = queues_of ss
queues_of (Mailbox m ∷ ss) = queues_of ss
queues_of (Cyclic c ∷ ss) = queues_of ss
queues_of (Alarm a ∷ ss) = queues_of ss
queues_of (Handler h ∷ ss) = queues_of ss

abbrev pub spin_locks_of : List Statement → List SpinLockConfig
spin_locks_of [] = []
spin_locks_of (Board processors ram ∷ ss) = spin_locks_of ss
spin_locks_of (Class n ∷ ss) = spin_locks_of ss
spin_locks_of (ClassEnd ∷ ss) = spin_locks_of ss
spin_locks_of (Task t ∷ ss) = spin_locks_of ss
spin_locks_of (Semaphore s ∷ ss) = spin_locks_of ss
spin_locks_of (Flag f ∷ ss) = spin_locks_of ss
spin_locks_of (Queue q ∷ ss) = spin_locks_of ss
spin_locks_of (SpinLock s ∷ ss) = spin_lock_said s ∷ spin_locks_of ss
spin_locks_of (Mutex s ∷ ss) = spin_locks_of ss
spin_locks_of (Pool p ∷ ss) = spin_locks_of ss
spin_locks_of (Mailbox m ∷ ss) = spin_locks_of ss
spin_locks_of (Cyclic c ∷ ss) = spin_locks_of ss
spin_locks_of (Alarm a ∷ ss) = spin_locks_of ss
spin_locks_of (Handler h ∷ ss) = spin_locks_of ss

abbrev pub mutexes_of : List Statement → List MutexConfig
mutexes_of [] = []
mutexes_of (Board processors ram ∷ ss) = mutexes_of ss
mutexes_of (Class n ∷ ss) = mutexes_of ss
mutexes_of (ClassEnd ∷ ss) = mutexes_of ss
mutexes_of (Task t ∷ ss) = mutexes_of ss
mutexes_of (Semaphore s ∷ ss) = mutexes_of ss
mutexes_of (Flag f ∷ ss) = mutexes_of ss
mutexes_of (Queue q ∷ ss) = mutexes_of ss
mutexes_of (SpinLock s ∷ ss) = mutexes_of ss
mutexes_of (Mutex s ∷ ss) = mutex_said s ∷ mutexes_of ss
mutexes_of (Pool p ∷ ss) = mutexes_of ss
mutexes_of (Mailbox m ∷ ss) = mutexes_of ss
mutexes_of (Cyclic c ∷ ss) = mutexes_of ss
mutexes_of (Alarm a ∷ ss) = mutexes_of ss
mutexes_of (Handler h ∷ ss) = mutexes_of ss

abbrev pub pools_of : List Statement → List PoolConfig
pools_of [] = []
pools_of (Board processors ram ∷ ss) = pools_of ss
pools_of (Class n ∷ ss) = pools_of ss
pools_of (ClassEnd ∷ ss) = pools_of ss
pools_of (Task t ∷ ss) = pools_of ss
pools_of (Semaphore s ∷ ss) = pools_of ss
pools_of (Flag f ∷ ss) = pools_of ss
pools_of (Queue q ∷ ss) = pools_of ss
pools_of (SpinLock s ∷ ss) = pools_of ss
pools_of (Mutex s ∷ ss) = pools_of ss
pools_of (Pool p ∷ ss) = pool_said p ∷ pools_of ss
pools_of (Mailbox m ∷ ss) = pools_of ss
pools_of (Cyclic c ∷ ss) = pools_of ss
pools_of (Alarm a ∷ ss) = pools_of ss
pools_of (Handler h ∷ ss) = pools_of ss

abbrev pub mailboxes_of : List Statement → List MailboxConfig
mailboxes_of [] = []
mailboxes_of (Board processors ram ∷ ss) = mailboxes_of ss
mailboxes_of (Class n ∷ ss) = mailboxes_of ss
mailboxes_of (ClassEnd ∷ ss) = mailboxes_of ss
mailboxes_of (Task t ∷ ss) = mailboxes_of ss
mailboxes_of (Semaphore s ∷ ss) = mailboxes_of ss
mailboxes_of (Flag f ∷ ss) = mailboxes_of ss
mailboxes_of (Queue q ∷ ss) = mailboxes_of ss
mailboxes_of (SpinLock s ∷ ss) = mailboxes_of ss
mailboxes_of (Mutex s ∷ ss) = mailboxes_of ss
mailboxes_of (Pool p ∷ ss) = mailboxes_of ss
mailboxes_of (Mailbox m ∷ ss) = mailbox_said m ∷ mailboxes_of ss
mailboxes_of (Cyclic c ∷ ss) = mailboxes_of ss
mailboxes_of (Alarm a ∷ ss) = mailboxes_of ss
mailboxes_of (Handler h ∷ ss) = mailboxes_of ss

abbrev pub cyclics_of : Option ℕ → List Statement → List CyclicConfig
cyclics_of class [] = []
cyclics_of class (Board processors ram ∷ ss) = cyclics_of class ss
cyclics_of class (Class n ∷ ss) = cyclics_of (Some n) ss
cyclics_of class (ClassEnd ∷ ss) = cyclics_of None ss
cyclics_of class (Task t ∷ ss) = cyclics_of class ss
cyclics_of class (Semaphore s ∷ ss) = cyclics_of class ss
cyclics_of class (Flag f ∷ ss) = cyclics_of class ss
cyclics_of class (Queue q ∷ ss) = cyclics_of class ss
cyclics_of class (SpinLock s ∷ ss) = cyclics_of class ss
cyclics_of class (Mutex s ∷ ss) = cyclics_of class ss
cyclics_of class (Pool p ∷ ss) = cyclics_of class ss
cyclics_of class (Mailbox m ∷ ss) = cyclics_of class ss
cyclics_of class (Cyclic c ∷ ss) = cyclic_said (processor_of class) c ∷ cyclics_of class ss
cyclics_of class (Alarm a ∷ ss) = cyclics_of class ss
cyclics_of class (Handler h ∷ ss) = cyclics_of class ss

abbrev pub alarms_of : Option ℕ → List Statement → List AlarmConfig
alarms_of class [] = []
alarms_of class (Board processors ram ∷ ss) = alarms_of class ss
alarms_of class (Class n ∷ ss) = alarms_of (Some n) ss
alarms_of class (ClassEnd ∷ ss) = alarms_of None ss
alarms_of class (Task t ∷ ss) = alarms_of class ss
alarms_of class (Semaphore s ∷ ss) = alarms_of class ss
alarms_of class (Flag f ∷ ss) = alarms_of class ss
alarms_of class (Queue q ∷ ss) = alarms_of class ss
alarms_of class (SpinLock s ∷ ss) = alarms_of class ss
alarms_of class (Mutex s ∷ ss) = alarms_of class ss
alarms_of class (Pool p ∷ ss) = alarms_of class ss
alarms_of class (Mailbox m ∷ ss) = alarms_of class ss
alarms_of class (Cyclic c ∷ ss) = alarms_of class ss
alarms_of class (Alarm a ∷ ss) = alarm_said (processor_of class) a ∷ alarms_of class ss
alarms_of class (Handler h ∷ ss) = alarms_of class ss

abbrev pub handlers_of : Option ℕ → List Statement → List HandlerConfig
handlers_of class [] = []
handlers_of class (Board processors ram ∷ ss) = handlers_of class ss
handlers_of class (Class n ∷ ss) = handlers_of (Some n) ss
handlers_of class (ClassEnd ∷ ss) = handlers_of None ss
handlers_of class (Task t ∷ ss) = handlers_of class ss
handlers_of class (Semaphore s ∷ ss) = handlers_of class ss
handlers_of class (Flag f ∷ ss) = handlers_of class ss
handlers_of class (Queue q ∷ ss) = handlers_of class ss
handlers_of class (SpinLock s ∷ ss) = handlers_of class ss
handlers_of class (Mutex s ∷ ss) = handlers_of class ss
handlers_of class (Pool p ∷ ss) = handlers_of class ss
handlers_of class (Mailbox m ∷ ss) = handlers_of class ss
handlers_of class (Cyclic c ∷ ss) = handlers_of class ss
handlers_of class (Alarm a ∷ ss) = handlers_of class ss
handlers_of class (Handler h ∷ ss) = handler_said (processor_of class) h ∷ handlers_of class ss

-- the configuration of a board and the statements after it, whatever their values
abbrev pub said : Bool → ℕ → ℕ → List Statement → Configuration
said standard processors ram ss =
    record {
      standard = standard;
      processors = processors;
      ram = ram;
      tasks = tasks_of None ss;
      semaphores = semaphores_of ss;
      flags = flags_of ss;
      queues = queues_of ss;
      spin_locks = spin_locks_of ss;
      mutexes = mutexes_of ss;
      pools = pools_of ss;
      mailboxes = mailboxes_of ss;
      cyclics = cyclics_of None ss;
      alarms = alarms_of None ss;
      handlers = handlers_of None ss;
    }

abbrev pub IsOutside : Option ℕ → Type 0
IsOutside None = Unit {0}
IsOutside (Some n) = ⊥

abbrev pub IsInside : Option ℕ → Type 0
IsInside None = ⊥
IsInside (Some n) = Unit {0}

-- Statements after BOARD, of which the first stands in this class: each class names a processor of the board and is
-- closed again, no class is in a class, BOARD does not come again, a spin lock has no attribute bits, a handler and an
-- alarm handler none but the lowest, and a mutex one of four; mutexes, memory pools, mailboxes, cyclic handlers and
-- alarm handlers stand in the profile alone.
-- (The other limits are those of the configuration.)
abbrev pub AreNested : Bool → ℕ → Option ℕ → List Statement → Type 0
AreNested standard processors class [] = IsOutside class
AreNested standard processors class (Board p ram ∷ ss) = ⊥
AreNested standard processors class (Class n ∷ ss) =
    IsOutside class × IsWithin 1 processors n × AreNested standard processors (Some n) ss
AreNested standard processors class (ClassEnd ∷ ss) = IsInside class × AreNested standard processors None ss
AreNested standard processors class (Task t ∷ ss) = AreNested standard processors class ss
AreNested standard processors class (Semaphore s ∷ ss) = AreNested standard processors class ss
AreNested standard processors class (Flag f ∷ ss) = AreNested standard processors class ss
AreNested standard processors class (Queue q ∷ ss) = AreNested standard processors class ss
AreNested standard processors class (SpinLock s ∷ ss) = (s.attributes ≡ 0) × AreNested standard processors class ss
AreNested standard processors class (Mutex m ∷ ss) =
    (standard ≡ true) × (m.protocol ≤ 3) × AreNested standard processors class ss
AreNested standard processors class (Pool p ∷ ss) = (standard ≡ true) × AreNested standard processors class ss
AreNested standard processors class (Mailbox m ∷ ss) = (standard ≡ true) × AreNested standard processors class ss
AreNested standard processors class (Cyclic c ∷ ss) = (standard ≡ true) × AreNested standard processors class ss
AreNested standard processors class (Alarm a ∷ ss) =
    (standard ≡ true) × (a.attributes ≤ 1) × AreNested standard processors class ss
AreNested standard processors class (Handler h ∷ ss) = (h.attributes ≤ 1) × AreNested standard processors class ss

-- Statements that are valid: well nested, and what they say is a configuration.
pub record AreValid (standard : Bool) (processors ram : ℕ) (ss : List Statement) : Type 0 where
  pub nested : AreNested standard processors None ss
  pub values : IsConfiguration (said standard processors ram ss)

-- The text is that of valid statements, BOARD first but for the profile, and this is what they say.
abbrev pub Says : List ℕ → Configuration → Type 0
Says bytes c =
    (standard : Bool) × (processors : ℕ) × (ram : ℕ) × (ss : List Statement)
    × IsText bytes standard (Board processors ram ∷ ss) × AreValid standard processors ram ss
    × (c ≡ said standard processors ram ss)
