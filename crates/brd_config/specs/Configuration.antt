-- A configuration, and what is one: the limits of each value, and IDs that are distinct.
use Rattle.std.specs.Prelude.{◌≢◌, ℕ, ◌≤◌, Bool, List, All, AllPairs}
use Rattle.brd_base.specs.Space.{IsRamSize}
use Rattle.brd_config.specs.declared.objects.TaskConfig.{TaskConfig}
use Rattle.brd_config.specs.declared.objects.SemaphoreConfig.{SemaphoreConfig}
use Rattle.brd_config.specs.declared.objects.FlagConfig.{FlagConfig}
use Rattle.brd_config.specs.declared.objects.QueueConfig.{QueueConfig}
use Rattle.brd_config.specs.declared.objects.SpinLockConfig.{SpinLockConfig}
use Rattle.brd_config.specs.declared.objects.MutexConfig.{MutexConfig}
use Rattle.brd_config.specs.declared.objects.Protocol.{Protocol}
use Rattle.brd_config.specs.declared.objects.Protocol.TheVariants as protocol
use Rattle.brd_config.specs.declared.objects.PoolConfig.{PoolConfig}
use Rattle.brd_config.specs.declared.objects.MailboxConfig.{MailboxConfig}
use Rattle.brd_config.specs.declared.objects.CyclicConfig.{CyclicConfig}
use Rattle.brd_config.specs.declared.objects.AlarmConfig.{AlarmConfig}
use Rattle.brd_config.specs.declared.objects.HandlerConfig.{HandlerConfig}

-- whether the kernel has the profile PROFILE(STANDARD), and the objects of each kind in the order of their statements
pub record Configuration : Type 0 where
  pub standard : Bool
  pub processors : ℕ
  pub ram : ℕ
  pub tasks : List TaskConfig
  pub semaphores : List SemaphoreConfig
  pub flags : List FlagConfig
  pub queues : List QueueConfig
  pub spin_locks : List SpinLockConfig
  pub mutexes : List MutexConfig
  pub pools : List PoolConfig
  pub mailboxes : List MailboxConfig
  pub cyclics : List CyclicConfig
  pub alarms : List AlarmConfig
  pub handlers : List HandlerConfig

-- from low to high
pub record IsWithin (low high n : ℕ) : Type 0 where
  pub least : low ≤ n
  pub most : n ≤ high

pub record IsTask (processors : ℕ) (t : TaskConfig) : Type 0 where
  pub id : IsWithin 1 255 t.id
  pub processor : IsWithin 1 processors t.processor
  pub attributes : t.attributes.0 ≤ 3
  pub priority : IsWithin 1 16 t.priority
  pub stack_size : 1 ≤ t.stack_size

pub record IsSemaphore (s : SemaphoreConfig) : Type 0 where
  pub id : IsWithin 1 255 s.id
  pub attributes : s.attributes.0 ≤ 1
  pub initial : s.initial ≤ s.maximum
  pub maximum : IsWithin 1 65535 s.maximum

pub record IsFlag (f : FlagConfig) : Type 0 where
  pub id : IsWithin 1 255 f.id
  pub attributes : f.attributes.0 ≤ 7

pub record IsQueue (q : QueueConfig) : Type 0 where
  pub id : IsWithin 1 255 q.id
  pub attributes : q.attributes.0 ≤ 1
  pub capacity : q.capacity ≤ 256

pub record IsSpinLock (s : SpinLockConfig) : Type 0 where
  pub id : IsWithin 1 255 s.id

-- the highest priority that a mutex may have as its ceiling: one with TA_CEILING has one, of others it has no effect
abbrev pub least_ceiling : Protocol → ℕ
least_ceiling protocol.Arrival = 0
least_ceiling protocol.Priority = 0
least_ceiling protocol.Inherit = 0
least_ceiling protocol.Ceiling = 1

pub record IsMutex (m : MutexConfig) : Type 0 where
  pub id : IsWithin 1 255 m.id
  pub ceiling : IsWithin (least_ceiling m.protocol) 16 m.ceiling

-- a block has at most as many bytes as RAM
pub record IsPool (ram : ℕ) (p : PoolConfig) : Type 0 where
  pub id : IsWithin 1 255 p.id
  pub attributes : p.attributes.0 ≤ 1
  pub count : IsWithin 1 256 p.count
  pub size : IsWithin 1 ram p.size

pub record IsMailbox (m : MailboxConfig) : Type 0 where
  pub id : IsWithin 1 255 m.id
  pub attributes : m.attributes.0 ≤ 3
  pub priorities : IsWithin 1 16 m.priorities

-- how many ticks a cyclic handler may have as its period or its phase at most
abbrev pub most_ticks : ℕ
most_ticks = 2147483647

pub record IsCyclic (processors : ℕ) (c : CyclicConfig) : Type 0 where
  pub id : IsWithin 1 64 c.id
  pub processor : IsWithin 1 processors c.processor
  pub attributes : c.attributes.0 ≤ 7
  pub period : IsWithin 1 most_ticks c.period
  pub phase : c.phase ≤ most_ticks

pub record IsAlarm (processors : ℕ) (a : AlarmConfig) : Type 0 where
  pub id : IsWithin 1 64 a.id
  pub processor : IsWithin 1 processors a.processor

pub record IsHandler (processors : ℕ) (h : HandlerConfig) : Type 0 where
  pub line : h.line ≤ 31
  pub processor : IsWithin 1 processors h.processor

pub record IsConfiguration (c : Configuration) : Type 0 where
  pub processors : IsWithin 1 8 c.processors
  pub ram : IsRamSize c.ram
  pub tasks : All (IsTask c.processors) c.tasks
  pub semaphores : All IsSemaphore c.semaphores
  pub flags : All IsFlag c.flags
  pub queues : All IsQueue c.queues
  pub spin_locks : All IsSpinLock c.spin_locks
  pub mutexes : All IsMutex c.mutexes
  pub pools : All (IsPool c.ram) c.pools
  pub mailboxes : All IsMailbox c.mailboxes
  pub cyclics : All (IsCyclic c.processors) c.cyclics
  pub alarms : All (IsAlarm c.processors) c.alarms
  pub handlers : All (IsHandler c.processors) c.handlers
  pub task_ids : AllPairs (λ s t. s.id ≢ t.id) c.tasks
  pub semaphore_ids : AllPairs (λ s t. s.id ≢ t.id) c.semaphores
  pub flag_ids : AllPairs (λ s t. s.id ≢ t.id) c.flags
  pub queue_ids : AllPairs (λ s t. s.id ≢ t.id) c.queues
  pub spin_lock_ids : AllPairs (λ s t. s.id ≢ t.id) c.spin_locks
  pub mutex_ids : AllPairs (λ s t. s.id ≢ t.id) c.mutexes
  pub pool_ids : AllPairs (λ s t. s.id ≢ t.id) c.pools
  pub mailbox_ids : AllPairs (λ s t. s.id ≢ t.id) c.mailboxes
  pub cyclic_ids : AllPairs (λ s t. s.id ≢ t.id) c.cyclics
  pub alarm_ids : AllPairs (λ s t. s.id ≢ t.id) c.alarms
  pub handler_lines : AllPairs (λ s t. s.line ≢ t.line) c.handlers
