-- Valid statements are accepted one after the other, and come to the configuration that they say.
use Rattle.std.proofs.Common.{◌≡◌, ◌≢◌, ℕ, suc, ◌-◌, ◌<◌, ◌≤◌, ◌^◌, Bool, true, false, ◌&&◌, List, [], ◌∷◌, ◌++◌, length, map, get_or, All, Option, Some, None, Ok, refl, sym, ap, subst, ◌∙◌, append_assoc, arith}
use Rattle.std.specs.Prelude.{AllPairs, nat_eq, is_some, is_none, codes}
use Rattle.std.specs.List.{list_any, flat_map}
use Rattle.std.proofs.lemmas.Bool.{le-leb, eq-eqb, ne_eqb}
use Rattle.std.proofs.lemmas.Bool.Decides.{nat_tests}
use Rattle.std.proofs.lemmas.Nat.{and_mask}
use Rattle.std.proofs.Math.Nat.{mod-eq_of_lt}
use Rattle.std.proofs.lemmas.List.{append-nil, get_or_append_left, get_or_at, length-append, length-map}
use Rattle.std.proofs.lemmas.List.Folds.{list_any_none}
use Rattle.brd_text.specs.Tokens.{Token, Placed, Text, first, others, tokens_of}
use Rattle.brd_text.specs.Tokens.Token.{End}
use Rattle.brd_text.specs.Turns.{repeated}
use Rattle.brd_text.specs.Turns.Flow.{More, Done}
use Rattle.brd_text.specs.Spelling.{bare_tokens}
use Rattle.brd_text.proofs.Spelled.{spelled}
use Rattle.brd_text.proofs.TurnLemmas.{more_turns}
use Rattle.brd_base.specs.Space.{IsRamSize}
use Rattle.brd_config.specs.declared.fault.ConfigFault.{ConfigFault}
use Rattle.brd_config.specs.declared.fault.ConfigFault.TheVariants.{NoMemory, BadId, BadAttribute, BadPriority, BadCount, BadProcessor}
use Rattle.brd_config.specs.declared.objects.TaskConfig.{TaskConfig}
use Rattle.brd_config.specs.declared.objects.SemaphoreConfig.{SemaphoreConfig}
use Rattle.brd_config.specs.declared.objects.FlagConfig.{FlagConfig}
use Rattle.brd_config.specs.declared.objects.QueueConfig.{QueueConfig}
use Rattle.brd_config.specs.declared.objects.SpinLockConfig.{SpinLockConfig}
use Rattle.brd_config.specs.declared.objects.MutexConfig.{MutexConfig}
use Rattle.brd_config.specs.declared.objects.PoolConfig.{PoolConfig}
use Rattle.brd_config.specs.declared.objects.MailboxConfig.{MailboxConfig}
use Rattle.brd_config.specs.declared.objects.CyclicConfig.{CyclicConfig}
use Rattle.brd_config.specs.declared.objects.AlarmConfig.{AlarmConfig}
use Rattle.brd_config.specs.declared.objects.HandlerConfig.{HandlerConfig}
use Rattle.brd_config.specs.declared.statement.Statement.{Statement}
use Rattle.brd_config.specs.declared.statement.Statement.TheVariants.{Board, Class, ClassEnd, Task, Semaphore, Flag, Queue, SpinLock, Mutex, Pool, Mailbox, Cyclic, Alarm, Handler}
use Rattle.brd_config.specs.declared.statement.TaskStatement.{TaskStatement}
use Rattle.brd_config.specs.declared.statement.SemaphoreStatement.{SemaphoreStatement}
use Rattle.brd_config.specs.declared.statement.FlagStatement.{FlagStatement}
use Rattle.brd_config.specs.declared.statement.QueueStatement.{QueueStatement}
use Rattle.brd_config.specs.declared.statement.SpinLockStatement.{SpinLockStatement}
use Rattle.brd_config.specs.declared.statement.MutexStatement.{MutexStatement}
use Rattle.brd_config.specs.declared.statement.PoolStatement.{PoolStatement}
use Rattle.brd_config.specs.declared.statement.MailboxStatement.{MailboxStatement}
use Rattle.brd_config.specs.declared.statement.CyclicStatement.{CyclicStatement}
use Rattle.brd_config.specs.declared.statement.AlarmStatement.{AlarmStatement}
use Rattle.brd_config.specs.declared.statement.HandlerStatement.{HandlerStatement}
use Rattle.brd_config.specs.Configuration.{Configuration, IsWithin, IsTask, IsSemaphore, IsFlag, IsQueue, IsSpinLock, IsMutex, least_ceiling, IsPool, IsMailbox, IsCyclic, IsAlarm, most_ticks, IsHandler, IsConfiguration}
use Rattle.brd_config.specs.Statements.{statement_at}
use Rattle.brd_config.specs.Meaning.{State, within, only_bits, task_numbers, task_of, semaphore_of, flag_of, queue_of, spin_lock_of, mutex_of, meant_protocol, pool_of, mailbox_of, cyclic_of, alarm_of, handler_of, added, processor_of, is_end, one_more, statement_step, statements_from, board_of, first_board, first_statement, has_profile, opened, config_from, config_of}
use Rattle.brd_config.proofs.RamSize.{ram_again}
use Rattle.brd_config.specs.Grammar.Piece.{Exactly, Sign, Numeral, Attributes, Value, StackValue, Area, ClassName, Protocol}
use Rattle.brd_config.specs.Grammar.{Piece, IsSpelled, AreSpelled, form, profile_form, IsText, tasks_of, semaphores_of, flags_of, queues_of, spin_locks_of, mutexes_of, pools_of, mailboxes_of, cyclics_of, alarms_of, handlers_of, task_said, semaphore_said, flag_said, queue_said, spin_lock_said, mutex_said, pool_said, mailbox_said, cyclic_said, alarm_said, handler_said, said, AreNested, AreValid, Says}
use Rattle.brd_config.proofs.Forms.{Ahead, MayStand, exactly_step, first_sign, object_pieces, bare_object_pieces, mutex_pieces, mailbox_pieces, cyclic_pieces, board_again, statement_again}

-- ---- lists

middle : {X : Type 0} (P : X → Type 0) (xs : List X) (x : X) (ys : List X) → All P (xs ++ x ∷ ys) → P x
middle P xs x ys all = subst P (get_or_at xs x ys x (length xs) refl) (all (length xs) x (omega (arith, length-append xs (x ∷ ys))))

-- a key that is none of those before it
new_key : {X : Type 0} (key : X → ℕ) (xs : List X) (x : X) (ys : List X) → AllPairs (λ s t. key s ≢ key t) (xs ++ x ∷ ys) → list_any (λ o. nat_eq (key o) (key x)) xs ≡ false
new_key key xs x ys all = list_any_none (λ o. nat_eq (key o) (key x)) xs
    (λ k d lt. ne_eqb (key (get_or xs k d)) (key x)
    (λ e. all k (length xs) d lt (omega (arith, length-append xs (x ∷ ys)))
    (ap key (get_or_append_left xs (x ∷ ys) d k lt) ∙ e ∙ sym (ap key (get_or_at xs x ys d (length xs) refl)))))

-- ---- values

within_again : (low high : ℕ) (f : ConfigFault) (n : ℕ) → IsWithin low high n → within low high f n ≡ Ok n
unfolding within
within_again low high f n w = rw (le-leb low n w.least, le-leb n high w.most) refl

only_bits_again : (k : ℕ) (f : ConfigFault) (n : ℕ) → n < 2 ^ k → only_bits (2 ^ k - 1) f n ≡ Ok n
unfolding only_bits
only_bits_again k f n lt = rw (eq-eqb _ _ (and_mask n k ∙ mod-eq_of_lt lt)) refl

positive : (n : ℕ) → 1 ≤ n → nat_eq n 0 ≡ false
positive n h = grind (arith, nat_tests)

from_zero : (high n : ℕ) → n ≤ high → IsWithin 0 high n
from_zero high n le = record { least = omega arith; most = le }

-- ---- objects

task_again : (line : ℕ) (tasks ys : List TaskConfig) (processors processor : ℕ) (t : TaskStatement)
    → IsTask processors (task_said processor t) → AllPairs (λ s t. s.id ≢ t.id) (tasks ++ task_said processor t ∷ ys) → task_of line tasks processor t ≡ Ok (task_said processor t)
unfolding task_of task_numbers
task_again line tasks ys processors processor t v apart =
    rw (
      within_again 1 255 (BadId line) t.id v.id,
      new_key (λ o. o.id) tasks (task_said processor t) ys apart,
      only_bits_again 2 (BadAttribute line) t.attributes (omega (arith, v.attributes)),
      within_again 1 16 (BadPriority line) t.priority v.priority,
      positive t.stack_size v.stack_size,
    ) refl

semaphore_again : (line : ℕ) (semaphores ys : List SemaphoreConfig) (t : SemaphoreStatement)
    → IsSemaphore (semaphore_said t) → AllPairs (λ s t. s.id ≢ t.id) (semaphores ++ semaphore_said t ∷ ys) → semaphore_of line semaphores t ≡ Ok (semaphore_said t)
unfolding semaphore_of
semaphore_again line semaphores ys t v apart =
    rw (
      within_again 1 255 (BadId line) t.id v.id,
      new_key (λ o. o.id) semaphores (semaphore_said t) ys apart,
      only_bits_again 1 (BadAttribute line) t.attributes (omega (arith, v.attributes)),
      within_again 1 65535 (BadCount line) t.maximum v.maximum,
      within_again 0 t.maximum (BadCount line) t.initial (from_zero t.maximum t.initial v.initial),
    ) refl

flag_again : (line : ℕ) (flags ys : List FlagConfig) (t : FlagStatement) → IsFlag (flag_said t) → AllPairs (λ s t. s.id ≢ t.id) (flags ++ flag_said t ∷ ys) → flag_of line flags t ≡ Ok (flag_said t)
unfolding flag_of
flag_again line flags ys t v apart =
    rw (within_again 1 255 (BadId line) t.id v.id, new_key (λ o. o.id) flags (flag_said t) ys apart, only_bits_again 3 (BadAttribute line) t.attributes (omega (arith, v.attributes))) refl

queue_again : (line : ℕ) (queues ys : List QueueConfig) (t : QueueStatement) → IsQueue (queue_said t) → AllPairs (λ s t. s.id ≢ t.id) (queues ++ queue_said t ∷ ys) → queue_of line queues t ≡ Ok (queue_said t)
unfolding queue_of
queue_again line queues ys t v apart =
    rw (
      within_again 1 255 (BadId line) t.id v.id,
      new_key (λ o. o.id) queues (queue_said t) ys apart,
      only_bits_again 1 (BadAttribute line) t.attributes (omega (arith, v.attributes)),
      within_again 0 256 (BadCount line) t.capacity (from_zero 256 t.capacity v.capacity),
    ) refl

spin_lock_again : (line : ℕ) (spin_locks ys : List SpinLockConfig) (t : SpinLockStatement) → t.attributes ≡ 0 → IsSpinLock (spin_lock_said t) → AllPairs (λ s t. s.id ≢ t.id) (spin_locks ++ spin_lock_said t ∷ ys) → spin_lock_of line spin_locks t ≡ Ok (spin_lock_said t)
unfolding spin_lock_of
spin_lock_again line spin_locks ys t bits v apart =
    rw (within_again 1 255 (BadId line) t.id v.id, new_key (λ o. o.id) spin_locks (spin_lock_said t) ys apart, only_bits_again 0 (BadAttribute line) t.attributes (omega (arith, bits))) refl

mutex_again : (line : ℕ) (mutexes ys : List MutexConfig) (t : MutexStatement) → t.protocol ≤ 3 → IsMutex (mutex_said t) → AllPairs (λ s t. s.id ≢ t.id) (mutexes ++ mutex_said t ∷ ys) → mutex_of line mutexes t ≡ Ok (mutex_said t)
unfolding mutex_of
mutex_again line mutexes ys t few v apart =
    rw (
      within_again 1 255 (BadId line) t.id v.id,
      new_key (λ o. o.id) mutexes (mutex_said t) ys apart,
      within_again 0 3 (BadAttribute line) t.protocol (from_zero 3 t.protocol few),
      within_again (least_ceiling (meant_protocol t.protocol)) 16 (BadPriority line) t.ceiling v.ceiling,
    ) refl

pool_again : (line ram : ℕ) (pools ys : List PoolConfig) (t : PoolStatement) → IsPool ram (pool_said t) → AllPairs (λ s t. s.id ≢ t.id) (pools ++ pool_said t ∷ ys) → pool_of line ram pools t ≡ Ok (pool_said t)
unfolding pool_of
pool_again line ram pools ys t v apart =
    rw (
      within_again 1 255 (BadId line) t.id v.id,
      new_key (λ o. o.id) pools (pool_said t) ys apart,
      only_bits_again 1 (BadAttribute line) t.attributes (omega (arith, v.attributes)),
      within_again 1 256 (BadCount line) t.count v.count,
      within_again 1 ram (BadCount line) t.size v.size,
    ) refl

mailbox_again : (line : ℕ) (mailboxes ys : List MailboxConfig) (t : MailboxStatement) → IsMailbox (mailbox_said t) → AllPairs (λ s t. s.id ≢ t.id) (mailboxes ++ mailbox_said t ∷ ys) → mailbox_of line mailboxes t ≡ Ok (mailbox_said t)
unfolding mailbox_of
mailbox_again line mailboxes ys t v apart =
    rw (
      within_again 1 255 (BadId line) t.id v.id,
      new_key (λ o. o.id) mailboxes (mailbox_said t) ys apart,
      only_bits_again 2 (BadAttribute line) t.attributes (omega (arith, v.attributes)),
      within_again 1 16 (BadPriority line) t.priorities v.priorities,
    ) refl

cyclic_again : (line : ℕ) (cyclics ys : List CyclicConfig) (processors processor : ℕ) (t : CyclicStatement)
    → IsCyclic processors (cyclic_said processor t) → AllPairs (λ s t. s.id ≢ t.id) (cyclics ++ cyclic_said processor t ∷ ys) → cyclic_of line cyclics processor t ≡ Ok (cyclic_said processor t)
unfolding cyclic_of
cyclic_again line cyclics ys processors processor t v apart =
    rw (
      within_again 1 64 (BadId line) t.id v.id,
      new_key (λ o. o.id) cyclics (cyclic_said processor t) ys apart,
      only_bits_again 3 (BadAttribute line) t.attributes (omega (arith, v.attributes)),
      within_again 1 most_ticks (BadCount line) t.period v.period,
      within_again 0 most_ticks (BadCount line) t.phase (from_zero most_ticks t.phase v.phase),
    ) refl

alarm_again : (line : ℕ) (alarms ys : List AlarmConfig) (processors processor : ℕ) (t : AlarmStatement)
    → t.attributes ≤ 1 → IsAlarm processors (alarm_said processor t) → AllPairs (λ s t. s.id ≢ t.id) (alarms ++ alarm_said processor t ∷ ys) → alarm_of line alarms processor t ≡ Ok (alarm_said processor t)
unfolding alarm_of
alarm_again line alarms ys processors processor t bits v apart =
    rw (
      within_again 1 64 (BadId line) t.id v.id,
      new_key (λ o. o.id) alarms (alarm_said processor t) ys apart,
      only_bits_again 1 (BadAttribute line) t.attributes (omega (arith, bits)),
    ) refl

handler_again : (line : ℕ) (handlers ys : List HandlerConfig) (processors processor : ℕ) (t : HandlerStatement)
    → t.attributes ≤ 1 → IsHandler processors (handler_said processor t) → AllPairs (λ s t. s.line ≢ t.line) (handlers ++ handler_said processor t ∷ ys) → handler_of line handlers processor t ≡ Ok (handler_said processor t)
unfolding handler_of
handler_again line handlers ys processors processor t bits v apart =
    rw (within_again 0 31 (BadId line) t.line (from_zero 31 t.line v.line), new_key (λ o. o.line) handlers (handler_said processor t) ys apart, only_bits_again 1 (BadAttribute line) t.attributes (omega (arith, bits))) refl

-- ---- statements

-- What is said so far, and by the statements that follow, comes to the whole.
pub record Leads (whole c : Configuration) (class : Option ℕ) (ss : List Statement) : Type 0 where
  pub standard : whole.standard ≡ c.standard
  pub processors : whole.processors ≡ c.processors
  pub ram : whole.ram ≡ c.ram
  pub tasks : whole.tasks ≡ c.tasks ++ tasks_of class ss
  pub semaphores : whole.semaphores ≡ c.semaphores ++ semaphores_of ss
  pub flags : whole.flags ≡ c.flags ++ flags_of ss
  pub queues : whole.queues ≡ c.queues ++ queues_of ss
  pub spin_locks : whole.spin_locks ≡ c.spin_locks ++ spin_locks_of ss
  pub mutexes : whole.mutexes ≡ c.mutexes ++ mutexes_of ss
  pub pools : whole.pools ≡ c.pools ++ pools_of ss
  pub mailboxes : whole.mailboxes ≡ c.mailboxes ++ mailboxes_of ss
  pub cyclics : whole.cyclics ≡ c.cyclics ++ cyclics_of class ss
  pub alarms : whole.alarms ≡ c.alarms ++ alarms_of class ss
  pub handlers : whole.handlers ≡ c.handlers ++ handlers_of class ss

regroup : {X : Type 0} (xs : List X) (x : X) (ys : List X) → xs ++ x ∷ ys ≡ (xs ++ x ∷ []) ++ ys
regroup xs x ys = sym (append_assoc xs (x ∷ []) ys)

-- one statement on
record GoesOn (line : ℕ) (whole c : Configuration) (class : Option ℕ) (x : Statement) (ss : List Statement) : Type 0 where
  state : State
  accepted : added line (record { config = c; class = class }) x ≡ Ok state
  leads : Leads whole state.config state.class ss
  nested : AreNested state.config.standard state.config.processors state.class ss

goes_on : (line : ℕ) (whole c : Configuration) (class : Option ℕ) (x : Statement) (ss : List Statement) → IsConfiguration whole → Leads whole c class (x ∷ ss) → AreNested c.standard c.processors class (x ∷ ss) → GoesOn line whole c class x ss
unfolding added
goes_on line whole c class (Board processors ram) ss valid l nested = absurd nested
goes_on line whole c class (Class n) ss valid l nested = record {
  state = record { config = c; class = Some n };
  accepted = rw (within_again 1 c.processors (BadProcessor line) n nested.1) refl;
  leads = record { standard = l.standard; processors = l.processors; ram = l.ram; tasks = l.tasks; semaphores = l.semaphores; flags = l.flags; queues = l.queues; spin_locks = l.spin_locks; mutexes = l.mutexes; pools = l.pools; mailboxes = l.mailboxes; cyclics = l.cyclics; alarms = l.alarms; handlers = l.handlers };
  nested = nested.2;
}
goes_on line whole c class ClassEnd ss valid l nested = record {
  state = record { config = c; class = None };
  accepted = refl;
  leads = record { standard = l.standard; processors = l.processors; ram = l.ram; tasks = l.tasks; semaphores = l.semaphores; flags = l.flags; queues = l.queues; spin_locks = l.spin_locks; mutexes = l.mutexes; pools = l.pools; mailboxes = l.mailboxes; cyclics = l.cyclics; alarms = l.alarms; handlers = l.handlers };
  nested = nested.1;
}
goes_on line whole c class (Task x) ss valid l nested =
    let one = middle (IsTask whole.processors) c.tasks (task_said (processor_of class) x) (tasks_of class ss) (subst (All (IsTask whole.processors)) l.tasks valid.tasks) in
    let apart = subst (AllPairs (λ s t. s.id ≢ t.id)) l.tasks valid.task_ids in
    record {
      state = record { config = record c { tasks = c.tasks ++ (task_said (processor_of class) x) ∷ [] }; class = class };
      accepted = rw (task_again line c.tasks (tasks_of class ss) whole.processors (processor_of class) x one apart) refl;
      leads = record { standard = l.standard; processors = l.processors; ram = l.ram; tasks = l.tasks ∙ regroup c.tasks (task_said (processor_of class) x) (tasks_of class ss); semaphores = l.semaphores; flags = l.flags; queues = l.queues; spin_locks = l.spin_locks; mutexes = l.mutexes; pools = l.pools; mailboxes = l.mailboxes; cyclics = l.cyclics; alarms = l.alarms; handlers = l.handlers };
      nested = nested;
    }
goes_on line whole c class (Semaphore x) ss valid l nested =
    let one = middle IsSemaphore c.semaphores (semaphore_said x) (semaphores_of ss) (subst (All IsSemaphore) l.semaphores valid.semaphores) in
    let apart = subst (AllPairs (λ s t. s.id ≢ t.id)) l.semaphores valid.semaphore_ids in
    record {
      state = record { config = record c { semaphores = c.semaphores ++ (semaphore_said x) ∷ [] }; class = class };
      accepted = rw (semaphore_again line c.semaphores (semaphores_of ss) x one apart) refl;
      leads = record { standard = l.standard; processors = l.processors; ram = l.ram; tasks = l.tasks; semaphores = l.semaphores ∙ regroup c.semaphores (semaphore_said x) (semaphores_of ss); flags = l.flags; queues = l.queues; spin_locks = l.spin_locks; mutexes = l.mutexes; pools = l.pools; mailboxes = l.mailboxes; cyclics = l.cyclics; alarms = l.alarms; handlers = l.handlers };
      nested = nested;
    }
goes_on line whole c class (Flag x) ss valid l nested =
    let one = middle IsFlag c.flags (flag_said x) (flags_of ss) (subst (All IsFlag) l.flags valid.flags) in
    let apart = subst (AllPairs (λ s t. s.id ≢ t.id)) l.flags valid.flag_ids in
    record {
      state = record { config = record c { flags = c.flags ++ (flag_said x) ∷ [] }; class = class };
      accepted = rw (flag_again line c.flags (flags_of ss) x one apart) refl;
      leads = record { standard = l.standard; processors = l.processors; ram = l.ram; tasks = l.tasks; semaphores = l.semaphores; flags = l.flags ∙ regroup c.flags (flag_said x) (flags_of ss); queues = l.queues; spin_locks = l.spin_locks; mutexes = l.mutexes; pools = l.pools; mailboxes = l.mailboxes; cyclics = l.cyclics; alarms = l.alarms; handlers = l.handlers };
      nested = nested;
    }
goes_on line whole c class (Queue x) ss valid l nested =
    let one = middle IsQueue c.queues (queue_said x) (queues_of ss) (subst (All IsQueue) l.queues valid.queues) in
    let apart = subst (AllPairs (λ s t. s.id ≢ t.id)) l.queues valid.queue_ids in
    record {
      state = record { config = record c { queues = c.queues ++ (queue_said x) ∷ [] }; class = class };
      accepted = rw (queue_again line c.queues (queues_of ss) x one apart) refl;
      leads = record { standard = l.standard; processors = l.processors; ram = l.ram; tasks = l.tasks; semaphores = l.semaphores; flags = l.flags; queues = l.queues ∙ regroup c.queues (queue_said x) (queues_of ss); spin_locks = l.spin_locks; mutexes = l.mutexes; pools = l.pools; mailboxes = l.mailboxes; cyclics = l.cyclics; alarms = l.alarms; handlers = l.handlers };
      nested = nested;
    }
goes_on line whole c class (SpinLock x) ss valid l nested =
    let one = middle IsSpinLock c.spin_locks (spin_lock_said x) (spin_locks_of ss) (subst (All IsSpinLock) l.spin_locks valid.spin_locks) in
    let apart = subst (AllPairs (λ s t. s.id ≢ t.id)) l.spin_locks valid.spin_lock_ids in
    record {
      state = record { config = record c { spin_locks = c.spin_locks ++ (spin_lock_said x) ∷ [] }; class = class };
      accepted = rw (spin_lock_again line c.spin_locks (spin_locks_of ss) x nested.0 one apart) refl;
      leads = record { standard = l.standard; processors = l.processors; ram = l.ram; tasks = l.tasks; semaphores = l.semaphores; flags = l.flags; queues = l.queues; spin_locks = l.spin_locks ∙ regroup c.spin_locks (spin_lock_said x) (spin_locks_of ss); mutexes = l.mutexes; pools = l.pools; mailboxes = l.mailboxes; cyclics = l.cyclics; alarms = l.alarms; handlers = l.handlers };
      nested = nested.1;
    }
goes_on line whole c class (Mutex x) ss valid l nested =
    let one = middle IsMutex c.mutexes (mutex_said x) (mutexes_of ss) (subst (All IsMutex) l.mutexes valid.mutexes) in
    let apart = subst (AllPairs (λ s t. s.id ≢ t.id)) l.mutexes valid.mutex_ids in
    record {
      state = record { config = record c { mutexes = c.mutexes ++ (mutex_said x) ∷ [] }; class = class };
      accepted = rw (mutex_again line c.mutexes (mutexes_of ss) x nested.1 one apart) refl;
      leads = record { standard = l.standard; processors = l.processors; ram = l.ram; tasks = l.tasks; semaphores = l.semaphores; flags = l.flags; queues = l.queues; spin_locks = l.spin_locks; mutexes = l.mutexes ∙ regroup c.mutexes (mutex_said x) (mutexes_of ss); pools = l.pools; mailboxes = l.mailboxes; cyclics = l.cyclics; alarms = l.alarms; handlers = l.handlers };
      nested = nested.2;
    }
goes_on line whole c class (Pool x) ss valid l nested =
    let one = middle (IsPool whole.ram) c.pools (pool_said x) (pools_of ss) (subst (All (IsPool whole.ram)) l.pools valid.pools) in
    let apart = subst (AllPairs (λ s t. s.id ≢ t.id)) l.pools valid.pool_ids in
    record {
      state = record { config = record c { pools = c.pools ++ (pool_said x) ∷ [] }; class = class };
      accepted = rw (pool_again line c.ram c.pools (pools_of ss) x (subst (λ (ram : ℕ). IsPool ram (pool_said x)) l.ram one) apart) refl;
      leads = record { standard = l.standard; processors = l.processors; ram = l.ram; tasks = l.tasks; semaphores = l.semaphores; flags = l.flags; queues = l.queues; spin_locks = l.spin_locks; mutexes = l.mutexes; pools = l.pools ∙ regroup c.pools (pool_said x) (pools_of ss); mailboxes = l.mailboxes; cyclics = l.cyclics; alarms = l.alarms; handlers = l.handlers };
      nested = nested.1;
    }
goes_on line whole c class (Mailbox x) ss valid l nested =
    let one = middle IsMailbox c.mailboxes (mailbox_said x) (mailboxes_of ss) (subst (All IsMailbox) l.mailboxes valid.mailboxes) in
    let apart = subst (AllPairs (λ s t. s.id ≢ t.id)) l.mailboxes valid.mailbox_ids in
    record {
      state = record { config = record c { mailboxes = c.mailboxes ++ (mailbox_said x) ∷ [] }; class = class };
      accepted = rw (mailbox_again line c.mailboxes (mailboxes_of ss) x one apart) refl;
      leads = record { standard = l.standard; processors = l.processors; ram = l.ram; tasks = l.tasks; semaphores = l.semaphores; flags = l.flags; queues = l.queues; spin_locks = l.spin_locks; mutexes = l.mutexes; pools = l.pools; mailboxes = l.mailboxes ∙ regroup c.mailboxes (mailbox_said x) (mailboxes_of ss); cyclics = l.cyclics; alarms = l.alarms; handlers = l.handlers };
      nested = nested.1;
    }
goes_on line whole c class (Cyclic x) ss valid l nested =
    let one = middle (IsCyclic whole.processors) c.cyclics (cyclic_said (processor_of class) x) (cyclics_of class ss) (subst (All (IsCyclic whole.processors)) l.cyclics valid.cyclics) in
    let apart = subst (AllPairs (λ s t. s.id ≢ t.id)) l.cyclics valid.cyclic_ids in
    record {
      state = record { config = record c { cyclics = c.cyclics ++ (cyclic_said (processor_of class) x) ∷ [] }; class = class };
      accepted = rw (cyclic_again line c.cyclics (cyclics_of class ss) whole.processors (processor_of class) x one apart) refl;
      leads = record { standard = l.standard; processors = l.processors; ram = l.ram; tasks = l.tasks; semaphores = l.semaphores; flags = l.flags; queues = l.queues; spin_locks = l.spin_locks; mutexes = l.mutexes; pools = l.pools; mailboxes = l.mailboxes; cyclics = l.cyclics ∙ regroup c.cyclics (cyclic_said (processor_of class) x) (cyclics_of class ss); alarms = l.alarms; handlers = l.handlers };
      nested = nested.1;
    }
goes_on line whole c class (Alarm x) ss valid l nested =
    let one = middle (IsAlarm whole.processors) c.alarms (alarm_said (processor_of class) x) (alarms_of class ss) (subst (All (IsAlarm whole.processors)) l.alarms valid.alarms) in
    let apart = subst (AllPairs (λ s t. s.id ≢ t.id)) l.alarms valid.alarm_ids in
    record {
      state = record { config = record c { alarms = c.alarms ++ (alarm_said (processor_of class) x) ∷ [] }; class = class };
      accepted = rw (alarm_again line c.alarms (alarms_of class ss) whole.processors (processor_of class) x nested.1 one apart) refl;
      leads = record { standard = l.standard; processors = l.processors; ram = l.ram; tasks = l.tasks; semaphores = l.semaphores; flags = l.flags; queues = l.queues; spin_locks = l.spin_locks; mutexes = l.mutexes; pools = l.pools; mailboxes = l.mailboxes; cyclics = l.cyclics; alarms = l.alarms ∙ regroup c.alarms (alarm_said (processor_of class) x) (alarms_of class ss); handlers = l.handlers };
      nested = nested.2;
    }
goes_on line whole c class (Handler x) ss valid l nested =
    let one = middle (IsHandler whole.processors) c.handlers (handler_said (processor_of class) x) (handlers_of class ss) (subst (All (IsHandler whole.processors)) l.handlers valid.handlers) in
    let apart = subst (AllPairs (λ s t. s.line ≢ t.line)) l.handlers valid.handler_lines in
    record {
      state = record { config = record c { handlers = c.handlers ++ (handler_said (processor_of class) x) ∷ [] }; class = class };
      accepted = rw (handler_again line c.handlers (handlers_of class ss) whole.processors (processor_of class) x nested.0 one apart) refl;
      leads = record { standard = l.standard; processors = l.processors; ram = l.ram; tasks = l.tasks; semaphores = l.semaphores; flags = l.flags; queues = l.queues; spin_locks = l.spin_locks; mutexes = l.mutexes; pools = l.pools; mailboxes = l.mailboxes; cyclics = l.cyclics; alarms = l.alarms; handlers = l.handlers ∙ regroup c.handlers (handler_said (processor_of class) x) (handlers_of class ss) };
      nested = nested.1;
    }

-- ---- the text

may_stand : (standard : Bool) (processors : ℕ) (class : Option ℕ) (x : Statement) (ss : List Statement) → AreNested standard processors class (x ∷ ss) → MayStand standard (is_some class) x
may_stand standard processors class (Board p ram) ss nested = tt
may_stand standard processors None (Class n) ss nested = refl
may_stand standard processors (Some m) (Class n) ss nested = absurd nested.0
may_stand standard processors None ClassEnd ss nested = absurd nested.0
may_stand standard processors (Some m) ClassEnd ss nested = refl
may_stand standard processors class (Task x) ss nested = tt
may_stand standard processors class (Semaphore x) ss nested = tt
may_stand standard processors class (Flag x) ss nested = tt
may_stand standard processors class (Queue x) ss nested = tt
may_stand standard processors class (SpinLock x) ss nested = tt
may_stand standard processors class (Mutex x) ss nested = nested.0
may_stand standard processors class (Pool x) ss nested = nested.0
may_stand standard processors class (Mailbox x) ss nested = nested.0
may_stand standard processors class (Cyclic x) ss nested = nested.0
may_stand standard processors class (Alarm x) ss nested = nested.0
may_stand standard processors class (Handler x) ss nested = tt

-- a text of no tokens
at_its_end : (t : Text) → bare_tokens t ≡ [] → (first t).token ≡ End
at_its_end t e = by_tokens t.tokens e
  where
    by_tokens : (ps : List Placed) → map (λ p. p.token) ps ≡ [] → (first (record { tokens = ps; end = t.end })).token ≡ End
    by_tokens [] e = refl
    by_tokens (p ∷ ps) e = absurd (cc)

abbrev IsOneToken : Piece → Type 0
IsOneToken (Exactly run) = Unit {0}
IsOneToken (Sign b) = Unit {0}
IsOneToken (Numeral n) = ⊥
IsOneToken (Attributes names n) = ⊥
IsOneToken (Value v) = ⊥
IsOneToken (StackValue v) = ⊥
IsOneToken Area = ⊥
IsOneToken (ClassName n) = ⊥
IsOneToken (Protocol n) = ⊥

-- a text that begins with this piece, which is one token
not_at_end : (p : Piece) (ps : List Piece) (t : Text) → IsOneToken p → Ahead (p ∷ ps) t → is_end (first t).token ≡ false
not_at_end (Exactly run) ps t one s = rw (exactly_step run ps t s).0 refl
not_at_end (Sign b) ps t one s = rw (first_sign b ps t s).0 refl
not_at_end (Numeral n) ps t one s = absurd one
not_at_end (Attributes names n) ps t one s = absurd one
not_at_end (Value v) ps t one s = absurd one
not_at_end (StackValue v) ps t one s = absurd one
not_at_end Area ps t one s = absurd one
not_at_end (ClassName n) ps t one s = absurd one
not_at_end (Protocol n) ps t one s = absurd one

begins_statement : (x : Statement) (ps : List Piece) (t : Text) → Ahead (form x ++ ps) t → is_end (first t).token ≡ false
begins_statement (Board processors ram) ps t s = not_at_end (Exactly (codes "BOARD")) (Sign 40 ∷ Numeral processors ∷ Sign 44 ∷ Numeral ram ∷ Sign 41 ∷ Sign 59 ∷ ps) t tt s
begins_statement (Class n) ps t s = not_at_end (Exactly (codes "CLASS")) (Sign 40 ∷ ClassName n ∷ Sign 41 ∷ Sign 123 ∷ ps) t tt s
begins_statement ClassEnd ps t s = not_at_end (Sign 125) (ps) t tt s
begins_statement (Task x) ps t s = not_at_end (Exactly (codes "CRE_TSK")) (object_pieces x.id x.attributes (Value x.exinf ∷ Sign 44 ∷ Value x.address ∷ Sign 44 ∷ Numeral x.priority ∷ Sign 44 ∷ Numeral x.stack_size ∷ Sign 44 ∷ StackValue x.stack ∷ []) ps) t tt s
begins_statement (Semaphore x) ps t s = not_at_end (Exactly (codes "CRE_SEM")) (object_pieces x.id x.attributes (Numeral x.initial ∷ Sign 44 ∷ Numeral x.maximum ∷ []) ps) t tt s
begins_statement (Flag x) ps t s = not_at_end (Exactly (codes "CRE_FLG")) (object_pieces x.id x.attributes (Numeral x.pattern ∷ []) ps) t tt s
begins_statement (Queue x) ps t s = not_at_end (Exactly (codes "CRE_DTQ")) (object_pieces x.id x.attributes (Numeral x.capacity ∷ Sign 44 ∷ Area ∷ []) ps) t tt s
begins_statement (SpinLock x) ps t s = not_at_end (Exactly (codes "CRE_SPN")) (bare_object_pieces x.id x.attributes ps) t tt s
begins_statement (Mutex x) ps t s = not_at_end (Exactly (codes "CRE_MTX")) (mutex_pieces x.id x.protocol x.ceiling ps) t tt s
begins_statement (Pool x) ps t s = not_at_end (Exactly (codes "CRE_MPF")) (object_pieces x.id x.attributes (Numeral x.count ∷ Sign 44 ∷ Numeral x.size ∷ Sign 44 ∷ StackValue x.area ∷ []) ps) t tt s
begins_statement (Mailbox x) ps t s = not_at_end (Exactly (codes "CRE_MBX")) (mailbox_pieces x.id x.attributes x.priorities ps) t tt s
begins_statement (Cyclic x) ps t s = not_at_end (Exactly (codes "CRE_CYC")) (cyclic_pieces x.id x.attributes x.exinf x.address x.period x.phase ps) t tt s
begins_statement (Alarm x) ps t s = not_at_end (Exactly (codes "CRE_ALM")) (object_pieces x.id x.attributes (Value x.exinf ∷ Sign 44 ∷ Value x.address ∷ []) ps) t tt s
begins_statement (Handler x) ps t s = not_at_end (Exactly (codes "DEF_INH")) (object_pieces x.line x.attributes (Value x.address ∷ []) ps) t tt s

and_false : (b : Bool) → (b && false) ≡ false
and_false true = refl
and_false false = refl

abbrev entry : Bool → ℕ → ℕ → List TaskConfig → List SemaphoreConfig → List FlagConfig → List QueueConfig → List SpinLockConfig → List MutexConfig → List PoolConfig → List MailboxConfig → List CyclicConfig → List AlarmConfig → List HandlerConfig → Configuration
entry b p r ts ss fs qs ls xs bs ms ys ws hs = record { standard = b; processors = p; ram = r; tasks = ts; semaphores = ss; flags = fs; queues = qs; spin_locks = ls; mutexes = xs; pools = bs; mailboxes = ms; cyclics = ys; alarms = ws; handlers = hs }

same : (a b : Bool) → a ≡ b → (p q : ℕ) → p ≡ q → (r s : ℕ) → r ≡ s → (ts us : List TaskConfig) → ts ≡ us → (ss vs : List SemaphoreConfig) → ss ≡ vs → (fs gs : List FlagConfig) → fs ≡ gs → (qs rs : List QueueConfig) → qs ≡ rs → (ls ms : List SpinLockConfig) → ls ≡ ms → (xs zs : List MutexConfig) → xs ≡ zs → (os ps : List PoolConfig) → os ≡ ps → (cs ds : List MailboxConfig) → cs ≡ ds → (ys ws : List CyclicConfig) → ys ≡ ws → (is js : List AlarmConfig) → is ≡ js → (hs ks : List HandlerConfig) → hs ≡ ks
    → entry a p r ts ss fs qs ls xs os cs ys is hs ≡ entry b q s us vs gs rs ms zs ps ds ws js ks
same a b e p q e0 r s e1 ts us e2 ss vs e3 fs gs e4 qs rs e5 ls ms e6 xs zs e8 os ps e9 cs ds e10 ys ws e11 is js e12 hs ks e7 = rw (e, e0, e1, e2, e3, e4, e5, e6, e8, e9, e10, e11, e12, e7) refl

-- one turn over a statement
step_again : (c : Configuration) (class : Option ℕ) (x : Statement) (next : State) (t u : Text) → is_end (first t).token ≡ false → statement_at c.standard (is_some class) t ≡ Ok (x, u) → added (first t).line (record { config = c; class = class }) x ≡ Ok next
    → statement_step (record { config = c; class = class }, t) ≡ Ok (More (next, u))
unfolding statement_step one_more
step_again c class x next t u begins read accepted = rw (begins, and_false (is_none class), read, accepted) refl

last_step : (c : Configuration) (t : Text) → bare_tokens t ≡ [] → statement_step (record { config = c; class = None }, t) ≡ Ok (Done c)
unfolding statement_step
last_step c t e = rw (at_its_end t e) refl

-- nothing follows
pub all_said : (whole c : Configuration) (class : Option ℕ) → Leads whole c class [] → c ≡ whole
all_said whole c class l =
    let tasks = l.tasks ∙ append-nil c.tasks in
    let semaphores = l.semaphores ∙ append-nil c.semaphores in
    let flags = l.flags ∙ append-nil c.flags in
    let queues = l.queues ∙ append-nil c.queues in
    let spin_locks = l.spin_locks ∙ append-nil c.spin_locks in
    let mutexes = l.mutexes ∙ append-nil c.mutexes in
    let pools = l.pools ∙ append-nil c.pools in
    let mailboxes = l.mailboxes ∙ append-nil c.mailboxes in
    let cyclics = l.cyclics ∙ append-nil c.cyclics in
    let alarms = l.alarms ∙ append-nil c.alarms in
    let handlers = l.handlers ∙ append-nil c.handlers in
    sym (same whole.standard c.standard l.standard whole.processors c.processors l.processors whole.ram c.ram l.ram whole.tasks c.tasks tasks whole.semaphores c.semaphores semaphores whole.flags c.flags flags whole.queues c.queues queues whole.spin_locks c.spin_locks spin_locks whole.mutexes c.mutexes mutexes whole.pools c.pools pools whole.mailboxes c.mailboxes mailboxes whole.cyclics c.cyclics cyclics whole.alarms c.alarms alarms whole.handlers c.handlers handlers)

run_again : (whole c : Configuration) (class : Option ℕ) (ss : List Statement) (t : Text) → IsConfiguration whole → Leads whole c class ss → AreNested c.standard c.processors class ss → AreSpelled (flat_map form ss) (bare_tokens t)
    → repeated NoMemory statement_step (suc (length ss)) (record { config = c; class = class }, t) ≡ Ok whole
unfolding repeated
run_again whole c None [] t valid l nested s = rw (last_step c t s) (ap (λ (w : Configuration). Ok w) (all_said whole c None l))
run_again whole c (Some n) [] t valid l nested s = absurd nested
run_again whole c class (x ∷ ss) t valid l nested s =
    let g = goes_on (first t).line whole c class x ss valid l nested in
    let r = statement_again c.standard (is_some class) x (flat_map form ss) t (may_stand c.standard c.processors class x ss nested) s in
    let step = step_again c class x g.state t r.0 (begins_statement x (flat_map form ss) t s) r.1 g.accepted in
    rw step (run_again whole g.state.config g.state.class ss r.0 valid g.leads g.nested r.2)

-- ---- turns enough

-- the tokens after pieces
behind : (ps qs : List Piece) (tokens : List Token) → AreSpelled (ps ++ qs) tokens → (rest : List Token) × AreSpelled qs rest × (length rest ≤ length tokens)
behind [] qs tokens s = (tokens, s, omega arith)
behind (p ∷ ps) qs tokens s =
    let b = behind ps qs s.1 s.3 in
    (b.0, b.1, omega (arith, b.2, ap length s.4, length-append s.0 s.1))

first_less : (p : Piece) (ps qs : List Piece) (tokens : List Token) → IsOneToken p → AreSpelled (p ∷ (ps ++ qs)) tokens → (rest : List Token) × AreSpelled qs rest × (length rest < length tokens)
first_less p ps qs tokens one s =
    let b = behind ps qs s.1 s.3 in
    (b.0, b.1, omega (arith, b.2, ap length s.4, length-append s.0 s.1, one_long p s.0 one s.2))
  where
    one_long : (p : Piece) (front : List Token) → IsOneToken p → IsSpelled p front → length front ≡ 1
    one_long (Exactly run) front one e = ap length e
    one_long (Sign b) front one e = ap length e
    one_long (Numeral n) front one e = absurd one
    one_long (Attributes names n) front one e = absurd one
    one_long (Value v) front one e = absurd one
    one_long (StackValue v) front one e = absurd one
    one_long Area front one e = absurd one
    one_long (ClassName n) front one e = absurd one
    one_long (Protocol n) front one e = absurd one

form_less : (x : Statement) (qs : List Piece) (tokens : List Token) → AreSpelled (form x ++ qs) tokens → (rest : List Token) × AreSpelled qs rest × (length rest < length tokens)
form_less (Board processors ram) qs tokens s = first_less (Exactly (codes "BOARD")) (Sign 40 ∷ Numeral processors ∷ Sign 44 ∷ Numeral ram ∷ Sign 41 ∷ Sign 59 ∷ []) qs tokens tt s
form_less (Class n) qs tokens s = first_less (Exactly (codes "CLASS")) (Sign 40 ∷ ClassName n ∷ Sign 41 ∷ Sign 123 ∷ []) qs tokens tt s
form_less ClassEnd qs tokens s = first_less (Sign 125) ([]) qs tokens tt s
form_less (Task x) qs tokens s = first_less (Exactly (codes "CRE_TSK")) (object_pieces x.id x.attributes (Value x.exinf ∷ Sign 44 ∷ Value x.address ∷ Sign 44 ∷ Numeral x.priority ∷ Sign 44 ∷ Numeral x.stack_size ∷ Sign 44 ∷ StackValue x.stack ∷ []) []) qs tokens tt s
form_less (Semaphore x) qs tokens s = first_less (Exactly (codes "CRE_SEM")) (object_pieces x.id x.attributes (Numeral x.initial ∷ Sign 44 ∷ Numeral x.maximum ∷ []) []) qs tokens tt s
form_less (Flag x) qs tokens s = first_less (Exactly (codes "CRE_FLG")) (object_pieces x.id x.attributes (Numeral x.pattern ∷ []) []) qs tokens tt s
form_less (Queue x) qs tokens s = first_less (Exactly (codes "CRE_DTQ")) (object_pieces x.id x.attributes (Numeral x.capacity ∷ Sign 44 ∷ Area ∷ []) []) qs tokens tt s
form_less (SpinLock x) qs tokens s = first_less (Exactly (codes "CRE_SPN")) (bare_object_pieces x.id x.attributes []) qs tokens tt s
form_less (Mutex x) qs tokens s = first_less (Exactly (codes "CRE_MTX")) (mutex_pieces x.id x.protocol x.ceiling []) qs tokens tt s
form_less (Pool x) qs tokens s = first_less (Exactly (codes "CRE_MPF")) (object_pieces x.id x.attributes (Numeral x.count ∷ Sign 44 ∷ Numeral x.size ∷ Sign 44 ∷ StackValue x.area ∷ []) []) qs tokens tt s
form_less (Mailbox x) qs tokens s = first_less (Exactly (codes "CRE_MBX")) (mailbox_pieces x.id x.attributes x.priorities []) qs tokens tt s
form_less (Cyclic x) qs tokens s = first_less (Exactly (codes "CRE_CYC")) (cyclic_pieces x.id x.attributes x.exinf x.address x.period x.phase []) qs tokens tt s
form_less (Alarm x) qs tokens s = first_less (Exactly (codes "CRE_ALM")) (object_pieces x.id x.attributes (Value x.exinf ∷ Sign 44 ∷ Value x.address ∷ []) []) qs tokens tt s
form_less (Handler x) qs tokens s = first_less (Exactly (codes "DEF_INH")) (object_pieces x.line x.attributes (Value x.address ∷ []) []) qs tokens tt s

-- each statement has a token
enough : (ss : List Statement) (tokens : List Token) → AreSpelled (flat_map form ss) tokens → length ss ≤ length tokens
enough [] tokens s = omega arith
enough (x ∷ ss) tokens s =
    let b = form_less x (flat_map form ss) tokens s in
    omega (arith, b.2, enough ss b.0 b.1)

-- ---- the first statement

-- a board alone
abbrev pub started : Bool → ℕ → ℕ → Configuration
started standard processors ram = record { standard = standard; processors = processors; ram = ram; tasks = []; semaphores = []; flags = []; queues = []; spin_locks = []; mutexes = []; pools = []; mailboxes = []; cyclics = []; alarms = []; handlers = [] }

board_of_again : (standard : Bool) (line processors ram : ℕ) → IsWithin 1 8 processors → IsRamSize ram → board_of standard line processors ram ≡ Ok (started standard processors ram)
unfolding board_of
board_of_again standard line processors ram v w = rw (within_again 1 8 (BadProcessor line) processors v, ram_again ram w) refl

first_again : (standard : Bool) (processors ram : ℕ) (ps : List Piece) (t : Text) → IsWithin 1 8 processors → IsRamSize ram → Ahead (form (Board processors ram) ++ ps) t → (u : Text) × (first_statement standard t ≡ Ok (record { config = started standard processors ram; class = None }, u)) × Ahead ps u
unfolding first_statement first_board
first_again standard processors ram ps t v w s =
    let f = exactly_step (codes "BOARD") (Sign 40 ∷ Numeral processors ∷ Sign 44 ∷ Numeral ram ∷ Sign 41 ∷ Sign 59 ∷ ps) t s in
    let b = board_again processors ram ps (others t) f.1 in
    (b.0, rw (f.0, b.1, board_of_again standard (first t).line processors ram v w) refl, b.2)

-- ---- the profile

-- where no profile stands at the front, but BOARD
board_opens : (ps : List Piece) (t : Text) → Ahead (Exactly (codes "BOARD") ∷ ps) t → opened t ≡ (false, t)
unfolding opened has_profile
board_opens ps t s = rw (exactly_step (codes "BOARD") ps t s).0 refl

-- the text from BOARD on
opened_again : (standard : Bool) (ps : List Piece) (t : Text) → Ahead (profile_form standard ++ Exactly (codes "BOARD") ∷ ps) t → (u : Text) × (opened t ≡ (standard, u)) × Ahead (Exactly (codes "BOARD") ∷ ps) u
unfolding opened has_profile
opened_again false ps t s = (t, board_opens ps t s, s)
opened_again true ps t s =
    let rest = Exactly (codes "BOARD") ∷ ps in
    let a = exactly_step (codes "PROFILE") (Sign 40 ∷ Exactly (codes "STANDARD") ∷ Sign 41 ∷ Sign 59 ∷ rest) t s in
    let t1 = others t in
    let b = first_sign 40 (Exactly (codes "STANDARD") ∷ Sign 41 ∷ Sign 59 ∷ rest) t1 a.1 in
    let t2 = others t1 in
    let c = exactly_step (codes "STANDARD") (Sign 41 ∷ Sign 59 ∷ rest) t2 b.1 in
    let t3 = others t2 in
    let d = first_sign 41 (Sign 59 ∷ rest) t3 c.1 in
    let t4 = others t3 in
    let e = first_sign 59 rest t4 d.1 in
    (others t4, rw (a.0, b.0, c.0, d.0, e.0) refl, e.1)

from_board : (standard : Bool) (processors ram : ℕ) (ss : List Statement) (t : Text) → Ahead (flat_map form (Board processors ram ∷ ss)) t → AreValid standard processors ram ss → config_from (standard, t) ≡ Ok (said standard processors ram ss)
unfolding config_from statements_from
from_board standard processors ram ss t s valid =
    let f = first_again standard processors ram (flat_map form ss) t valid.values.processors valid.values.ram s in
    let leads : Leads (said standard processors ram ss) (started standard processors ram) None ss = record { standard = refl; processors = refl; ram = refl; tasks = refl; semaphores = refl; flags = refl; queues = refl; spin_locks = refl; mutexes = refl; pools = refl; mailboxes = refl; cyclics = refl; alarms = refl; handlers = refl } in
    let run = run_again (said standard processors ram ss) (started standard processors ram) None ss f.0 valid.values leads valid.nested f.2 in
    let long : suc (length ss) ≤ suc (length f.0.tokens) = omega (arith, enough ss (bare_tokens f.0) f.2, length-map f.0.tokens (λ p. p.token)) in
    rw f.1 (more_turns NoMemory statement_step (suc (length ss)) (suc (length f.0.tokens)) (record { config = started standard processors ram; class = None }, f.0) (said standard processors ram ss) long run)

pub config_again : (bytes : List ℕ) (standard : Bool) (processors ram : ℕ) (ss : List Statement) → IsText bytes standard (Board processors ram ∷ ss) → AreValid standard processors ram ss → config_of bytes ≡ Ok (said standard processors ram ss)
unfolding config_of
config_again bytes standard processors ram ss text valid =
    let t = tokens_of bytes in
    let tokens : bare_tokens t ≡ text.0 = spelled 1 bytes text.0 text.1 in
    let s : AreSpelled (profile_form standard ++ flat_map form (Board processors ram ∷ ss)) (bare_tokens t) = subst (AreSpelled (profile_form standard ++ flat_map form (Board processors ram ∷ ss))) (sym tokens) text.2 in
    let o = opened_again standard (Sign 40 ∷ Numeral processors ∷ Sign 44 ∷ Numeral ram ∷ Sign 41 ∷ Sign 59 ∷ flat_map form ss) t s in
    rw o.1 (from_board standard processors ram ss o.0 o.2 valid)

pub says_again : (bytes : List ℕ) (c : Configuration) → Says bytes c → config_of bytes ≡ Ok c
says_again bytes c s = config_again bytes s.0 s.1 s.2 s.3 s.4 s.5 ∙ ap (λ (d : Configuration). Ok d) (sym s.6)
