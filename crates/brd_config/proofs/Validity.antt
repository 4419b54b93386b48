-- What a text says is a configuration: each value is within its limits, and IDs of one kind are distinct. What a
-- statement adds is the object that it says.
use Rattle.std.proofs.Common.{◌≡◌, ◌≢◌, ℕ, suc, ◌<◌, ◌≤◌, Bool, true, false, cond, not, ◌&&◌, List, [], ◌∷◌, ◌++◌, length, get_or, Some, None, Result, Ok, Err, refl, sym, ap, subst, ◌∙◌, inl, inr, arith}
use Rattle.std.specs.Prelude.{AllPairs, nat_eq, nat_le}
use Rattle.std.specs.List.{list_any}
use Rattle.std.specs.Int.RustNames.{bit_and}
use Rattle.std.proofs.lemmas.Bool.{cases_lt, leb-true, eqb-true, eq-eqb, and_parts, not-false}
use Rattle.std.proofs.lemmas.Bool.Decides.{nat_tests}
use Rattle.std.proofs.lemmas.Nat.{and_le_r}
use Rattle.std.proofs.lemmas.List.{length_push, get_or_push, get_or_append_left}
use Rattle.std.proofs.lemmas.List.Elements.{All-push}
use Rattle.std.proofs.lemmas.List.Folds.{list_any_at}
use Rattle.std.specs.Prelude.{is_none, is_some}
use Rattle.brd_text.specs.Tokens.{Text, first, others, tokens_of}
use Rattle.brd_text.specs.Faults.{◌>>=◌}
use Rattle.brd_text.specs.Turns.{Flow}
use Rattle.brd_text.specs.Turns.Flow.{More, Done}
use Rattle.brd_text.proofs.TurnLemmas.{keeps}
use Rattle.brd_text.proofs.FaultLemmas.{bind_ok, ok_is, passed, not_refused}
use Rattle.brd_config.specs.declared.fault.ConfigFault.{ConfigFault}
use Rattle.brd_config.specs.declared.fault.ConfigFault.TheVariants.{NoMemory, Syntax, BadId, Duplicate, BadAttribute, BadPriority, BadCount, BadProcessor}
use Rattle.brd_config.specs.declared.objects.TaskConfig.{TaskConfig}
use Rattle.brd_config.specs.declared.statement.TaskStatement.{TaskStatement}
use Rattle.brd_config.specs.declared.objects.SemaphoreConfig.{SemaphoreConfig}
use Rattle.brd_config.specs.declared.statement.SemaphoreStatement.{SemaphoreStatement}
use Rattle.brd_config.specs.declared.objects.FlagConfig.{FlagConfig}
use Rattle.brd_config.specs.declared.statement.FlagStatement.{FlagStatement}
use Rattle.brd_config.specs.declared.objects.QueueConfig.{QueueConfig}
use Rattle.brd_config.specs.declared.objects.SpinLockConfig.{SpinLockConfig}
use Rattle.brd_config.specs.declared.objects.MutexConfig.{MutexConfig}
use Rattle.brd_config.specs.declared.statement.QueueStatement.{QueueStatement}
use Rattle.brd_config.specs.declared.statement.SpinLockStatement.{SpinLockStatement}
use Rattle.brd_config.specs.declared.statement.MutexStatement.{MutexStatement}
use Rattle.brd_config.specs.declared.objects.PoolConfig.{PoolConfig}
use Rattle.brd_config.specs.declared.objects.MailboxConfig.{MailboxConfig}
use Rattle.brd_config.specs.declared.objects.CyclicConfig.{CyclicConfig}
use Rattle.brd_config.specs.declared.objects.AlarmConfig.{AlarmConfig}
use Rattle.brd_config.specs.declared.objects.HandlerConfig.{HandlerConfig}
use Rattle.brd_config.specs.declared.statement.PoolStatement.{PoolStatement}
use Rattle.brd_config.specs.declared.statement.MailboxStatement.{MailboxStatement}
use Rattle.brd_config.specs.declared.statement.CyclicStatement.{CyclicStatement}
use Rattle.brd_config.specs.declared.statement.AlarmStatement.{AlarmStatement}
use Rattle.brd_config.specs.declared.statement.HandlerStatement.{HandlerStatement}
use Rattle.brd_config.specs.declared.statement.Statement.{Statement}
use Rattle.brd_config.specs.declared.statement.Statement.TheVariants.{Board, Class, ClassEnd, Task, Semaphore, Flag, Queue, SpinLock, Mutex, Pool, Mailbox, Cyclic, Alarm, Handler}
use Rattle.brd_config.specs.Statements.{statement_at, board_at}
use Rattle.brd_config.specs.Configuration.{Configuration, IsWithin, IsTask, IsSemaphore, IsFlag, IsQueue, IsSpinLock, IsMutex, least_ceiling, IsPool, IsMailbox, IsCyclic, IsAlarm, most_ticks, IsHandler, IsConfiguration}
use Rattle.brd_config.specs.Meaning.{State, within, only_bits, refused, is_ram_size, task_numbers, task_of, semaphore_of, flag_of, queue_of, spin_lock_of, mutex_of, meant_protocol, pool_of, mailbox_of, cyclic_of, alarm_of, handler_of, added, processor_of, is_end, is_board, one_more, statement_step, statements_from, board_of, first_board, first_statement, opened, config_from, config_of}
use Rattle.brd_config.specs.Grammar.{task_said, semaphore_said, flag_said, queue_said, spin_lock_said, mutex_said, pool_said, mailbox_said, cyclic_said, alarm_said, handler_said}
use Rattle.brd_config.proofs.RamSize.{has_ram_size}

-- ---- lists

AllPairs-push : {X : Type 0} (R : X → X → Type 0) (xs : List X) (x : X) → AllPairs R xs → ((i : ℕ) (d : X) → i < length xs → R (get_or xs i d) x) → AllPairs R (xs ++ x ∷ [])
AllPairs-push R xs x all new i j d lt below =
    let here : i < length xs = omega (arith, length_push xs x) in
    rw (get_or_append_left xs (x ∷ []) d i here)
    (elim (cases_lt j (length xs)) [
      | inl inside ↦ rw (get_or_append_left xs (x ∷ []) d j inside) (all i j d lt inside)
      | inr past ↦ let last : length xs ≡ j = omega (arith, length_push xs x) in rw (get_or_push xs x d j last) (new i d here)
    ])

-- a key that none of the list has
no_key : {X : Type 0} (key : X → ℕ) (xs : List X) (k : ℕ) → list_any (λ o. nat_eq (key o) k) xs ≡ false → (i : ℕ) (d : X) → i < length xs → key (get_or xs i d) ≢ k
no_key key xs k none i d lt e = absurd (let some = list_any_at (λ o. nat_eq (key o) k) xs i d lt (eq-eqb _ _ e) in let both : true ≡ false = sym some ∙ none in cc)

keys_stay : {X : Type 0} (key : X → ℕ) (xs : List X) (x : X) → list_any (λ o. nat_eq (key o) (key x)) xs ≡ false → AllPairs (λ s t. key s ≢ key t) xs → AllPairs (λ s t. key s ≢ key t) (xs ++ x ∷ [])
keys_stay key xs x none all = AllPairs-push (λ s t. key s ≢ key t) xs x all (no_key key xs (key x) none)

-- ---- values

pub within_ok : (low high : ℕ) (f : ConfigFault) (n m : ℕ) → within low high f n ≡ Ok m → (m ≡ n) × IsWithin low high m
unfolding within
within_ok low high f n m e =
    let p = passed (nat_le low n && nat_le n high) f n m e in
    let both = and_parts (nat_le low n) (nat_le n high) p.0 in
    let least = leb-true low n both.0 in
    let most = leb-true n high both.1 in
    (sym p.1, rw (← p.1) (record { least = least; most = most }))

only_bits_ok : (allowed : ℕ) (f : ConfigFault) (bits m : ℕ) → only_bits allowed f bits ≡ Ok m → (m ≡ bits) × (m ≤ allowed)
unfolding only_bits
only_bits_ok allowed f bits m e =
    let p = passed (nat_eq (bit_and bits allowed) bits) f bits m e in
    let same = eqb-true _ _ p.0 in
    (sym p.1, omega (arith, and_le_r bits allowed, same, p.1))

-- ---- objects

not_zero : (n : ℕ) → nat_eq n 0 ≡ false → 1 ≤ n
not_zero n h = grind (arith, nat_tests)

refused_ok : (test : Bool) (f : ConfigFault) (x : Unit {0}) → refused test f ≡ Ok x → test ≡ false
refused_ok test f x e = not_refused test f tt x e

-- the values of steps that did not fail, and what they make
pub one_ok : {A X : Type 0} (r : Result A ConfigFault) (f : A → X) (x : X) → (r >>= λ a. Ok (f a)) ≡ Ok x → (a : A) × (r ≡ Ok a) × (f a ≡ x)
one_ok (Err w) f x h = absurd (cc)
one_ok (Ok a) f x h = (a, refl, ok_is (f a) x h)

pub two_ok : {A B X : Type 0} (r0 : Result A ConfigFault) (r1 : Result B ConfigFault) (f : A → B → X) (x : X) → (r0 >>= λ a. r1 >>= λ b. Ok (f a b)) ≡ Ok x
    → (a : A) × (b : B) × (r0 ≡ Ok a) × (r1 ≡ Ok b) × (f a b ≡ x)
two_ok (Err w) r1 f x h = absurd (cc)
two_ok (Ok a) (Err w) f x h = absurd (cc)
two_ok (Ok a) (Ok b) f x h = (a, b, refl, refl, ok_is (f a b) x h)

three_ok : {A B C X : Type 0} (r0 : Result A ConfigFault) (r1 : Result B ConfigFault) (r2 : Result C ConfigFault) (f : A → B → C → X) (x : X) → (r0 >>= λ a. r1 >>= λ b. r2 >>= λ c. Ok (f a b c)) ≡ Ok x
    → (a : A) × (b : B) × (c : C) × (r0 ≡ Ok a) × (r1 ≡ Ok b) × (r2 ≡ Ok c) × (f a b c ≡ x)
three_ok (Err w) r1 r2 f x h = absurd (cc)
three_ok (Ok a) (Err w) r2 f x h = absurd (cc)
three_ok (Ok a) (Ok b) (Err w) f x h = absurd (cc)
three_ok (Ok a) (Ok b) (Ok c) f x h = (a, b, c, refl, refl, refl, ok_is (f a b c) x h)

four_ok : {A B C D X : Type 0} (r0 : Result A ConfigFault) (r1 : Result B ConfigFault) (r2 : Result C ConfigFault) (r3 : Result D ConfigFault) (f : A → B → C → D → X) (x : X) → (r0 >>= λ a. r1 >>= λ b. r2 >>= λ c. r3 >>= λ d. Ok (f a b c d)) ≡ Ok x
    → (a : A) × (b : B) × (c : C) × (d : D) × (r0 ≡ Ok a) × (r1 ≡ Ok b) × (r2 ≡ Ok c) × (r3 ≡ Ok d) × (f a b c d ≡ x)
four_ok (Err w) r1 r2 r3 f x h = absurd (cc)
four_ok (Ok a) (Err w) r2 r3 f x h = absurd (cc)
four_ok (Ok a) (Ok b) (Err w) r3 f x h = absurd (cc)
four_ok (Ok a) (Ok b) (Ok c) (Err w) f x h = absurd (cc)
four_ok (Ok a) (Ok b) (Ok c) (Ok d) f x h = (a, b, c, d, refl, refl, refl, refl, ok_is (f a b c d) x h)

five_ok : {A B C D E X : Type 0} (r0 : Result A ConfigFault) (r1 : Result B ConfigFault) (r2 : Result C ConfigFault) (r3 : Result D ConfigFault) (r4 : Result E ConfigFault) (f : A → B → C → D → E → X) (x : X) → (r0 >>= λ a. r1 >>= λ b. r2 >>= λ c. r3 >>= λ d. r4 >>= λ e. Ok (f a b c d e)) ≡ Ok x
    → (a : A) × (b : B) × (c : C) × (d : D) × (e : E) × (r0 ≡ Ok a) × (r1 ≡ Ok b) × (r2 ≡ Ok c) × (r3 ≡ Ok d) × (r4 ≡ Ok e) × (f a b c d e ≡ x)
five_ok (Err w) r1 r2 r3 r4 f x h = absurd (cc)
five_ok (Ok a) (Err w) r2 r3 r4 f x h = absurd (cc)
five_ok (Ok a) (Ok b) (Err w) r3 r4 f x h = absurd (cc)
five_ok (Ok a) (Ok b) (Ok c) (Err w) r4 f x h = absurd (cc)
five_ok (Ok a) (Ok b) (Ok c) (Ok d) (Err w) f x h = absurd (cc)
five_ok (Ok a) (Ok b) (Ok c) (Ok d) (Ok v) f x h = (a, b, c, d, v, refl, refl, refl, refl, refl, ok_is (f a b c d v) x h)

pub task_ok : (line : ℕ) (tasks : List TaskConfig) (processors processor : ℕ) (t : TaskStatement) (x : TaskConfig) → IsWithin 1 processors processor → task_of line tasks processor t ≡ Ok x
    → IsTask processors x × (list_any (λ o. nat_eq o.id x.id) tasks ≡ false) × (x ≡ task_said processor t)
unfolding task_of task_numbers
task_ok line tasks processors processor t x on e =
    let numbers = one_ok (task_numbers line tasks t)
    (λ numbers. record { id = numbers.0; processor = processor; attributes = record { 0 = numbers.1 }; exinf = t.exinf; address = t.address; priority = numbers.2; stack_size = t.stack_size; stack = t.stack }) x e in
    let p = five_ok (within 1 255 (BadId line) t.id) (refused (list_any (λ o. nat_eq o.id t.id) tasks) (Duplicate line)) (only_bits 3 (BadAttribute line) t.attributes)
    (within 1 16 (BadPriority line) t.priority) (refused (nat_eq t.stack_size 0) (BadCount line))
    (λ id new attributes priority sized. (id, attributes, priority)) numbers.0 numbers.1 in
    let id = within_ok 1 255 (BadId line) t.id p.0 p.5 in
    let new = refused_ok (list_any (λ o. nat_eq o.id t.id) tasks) (Duplicate line) p.1 p.6 in
    let attributes = only_bits_ok 3 (BadAttribute line) t.attributes p.2 p.7 in
    let priority = within_ok 1 16 (BadPriority line) t.priority p.3 p.8 in
    let sized : 1 ≤ t.stack_size = not_zero t.stack_size (refused_ok (nat_eq t.stack_size 0) (BadCount line) p.4 p.9) in
    rw (← numbers.2, ← p.10) (record { id = id.1; processor = on; attributes = attributes.1; priority = priority.1; stack_size = sized }, rw id.0 new, rw (id.0, attributes.0, priority.0) refl)

pub semaphore_ok : (line : ℕ) (semaphores : List SemaphoreConfig) (t : SemaphoreStatement) (x : SemaphoreConfig) → semaphore_of line semaphores t ≡ Ok x
    → IsSemaphore x × (list_any (λ o. nat_eq o.id x.id) semaphores ≡ false) × (x ≡ semaphore_said t)
unfolding semaphore_of
semaphore_ok line semaphores t x e =
    let p = five_ok (within 1 255 (BadId line) t.id) (refused (list_any (λ o. nat_eq o.id t.id) semaphores) (Duplicate line)) (only_bits 1 (BadAttribute line) t.attributes)
    (within 1 65535 (BadCount line) t.maximum) (within 0 t.maximum (BadCount line) t.initial)
    (λ id new attributes maximum initial. record { id = id; attributes = record { 0 = attributes }; initial = initial; maximum = maximum }) x e in
    let id = within_ok 1 255 (BadId line) t.id p.0 p.5 in
    let new = refused_ok (list_any (λ o. nat_eq o.id t.id) semaphores) (Duplicate line) p.1 p.6 in
    let attributes = only_bits_ok 1 (BadAttribute line) t.attributes p.2 p.7 in
    let maximum = within_ok 1 65535 (BadCount line) t.maximum p.3 p.8 in
    let initial = within_ok 0 t.maximum (BadCount line) t.initial p.4 p.9 in
    rw (← p.10) (record { id = id.1; attributes = attributes.1; initial = rw maximum.0 initial.1.most; maximum = maximum.1 }, rw id.0 new, rw (id.0, attributes.0, initial.0, maximum.0) refl)

pub flag_ok : (line : ℕ) (flags : List FlagConfig) (t : FlagStatement) (x : FlagConfig) → flag_of line flags t ≡ Ok x → IsFlag x × (list_any (λ o. nat_eq o.id x.id) flags ≡ false) × (x ≡ flag_said t)
unfolding flag_of
flag_ok line flags t x e =
    let p = three_ok (within 1 255 (BadId line) t.id) (refused (list_any (λ o. nat_eq o.id t.id) flags) (Duplicate line)) (only_bits 7 (BadAttribute line) t.attributes)
    (λ id new attributes. record { id = id; attributes = record { 0 = attributes }; pattern = t.pattern }) x e in
    let id = within_ok 1 255 (BadId line) t.id p.0 p.3 in
    let new = refused_ok (list_any (λ o. nat_eq o.id t.id) flags) (Duplicate line) p.1 p.4 in
    let attributes = only_bits_ok 7 (BadAttribute line) t.attributes p.2 p.5 in
    rw (← p.6) (record { id = id.1; attributes = attributes.1 }, rw id.0 new, rw (id.0, attributes.0) refl)

pub queue_ok : (line : ℕ) (queues : List QueueConfig) (t : QueueStatement) (x : QueueConfig) → queue_of line queues t ≡ Ok x → IsQueue x × (list_any (λ o. nat_eq o.id x.id) queues ≡ false) × (x ≡ queue_said t)
unfolding queue_of
queue_ok line queues t x e =
    let p = four_ok (within 1 255 (BadId line) t.id) (refused (list_any (λ o. nat_eq o.id t.id) queues) (Duplicate line)) (only_bits 1 (BadAttribute line) t.attributes)
    (within 0 256 (BadCount line) t.capacity) (λ id new attributes capacity. record { id = id; attributes = record { 0 = attributes }; capacity = capacity }) x e in
    let id = within_ok 1 255 (BadId line) t.id p.0 p.4 in
    let new = refused_ok (list_any (λ o. nat_eq o.id t.id) queues) (Duplicate line) p.1 p.5 in
    let attributes = only_bits_ok 1 (BadAttribute line) t.attributes p.2 p.6 in
    let capacity = within_ok 0 256 (BadCount line) t.capacity p.3 p.7 in
    rw (← p.8) (record { id = id.1; attributes = attributes.1; capacity = capacity.1.most }, rw id.0 new, rw (id.0, attributes.0, capacity.0) refl)

pub spin_lock_ok : (line : ℕ) (spin_locks : List SpinLockConfig) (t : SpinLockStatement) (x : SpinLockConfig) → spin_lock_of line spin_locks t ≡ Ok x
    → IsSpinLock x × (list_any (λ o. nat_eq o.id x.id) spin_locks ≡ false) × (x ≡ spin_lock_said t) × (t.attributes ≡ 0)
unfolding spin_lock_of
spin_lock_ok line spin_locks t x e =
    let p = three_ok (within 1 255 (BadId line) t.id) (refused (list_any (λ o. nat_eq o.id t.id) spin_locks) (Duplicate line)) (only_bits 0 (BadAttribute line) t.attributes)
    (λ id new attributes. record { id = id }) x e in
    let id = within_ok 1 255 (BadId line) t.id p.0 p.3 in
    let new = refused_ok (list_any (λ o. nat_eq o.id t.id) spin_locks) (Duplicate line) p.1 p.4 in
    let attributes = only_bits_ok 0 (BadAttribute line) t.attributes p.2 p.5 in
    rw (← p.6) (record { id = id.1 }, rw id.0 new, rw id.0 refl, omega (arith, attributes.0, attributes.1))

pub mutex_ok : (line : ℕ) (mutexes : List MutexConfig) (t : MutexStatement) (x : MutexConfig) → mutex_of line mutexes t ≡ Ok x
    → IsMutex x × (list_any (λ o. nat_eq o.id x.id) mutexes ≡ false) × (x ≡ mutex_said t) × (t.protocol ≤ 3)
unfolding mutex_of
mutex_ok line mutexes t x e =
    let p = four_ok (within 1 255 (BadId line) t.id) (refused (list_any (λ o. nat_eq o.id t.id) mutexes) (Duplicate line)) (within 0 3 (BadAttribute line) t.protocol)
    (within (least_ceiling (meant_protocol t.protocol)) 16 (BadPriority line) t.ceiling) (λ id new number ceiling. record { id = id; protocol = meant_protocol number; ceiling = ceiling }) x e in
    let id = within_ok 1 255 (BadId line) t.id p.0 p.4 in
    let new = refused_ok (list_any (λ o. nat_eq o.id t.id) mutexes) (Duplicate line) p.1 p.5 in
    let number = within_ok 0 3 (BadAttribute line) t.protocol p.2 p.6 in
    let ceiling = within_ok (least_ceiling (meant_protocol t.protocol)) 16 (BadPriority line) t.ceiling p.3 p.7 in
    rw (← p.8) (record { id = id.1; ceiling = rw number.0 ceiling.1 }, rw id.0 new, rw (id.0, number.0, ceiling.0) refl, omega (arith, number.0, number.1.most))

pub pool_ok : (line ram : ℕ) (pools : List PoolConfig) (t : PoolStatement) (x : PoolConfig) → pool_of line ram pools t ≡ Ok x
    → IsPool ram x × (list_any (λ o. nat_eq o.id x.id) pools ≡ false) × (x ≡ pool_said t)
unfolding pool_of
pool_ok line ram pools t x e =
    let p = five_ok (within 1 255 (BadId line) t.id) (refused (list_any (λ o. nat_eq o.id t.id) pools) (Duplicate line)) (only_bits 1 (BadAttribute line) t.attributes)
    (within 1 256 (BadCount line) t.count) (within 1 ram (BadCount line) t.size)
    (λ id new attributes count size. record { id = id; attributes = record { 0 = attributes }; count = count; size = size; area = t.area }) x e in
    let id = within_ok 1 255 (BadId line) t.id p.0 p.5 in
    let new = refused_ok (list_any (λ o. nat_eq o.id t.id) pools) (Duplicate line) p.1 p.6 in
    let attributes = only_bits_ok 1 (BadAttribute line) t.attributes p.2 p.7 in
    let count = within_ok 1 256 (BadCount line) t.count p.3 p.8 in
    let size = within_ok 1 ram (BadCount line) t.size p.4 p.9 in
    rw (← p.10) (record { id = id.1; attributes = attributes.1; count = count.1; size = size.1 }, rw id.0 new, rw (id.0, attributes.0, count.0, size.0) refl)

pub mailbox_ok : (line : ℕ) (mailboxes : List MailboxConfig) (t : MailboxStatement) (x : MailboxConfig) → mailbox_of line mailboxes t ≡ Ok x
    → IsMailbox x × (list_any (λ o. nat_eq o.id x.id) mailboxes ≡ false) × (x ≡ mailbox_said t)
unfolding mailbox_of
mailbox_ok line mailboxes t x e =
    let p = four_ok (within 1 255 (BadId line) t.id) (refused (list_any (λ o. nat_eq o.id t.id) mailboxes) (Duplicate line)) (only_bits 3 (BadAttribute line) t.attributes)
    (within 1 16 (BadPriority line) t.priorities) (λ id new attributes priorities. record { id = id; attributes = record { 0 = attributes }; priorities = priorities }) x e in
    let id = within_ok 1 255 (BadId line) t.id p.0 p.4 in
    let new = refused_ok (list_any (λ o. nat_eq o.id t.id) mailboxes) (Duplicate line) p.1 p.5 in
    let attributes = only_bits_ok 3 (BadAttribute line) t.attributes p.2 p.6 in
    let priorities = within_ok 1 16 (BadPriority line) t.priorities p.3 p.7 in
    rw (← p.8) (record { id = id.1; attributes = attributes.1; priorities = priorities.1 }, rw id.0 new, rw (id.0, attributes.0, priorities.0) refl)

pub cyclic_ok : (line : ℕ) (cyclics : List CyclicConfig) (processors processor : ℕ) (t : CyclicStatement) (x : CyclicConfig) → IsWithin 1 processors processor → cyclic_of line cyclics processor t ≡ Ok x
    → IsCyclic processors x × (list_any (λ o. nat_eq o.id x.id) cyclics ≡ false) × (x ≡ cyclic_said processor t)
unfolding cyclic_of
cyclic_ok line cyclics processors processor t x on e =
    let p = five_ok (within 1 64 (BadId line) t.id) (refused (list_any (λ o. nat_eq o.id t.id) cyclics) (Duplicate line)) (only_bits 7 (BadAttribute line) t.attributes)
    (within 1 most_ticks (BadCount line) t.period) (within 0 most_ticks (BadCount line) t.phase)
    (λ id new attributes period phase. record { id = id; processor = processor; attributes = record { 0 = attributes }; exinf = t.exinf; address = t.address; period = period; phase = phase }) x e in
    let id = within_ok 1 64 (BadId line) t.id p.0 p.5 in
    let new = refused_ok (list_any (λ o. nat_eq o.id t.id) cyclics) (Duplicate line) p.1 p.6 in
    let attributes = only_bits_ok 7 (BadAttribute line) t.attributes p.2 p.7 in
    let period = within_ok 1 most_ticks (BadCount line) t.period p.3 p.8 in
    let phase = within_ok 0 most_ticks (BadCount line) t.phase p.4 p.9 in
    rw (← p.10) (record { id = id.1; processor = on; attributes = attributes.1; period = period.1; phase = phase.1.most }, rw id.0 new, rw (id.0, attributes.0, period.0, phase.0) refl)

pub alarm_ok : (line : ℕ) (alarms : List AlarmConfig) (processors processor : ℕ) (t : AlarmStatement) (x : AlarmConfig) → IsWithin 1 processors processor → alarm_of line alarms processor t ≡ Ok x
    → IsAlarm processors x × (list_any (λ o. nat_eq o.id x.id) alarms ≡ false) × (x ≡ alarm_said processor t) × (t.attributes ≤ 1)
unfolding alarm_of
alarm_ok line alarms processors processor t x on e =
    let p = three_ok (within 1 64 (BadId line) t.id) (refused (list_any (λ o. nat_eq o.id t.id) alarms) (Duplicate line)) (only_bits 1 (BadAttribute line) t.attributes)
    (λ id new attributes. record { id = id; processor = processor; exinf = t.exinf; address = t.address }) x e in
    let id = within_ok 1 64 (BadId line) t.id p.0 p.3 in
    let new = refused_ok (list_any (λ o. nat_eq o.id t.id) alarms) (Duplicate line) p.1 p.4 in
    let attributes = only_bits_ok 1 (BadAttribute line) t.attributes p.2 p.5 in
    rw (← p.6) (record { id = id.1; processor = on }, rw id.0 new, rw id.0 refl, omega (arith, attributes.0, attributes.1))

pub handler_ok : (line : ℕ) (handlers : List HandlerConfig) (processors processor : ℕ) (t : HandlerStatement) (x : HandlerConfig) → IsWithin 1 processors processor → handler_of line handlers processor t ≡ Ok x
    → IsHandler processors x × (list_any (λ o. nat_eq o.line x.line) handlers ≡ false) × (x ≡ handler_said processor t) × (t.attributes ≤ 1)
unfolding handler_of
handler_ok line handlers processors processor t x on e =
    let p = three_ok (within 0 31 (BadId line) t.line) (refused (list_any (λ o. nat_eq o.line t.line) handlers) (Duplicate line)) (only_bits 1 (BadAttribute line) t.attributes)
    (λ number new attributes. record { line = number; processor = processor; address = t.address }) x e in
    let number = within_ok 0 31 (BadId line) t.line p.0 p.3 in
    let new = refused_ok (list_any (λ o. nat_eq o.line t.line) handlers) (Duplicate line) p.1 p.4 in
    let attributes = only_bits_ok 1 (BadAttribute line) t.attributes p.2 p.5 in
    rw (← p.6) (record { line = number.1.most; processor = on }, rw number.0 new, rw number.0 refl, omega (arith, attributes.0, attributes.1))

-- ---- statements

-- what holds of the statements so far
pub record IsState (s : State) : Type 0 where
  pub config : IsConfiguration s.config
  pub class : IsWithin 1 s.config.processors (processor_of s.class)

pub added_ok : (line : ℕ) (s t : State) (x : Statement) → added line s x ≡ Ok t → IsState s → IsState t
unfolding added
added_ok line s t (Board processors ram) e h = absurd (never (within 1 8 (BadProcessor line) processors) e)
  where
    never : (r : Result ℕ ConfigFault) → (r >>= λ count. Err (Duplicate line)) ≡ Ok t → ⊥
    never (Ok count) e = cc
    never (Err w) e = cc
added_ok line s t (Class n) e h =
    let p = one_ok (within 1 s.config.processors (BadProcessor line) n) (λ processor. record s { class = Some processor }) t e in
    rw (← p.2) (record { config = h.config; class = (within_ok 1 s.config.processors (BadProcessor line) n p.0 p.1).1 })
added_ok line s t ClassEnd e h = rw (← ok_is (record s { class = None }) t e) (record { config = h.config; class = record { least = omega arith; most = h.config.processors.least } })
added_ok line s t (Task x) e h =
    let p = one_ok (task_of line s.config.tasks (processor_of s.class) x) (λ made. record s { config = record s.config { tasks = s.config.tasks ++ made ∷ [] } }) t e in
    let ok = task_ok line s.config.tasks s.config.processors (processor_of s.class) x p.0 h.class p.1 in
    rw (← p.2) (record {
      config = record { processors = h.config.processors; ram = h.config.ram; tasks = All-push (IsTask s.config.processors) s.config.tasks p.0 h.config.tasks ok.0; semaphores = h.config.semaphores; flags = h.config.flags; queues = h.config.queues; spin_locks = h.config.spin_locks; mutexes = h.config.mutexes; pools = h.config.pools; mailboxes = h.config.mailboxes; cyclics = h.config.cyclics; alarms = h.config.alarms; handlers = h.config.handlers; task_ids = keys_stay (λ o. o.id) s.config.tasks p.0 ok.1 h.config.task_ids; semaphore_ids = h.config.semaphore_ids; flag_ids = h.config.flag_ids; queue_ids = h.config.queue_ids; spin_lock_ids = h.config.spin_lock_ids; mutex_ids = h.config.mutex_ids; pool_ids = h.config.pool_ids; mailbox_ids = h.config.mailbox_ids; cyclic_ids = h.config.cyclic_ids; alarm_ids = h.config.alarm_ids; handler_lines = h.config.handler_lines };
      class = h.class;
    })
added_ok line s t (Semaphore x) e h =
    let p = one_ok (semaphore_of line s.config.semaphores x) (λ made. record s { config = record s.config { semaphores = s.config.semaphores ++ made ∷ [] } }) t e in
    let ok = semaphore_ok line s.config.semaphores x p.0 p.1 in
    rw (← p.2) (record {
      config = record { processors = h.config.processors; ram = h.config.ram; tasks = h.config.tasks; semaphores = All-push IsSemaphore s.config.semaphores p.0 h.config.semaphores ok.0; flags = h.config.flags; queues = h.config.queues; spin_locks = h.config.spin_locks; mutexes = h.config.mutexes; pools = h.config.pools; mailboxes = h.config.mailboxes; cyclics = h.config.cyclics; alarms = h.config.alarms; handlers = h.config.handlers; task_ids = h.config.task_ids; semaphore_ids = keys_stay (λ o. o.id) s.config.semaphores p.0 ok.1 h.config.semaphore_ids; flag_ids = h.config.flag_ids; queue_ids = h.config.queue_ids; spin_lock_ids = h.config.spin_lock_ids; mutex_ids = h.config.mutex_ids; pool_ids = h.config.pool_ids; mailbox_ids = h.config.mailbox_ids; cyclic_ids = h.config.cyclic_ids; alarm_ids = h.config.alarm_ids; handler_lines = h.config.handler_lines };
      class = h.class;
    })
added_ok line s t (Flag x) e h =
    let p = one_ok (flag_of line s.config.flags x) (λ made. record s { config = record s.config { flags = s.config.flags ++ made ∷ [] } }) t e in
    let ok = flag_ok line s.config.flags x p.0 p.1 in
    rw (← p.2) (record {
      config = record { processors = h.config.processors; ram = h.config.ram; tasks = h.config.tasks; semaphores = h.config.semaphores; flags = All-push IsFlag s.config.flags p.0 h.config.flags ok.0; queues = h.config.queues; spin_locks = h.config.spin_locks; mutexes = h.config.mutexes; pools = h.config.pools; mailboxes = h.config.mailboxes; cyclics = h.config.cyclics; alarms = h.config.alarms; handlers = h.config.handlers; task_ids = h.config.task_ids; semaphore_ids = h.config.semaphore_ids; flag_ids = keys_stay (λ o. o.id) s.config.flags p.0 ok.1 h.config.flag_ids; queue_ids = h.config.queue_ids; spin_lock_ids = h.config.spin_lock_ids; mutex_ids = h.config.mutex_ids; pool_ids = h.config.pool_ids; mailbox_ids = h.config.mailbox_ids; cyclic_ids = h.config.cyclic_ids; alarm_ids = h.config.alarm_ids; handler_lines = h.config.handler_lines };
      class = h.class;
    })
added_ok line s t (Queue x) e h =
    let p = one_ok (queue_of line s.config.queues x) (λ made. record s { config = record s.config { queues = s.config.queues ++ made ∷ [] } }) t e in
    let ok = queue_ok line s.config.queues x p.0 p.1 in
    rw (← p.2) (record {
      config = record { processors = h.config.processors; ram = h.config.ram; tasks = h.config.tasks; semaphores = h.config.semaphores; flags = h.config.flags; queues = All-push IsQueue s.config.queues p.0 h.config.queues ok.0; spin_locks = h.config.spin_locks; mutexes = h.config.mutexes; pools = h.config.pools; mailboxes = h.config.mailboxes; cyclics = h.config.cyclics; alarms = h.config.alarms; handlers = h.config.handlers; task_ids = h.config.task_ids; semaphore_ids = h.config.semaphore_ids; flag_ids = h.config.flag_ids; queue_ids = keys_stay (λ o. o.id) s.config.queues p.0 ok.1 h.config.queue_ids; spin_lock_ids = h.config.spin_lock_ids; mutex_ids = h.config.mutex_ids; pool_ids = h.config.pool_ids; mailbox_ids = h.config.mailbox_ids; cyclic_ids = h.config.cyclic_ids; alarm_ids = h.config.alarm_ids; handler_lines = h.config.handler_lines };
      class = h.class;
    })
added_ok line s t (SpinLock x) e h =
    let p = one_ok (spin_lock_of line s.config.spin_locks x) (λ made. record s { config = record s.config { spin_locks = s.config.spin_locks ++ made ∷ [] } }) t e in
    let ok = spin_lock_ok line s.config.spin_locks x p.0 p.1 in
    rw (← p.2) (record {
      config = record { processors = h.config.processors; ram = h.config.ram; tasks = h.config.tasks; semaphores = h.config.semaphores; flags = h.config.flags; queues = h.config.queues; spin_locks = All-push IsSpinLock s.config.spin_locks p.0 h.config.spin_locks ok.0; mutexes = h.config.mutexes; pools = h.config.pools; mailboxes = h.config.mailboxes; cyclics = h.config.cyclics; alarms = h.config.alarms; handlers = h.config.handlers; task_ids = h.config.task_ids; semaphore_ids = h.config.semaphore_ids; flag_ids = h.config.flag_ids; queue_ids = h.config.queue_ids; spin_lock_ids = keys_stay (λ o. o.id) s.config.spin_locks p.0 ok.1 h.config.spin_lock_ids; mutex_ids = h.config.mutex_ids; pool_ids = h.config.pool_ids; mailbox_ids = h.config.mailbox_ids; cyclic_ids = h.config.cyclic_ids; alarm_ids = h.config.alarm_ids; handler_lines = h.config.handler_lines };
      class = h.class;
    })
added_ok line s t (Mutex x) e h =
    let p = one_ok (mutex_of line s.config.mutexes x) (λ made. record s { config = record s.config { mutexes = s.config.mutexes ++ made ∷ [] } }) t e in
    let ok = mutex_ok line s.config.mutexes x p.0 p.1 in
    rw (← p.2) (record {
      config = record { processors = h.config.processors; ram = h.config.ram; tasks = h.config.tasks; semaphores = h.config.semaphores; flags = h.config.flags; queues = h.config.queues; spin_locks = h.config.spin_locks; mutexes = All-push IsMutex s.config.mutexes p.0 h.config.mutexes ok.0; pools = h.config.pools; mailboxes = h.config.mailboxes; cyclics = h.config.cyclics; alarms = h.config.alarms; handlers = h.config.handlers; task_ids = h.config.task_ids; semaphore_ids = h.config.semaphore_ids; flag_ids = h.config.flag_ids; queue_ids = h.config.queue_ids; spin_lock_ids = h.config.spin_lock_ids; mutex_ids = keys_stay (λ o. o.id) s.config.mutexes p.0 ok.1 h.config.mutex_ids; pool_ids = h.config.pool_ids; mailbox_ids = h.config.mailbox_ids; cyclic_ids = h.config.cyclic_ids; alarm_ids = h.config.alarm_ids; handler_lines = h.config.handler_lines };
      class = h.class;
    })
added_ok line s t (Pool x) e h =
    let p = one_ok (pool_of line s.config.ram s.config.pools x) (λ made. record s { config = record s.config { pools = s.config.pools ++ made ∷ [] } }) t e in
    let ok = pool_ok line s.config.ram s.config.pools x p.0 p.1 in
    rw (← p.2) (record {
      config = record { processors = h.config.processors; ram = h.config.ram; tasks = h.config.tasks; semaphores = h.config.semaphores; flags = h.config.flags; queues = h.config.queues; spin_locks = h.config.spin_locks; mutexes = h.config.mutexes; pools = All-push (IsPool s.config.ram) s.config.pools p.0 h.config.pools ok.0; mailboxes = h.config.mailboxes; cyclics = h.config.cyclics; alarms = h.config.alarms; handlers = h.config.handlers; task_ids = h.config.task_ids; semaphore_ids = h.config.semaphore_ids; flag_ids = h.config.flag_ids; queue_ids = h.config.queue_ids; spin_lock_ids = h.config.spin_lock_ids; mutex_ids = h.config.mutex_ids; pool_ids = keys_stay (λ o. o.id) s.config.pools p.0 ok.1 h.config.pool_ids; mailbox_ids = h.config.mailbox_ids; cyclic_ids = h.config.cyclic_ids; alarm_ids = h.config.alarm_ids; handler_lines = h.config.handler_lines };
      class = h.class;
    })
added_ok line s t (Mailbox x) e h =
    let p = one_ok (mailbox_of line s.config.mailboxes x) (λ made. record s { config = record s.config { mailboxes = s.config.mailboxes ++ made ∷ [] } }) t e in
    let ok = mailbox_ok line s.config.mailboxes x p.0 p.1 in
    rw (← p.2) (record {
      config = record { processors = h.config.processors; ram = h.config.ram; tasks = h.config.tasks; semaphores = h.config.semaphores; flags = h.config.flags; queues = h.config.queues; spin_locks = h.config.spin_locks; mutexes = h.config.mutexes; pools = h.config.pools; mailboxes = All-push IsMailbox s.config.mailboxes p.0 h.config.mailboxes ok.0; cyclics = h.config.cyclics; alarms = h.config.alarms; handlers = h.config.handlers; task_ids = h.config.task_ids; semaphore_ids = h.config.semaphore_ids; flag_ids = h.config.flag_ids; queue_ids = h.config.queue_ids; spin_lock_ids = h.config.spin_lock_ids; mutex_ids = h.config.mutex_ids; pool_ids = h.config.pool_ids; mailbox_ids = keys_stay (λ o. o.id) s.config.mailboxes p.0 ok.1 h.config.mailbox_ids; cyclic_ids = h.config.cyclic_ids; alarm_ids = h.config.alarm_ids; handler_lines = h.config.handler_lines };
      class = h.class;
    })
added_ok line s t (Cyclic x) e h =
    let p = one_ok (cyclic_of line s.config.cyclics (processor_of s.class) x) (λ made. record s { config = record s.config { cyclics = s.config.cyclics ++ made ∷ [] } }) t e in
    let ok = cyclic_ok line s.config.cyclics s.config.processors (processor_of s.class) x p.0 h.class p.1 in
    rw (← p.2) (record {
      config = record { processors = h.config.processors; ram = h.config.ram; tasks = h.config.tasks; semaphores = h.config.semaphores; flags = h.config.flags; queues = h.config.queues; spin_locks = h.config.spin_locks; mutexes = h.config.mutexes; pools = h.config.pools; mailboxes = h.config.mailboxes; cyclics = All-push (IsCyclic s.config.processors) s.config.cyclics p.0 h.config.cyclics ok.0; alarms = h.config.alarms; handlers = h.config.handlers; task_ids = h.config.task_ids; semaphore_ids = h.config.semaphore_ids; flag_ids = h.config.flag_ids; queue_ids = h.config.queue_ids; spin_lock_ids = h.config.spin_lock_ids; mutex_ids = h.config.mutex_ids; pool_ids = h.config.pool_ids; mailbox_ids = h.config.mailbox_ids; cyclic_ids = keys_stay (λ o. o.id) s.config.cyclics p.0 ok.1 h.config.cyclic_ids; alarm_ids = h.config.alarm_ids; handler_lines = h.config.handler_lines };
      class = h.class;
    })
added_ok line s t (Alarm x) e h =
    let p = one_ok (alarm_of line s.config.alarms (processor_of s.class) x) (λ made. record s { config = record s.config { alarms = s.config.alarms ++ made ∷ [] } }) t e in
    let ok = alarm_ok line s.config.alarms s.config.processors (processor_of s.class) x p.0 h.class p.1 in
    rw (← p.2) (record {
      config = record { processors = h.config.processors; ram = h.config.ram; tasks = h.config.tasks; semaphores = h.config.semaphores; flags = h.config.flags; queues = h.config.queues; spin_locks = h.config.spin_locks; mutexes = h.config.mutexes; pools = h.config.pools; mailboxes = h.config.mailboxes; cyclics = h.config.cyclics; alarms = All-push (IsAlarm s.config.processors) s.config.alarms p.0 h.config.alarms ok.0; handlers = h.config.handlers; task_ids = h.config.task_ids; semaphore_ids = h.config.semaphore_ids; flag_ids = h.config.flag_ids; queue_ids = h.config.queue_ids; spin_lock_ids = h.config.spin_lock_ids; mutex_ids = h.config.mutex_ids; pool_ids = h.config.pool_ids; mailbox_ids = h.config.mailbox_ids; cyclic_ids = h.config.cyclic_ids; alarm_ids = keys_stay (λ o. o.id) s.config.alarms p.0 ok.1 h.config.alarm_ids; handler_lines = h.config.handler_lines };
      class = h.class;
    })
added_ok line s t (Handler x) e h =
    let p = one_ok (handler_of line s.config.handlers (processor_of s.class) x) (λ made. record s { config = record s.config { handlers = s.config.handlers ++ made ∷ [] } }) t e in
    let ok = handler_ok line s.config.handlers s.config.processors (processor_of s.class) x p.0 h.class p.1 in
    rw (← p.2) (record {
      config = record { processors = h.config.processors; ram = h.config.ram; tasks = h.config.tasks; semaphores = h.config.semaphores; flags = h.config.flags; queues = h.config.queues; spin_locks = h.config.spin_locks; mutexes = h.config.mutexes; pools = h.config.pools; mailboxes = h.config.mailboxes; cyclics = h.config.cyclics; alarms = h.config.alarms; handlers = All-push (IsHandler s.config.processors) s.config.handlers p.0 h.config.handlers ok.0; task_ids = h.config.task_ids; semaphore_ids = h.config.semaphore_ids; flag_ids = h.config.flag_ids; queue_ids = h.config.queue_ids; spin_lock_ids = h.config.spin_lock_ids; mutex_ids = h.config.mutex_ids; pool_ids = h.config.pool_ids; mailbox_ids = h.config.mailbox_ids; cyclic_ids = h.config.cyclic_ids; alarm_ids = h.config.alarm_ids; handler_lines = keys_stay (λ o. o.line) s.config.handlers p.0 ok.1 h.config.handler_lines };
      class = h.class;
    })

-- ---- the text

abbrev flowing : Flow (State × Text) Configuration → Result (Flow (State × Text) Configuration) ConfigFault
flowing f = Ok f

more_is : (n : State) (rest : Text) (t : State × Text) → flowing (More (n, rest)) ≡ Ok (More t) → n ≡ t.0
more_is n rest t e = let same : (n, rest) ≡ t = cc in ap (λ (p : State × Text). p.0) same

done_is : (c d : Configuration) → flowing (Done c) ≡ Ok (Done d) → c ≡ d
done_is c d e = cc

one_more_ok : (s t : State × Text) → one_more s ≡ Ok (More t) → IsState s.0 → IsState t.0
unfolding one_more
one_more_ok s t e h =
    let a = bind_ok (statement_at s.0.config.standard (is_some s.0.class) s.1) (λ read. added (first s.1).line s.0 read.0 >>= λ next. Ok (More (next, read.1))) (More t) e in
    let b = bind_ok (added (first s.1).line s.0 a.0.0) (λ next. Ok (More (next, a.0.1))) (More t) a.2 in
    subst IsState (more_is b.0 a.0.1 t b.2) (added_ok (first s.1).line s.0 b.0 a.0.0 b.1 h)

one_more_goes_on : (s : State × Text) (c : Configuration) → one_more s ≡ Ok (Done c) → ⊥
unfolding one_more
one_more_goes_on s c e =
    let a = bind_ok (statement_at s.0.config.standard (is_some s.0.class) s.1) (λ read. added (first s.1).line s.0 read.0 >>= λ next. Ok (More (next, read.1))) (Done c) e in
    let b = bind_ok (added (first s.1).line s.0 a.0.0) (λ next. Ok (More (next, a.0.1))) (Done c) a.2 in
    let never : flowing (More (b.0, a.0.1)) ≡ Ok (Done c) = b.2 in
    cc

-- either the end of the text, or one more statement
more_by : (b : Bool) (s t : State × Text) → cond b (Ok (Done s.0.config)) (one_more s) ≡ Ok (More t) → IsState s.0 → IsState t.0
more_by true s t e h = absurd (let never : flowing (Done s.0.config) ≡ Ok (More t) = e in cc)
more_by false s t e h = one_more_ok s t e h

done_by : (b : Bool) (s : State × Text) (c : Configuration) → cond b (Ok (Done s.0.config)) (one_more s) ≡ Ok (Done c) → IsState s.0 → IsConfiguration c
done_by true s c e h = subst IsConfiguration (done_is s.0.config c e) h.config
done_by false s c e h = absurd (one_more_goes_on s c e)

step_more : (s t : State × Text) → statement_step s ≡ Ok (More t) → IsState s.0 → IsState t.0
unfolding statement_step
step_more s t e h = more_by (is_none s.0.class && is_end (first s.1).token) s t e h

step_done : (s : State × Text) (c : Configuration) → statement_step s ≡ Ok (Done c) → IsState s.0 → IsConfiguration c
unfolding statement_step
step_done s c e h = done_by (is_none s.0.class && is_end (first s.1).token) s c e h

-- nothing but a board
board_ok : (standard : Bool) (line processors ram : ℕ) (c : Configuration) → board_of standard line processors ram ≡ Ok c → IsConfiguration c
unfolding board_of
board_ok standard line processors ram c e =
    let p = two_ok (within 1 8 (BadProcessor line) processors) (refused (not (is_ram_size ram)) (BadCount line))
    (λ count sized. record { standard = standard; processors = count; ram = ram; tasks = []; semaphores = []; flags = []; queues = []; spin_locks = []; mutexes = []; pools = []; mailboxes = []; cyclics = []; alarms = []; handlers = [] }) c e in
    let sized = not-false (is_ram_size ram) (refused_ok (not (is_ram_size ram)) (BadCount line) p.1 p.3) in
    rw (← p.4) (record {
      processors = (within_ok 1 8 (BadProcessor line) processors p.0 p.2).1;
      ram = has_ram_size ram sized;
      tasks = λ k d lt. absurd (omega arith);
      semaphores = λ k d lt. absurd (omega arith);
      flags = λ k d lt. absurd (omega arith);
      queues = λ k d lt. absurd (omega arith);
      spin_locks = λ k d lt. absurd (omega arith);
      mutexes = λ k d lt. absurd (omega arith);
      pools = λ k d lt. absurd (omega arith);
      mailboxes = λ k d lt. absurd (omega arith);
      cyclics = λ k d lt. absurd (omega arith);
      alarms = λ k d lt. absurd (omega arith);
      handlers = λ k d lt. absurd (omega arith);
      task_ids = λ i j d lt below. absurd (omega arith);
      semaphore_ids = λ i j d lt below. absurd (omega arith);
      flag_ids = λ i j d lt below. absurd (omega arith);
      queue_ids = λ i j d lt below. absurd (omega arith);
      spin_lock_ids = λ i j d lt below. absurd (omega arith);
      mutex_ids = λ i j d lt below. absurd (omega arith);
      pool_ids = λ i j d lt below. absurd (omega arith);
      mailbox_ids = λ i j d lt below. absurd (omega arith);
      cyclic_ids = λ i j d lt below. absurd (omega arith);
      alarm_ids = λ i j d lt below. absurd (omega arith);
      handler_lines = λ i j d lt below. absurd (omega arith);
    })

first_board_ok : (standard : Bool) (line : ℕ) (t : Text) (s : State × Text) → first_board standard line t ≡ Ok s → IsState s.0
unfolding first_board
first_board_ok standard line t s e =
    let a = bind_ok (board_at t) (λ board. board_of standard line board.0 board.1 >>= λ config. Ok (record { config = config; class = None }, board.2)) s e in
    let b = bind_ok (board_of standard line a.0.0 a.0.1) (λ config. Ok (record { config = config; class = None }, a.0.2)) s a.2 in
    let made : State × Text = (record { config = b.0; class = None }, a.0.2) in
    let valid = board_ok standard line a.0.0 a.0.1 b.0 b.1 in
    let same : made ≡ s = ok_is made s b.2 in
    subst (λ (x : State × Text). IsState x.0) same (record { config = valid; class = record { least = omega arith; most = valid.processors.least } })

pub first_ok : (standard : Bool) (t : Text) (s : State × Text) → first_statement standard t ≡ Ok s → IsState s.0
unfolding first_statement
first_ok standard t s e = first_board_ok standard (first t).line (others t) s (passed_by (is_board (first t).token) e)
  where
    passed_by : (b : Bool) → cond b (first_board standard (first t).line (others t)) (Err (Syntax (first t).line)) ≡ Ok s → first_board standard (first t).line (others t) ≡ Ok s
    passed_by true e = e
    passed_by false e = absurd (cc)

from_is_valid : (x : Bool × Text) (c : Configuration) → config_from x ≡ Ok c → IsConfiguration c
unfolding config_from statements_from
from_is_valid x c e =
    let a = bind_ok (first_statement x.0 x.1) statements_from c e in
    keeps NoMemory statement_step (λ s. IsState s.0) IsConfiguration step_more step_done (suc (length a.0.1.tokens)) a.0 c (first_ok x.0 x.1 a.0 a.1) a.2

pub config_is_valid : (bytes : List ℕ) (c : Configuration) → config_of bytes ≡ Ok c → IsConfiguration c
unfolding config_of
config_is_valid bytes c e = from_is_valid (opened (tokens_of bytes)) c e
