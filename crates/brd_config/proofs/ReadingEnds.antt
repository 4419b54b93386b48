-- No reading is given up for the number of its steps: each takes a token.
use Rattle.std.proofs.Common.{◌≡◌, ◌≢◌, ℕ, zero, suc, ◌<◌, ◌≤◌, Bool, true, false, cond, ◌&&◌, List, [], ◌∷◌, length, Option, Some, None, Result, Ok, Err, ap, refl, ◌∙◌, arith}
use Rattle.std.specs.Prelude.{is_some, is_none, nat_eq, nat_le}
use Rattle.std.specs.Int.RustNames.{bit_and, bit_or}
use Rattle.std.proofs.lemmas.List.{length-append, length-map}
use Rattle.brd_text.specs.Tokens.{Token, Text, first, others, tokens_of}
use Rattle.brd_text.specs.Tokens.Token.{Run, Mark, Unclosed, End}
use Rattle.brd_text.specs.Numbers.{number_of}
use Rattle.brd_text.specs.Faults.{◌>>=◌, or_fault}
use Rattle.brd_text.specs.Turns.{Flow, followed, repeated, flow_of}
use Rattle.brd_text.specs.Turns.Flow.{More, Done}
use Rattle.brd_text.specs.Spelling.{bare_tokens}
use Rattle.brd_text.proofs.FaultLemmas.{bind_ok, ok_is}
use Rattle.brd_config.specs.declared.fault.ConfigFault.{ConfigFault}
use Rattle.brd_config.specs.declared.fault.ConfigFault.TheVariants.{NoMemory, Syntax, Duplicate, BadId, BadAttribute, BadPriority, BadCount, BadProcessor}
use Rattle.brd_config.specs.declared.objects.TaskConfig.{TaskConfig}
use Rattle.brd_config.specs.declared.objects.SemaphoreConfig.{SemaphoreConfig}
use Rattle.brd_config.specs.declared.objects.FlagConfig.{FlagConfig}
use Rattle.brd_config.specs.declared.objects.QueueConfig.{QueueConfig}
use Rattle.brd_config.specs.declared.objects.SpinLockConfig.{SpinLockConfig}
use Rattle.brd_config.specs.declared.objects.MutexConfig.{MutexConfig}
use Rattle.brd_config.specs.declared.objects.PoolConfig.{PoolConfig}
use Rattle.brd_config.specs.declared.objects.MailboxConfig.{MailboxConfig}
use Rattle.brd_config.specs.declared.objects.CyclicConfig.{CyclicConfig}
use Rattle.brd_config.specs.declared.objects.AlarmConfig.{AlarmConfig}
use Rattle.brd_config.specs.declared.objects.HandlerConfig.{HandlerConfig}
use Rattle.brd_config.specs.declared.statement.AttributeNames.{AttributeNames}
use Rattle.brd_config.specs.declared.statement.AttributeNames.TheVariants as named
use Rattle.brd_config.specs.declared.statement.Keyword.{Keyword}
use Rattle.brd_config.specs.declared.statement.Keyword.TheVariants as keywords
use Rattle.brd_config.specs.declared.statement.Statement.{Statement}
use Rattle.brd_config.specs.declared.statement.Statement.TheVariants.{Board, Class, ClassEnd, Task, Semaphore, Flag, Queue, SpinLock, Mutex, Pool, Mailbox, Cyclic, Alarm, Handler}
use Rattle.brd_config.specs.declared.statement.TaskStatement.{TaskStatement}
use Rattle.brd_config.specs.declared.statement.SemaphoreStatement.{SemaphoreStatement}
use Rattle.brd_config.specs.declared.statement.FlagStatement.{FlagStatement}
use Rattle.brd_config.specs.declared.statement.QueueStatement.{QueueStatement}
use Rattle.brd_config.specs.declared.statement.SpinLockStatement.{SpinLockStatement}
use Rattle.brd_config.specs.declared.statement.MutexStatement.{MutexStatement}
use Rattle.brd_config.specs.declared.statement.PoolStatement.{PoolStatement}
use Rattle.brd_config.specs.declared.statement.MailboxStatement.{MailboxStatement}
use Rattle.brd_config.specs.declared.statement.CyclicStatement.{CyclicStatement}
use Rattle.brd_config.specs.declared.statement.AlarmStatement.{AlarmStatement}
use Rattle.brd_config.specs.declared.statement.HandlerStatement.{HandlerStatement}
use Rattle.brd_config.specs.Configuration.{most_ticks}
use Rattle.brd_config.specs.Statements.{keyword_of, board_at, class_at, task_tail_at, task_at, semaphore_at, flag_at, queue_at, spin_lock_at, mutex_at, pool_at, mailbox_at, cyclic_at, alarm_at, handler_at, behind_keyword, statement_by, statement_at}
use Rattle.brd_config.specs.Reading.{attribute_of, class_of, protocol_of, operand_of, stack_of, is_null, is_area, run_of, number_at, expect_mark, mark_at, attribute_at, expect_joint, joint_at, attribute_step, attributes_at, operand_at, stack_at, area_at, null_at, class_number_at, protocol_at, listed_number_at, listed_operand_at, head_at, tail_at}
use Rattle.brd_config.specs.Meaning.{State, within, only_bits, refused, task_numbers, task_of, semaphore_of, flag_of, queue_of, spin_lock_of, mutex_of, pool_of, mailbox_of, cyclic_of, alarm_of, handler_of, added, processor_of, is_end, is_board, one_more, statement_step, statements_from, board_of, first_board, first_statement, opened, config_from, config_of}
use Rattle.brd_config.specs.Grammar.{Piece, Joined, IsSpelled, AreSpelled, form}
use Rattle.brd_config.specs.Grammar.Piece.{Exactly, Sign, Numeral, Attributes, Value, StackValue, Area, ClassName, Protocol}
use Rattle.brd_config.specs.Grammar.Joined.{last, bar}
use Rattle.brd_config.proofs.FormsBack.{read_by, attribute_back, statement_back}

-- ---- steps that end

-- an answer, or a fault of the text
record Ends {A : Type 0} (r : Result A ConfigFault) : Type 0 where
  never : r ≢ Err NoMemory

answer_ends : {A : Type 0} (x : A) → Ends (Ok x)
answer_ends x = record { never = λ e. cc }

-- a fault in place of a value
abbrev failed : {A : Type 0} → ConfigFault → Result A ConfigFault
failed f = Err f

fault_is : {A : Type 0} (f g : ConfigFault) → failed {A = A} f ≡ Err g → f ≡ g
fault_is f g e = cc

fault_ends : {A : Type 0} (f : ConfigFault) → f ≢ NoMemory → Ends {A = A} (Err f)
fault_ends {A = A} f other = record { never = λ e. other (fault_is {A = A} f NoMemory e) }

known_ends : {A B : Type 0} (r : Result A ConfigFault) (f : A → Result B ConfigFault) → Ends r → ((x : A) → r ≡ Ok x → Ends (f x)) → Ends (r >>= f)
known_ends (Ok x) f is behind = behind x refl
known_ends {A = A} (Err w) f is behind = fault_ends w (λ e. is.never (ap (λ (v : ConfigFault). Err v) e))

infixr 10 ◌then◌
◌then◌ : {A B : Type 0} {r : Result A ConfigFault} {f : A → Result B ConfigFault} → Ends r → ((x : A) → Ends (f x)) → Ends (r >>= f)
◌then◌ {r = r} {f = f} is behind = known_ends r f is (λ x e. behind x)

either_ends : {A : Type 0} (b : Bool) {x y : Result A ConfigFault} → Ends x → Ends y → Ends (cond b x y)
either_ends true is other = is
either_ends false is other = other

syntax_ends : {A : Type 0} (line : ℕ) → Ends {A = A} (Err (Syntax line))
syntax_ends line = fault_ends (Syntax line) (λ e. cc)

turn_ends : {S R : Type 0} (rest : S → Result R ConfigFault) (flow : Flow S R) → ((t : S) → flow ≡ More t → Ends (rest t)) → Ends (followed rest flow)
turn_ends rest (More t) again = again t refl
turn_ends rest (Done r) again = answer_ends r

turns_end : {S R : Type 0} (step : S → Result (Flow S R) ConfigFault) (size : S → ℕ) → ((s : S) → Ends (step s)) → ((s t : S) → step s ≡ Ok (More t) → size t < size s) → (n : ℕ) (s : S) → size s < n → Ends (repeated NoMemory step n s)
unfolding repeated
turns_end step size ends less zero s lt = absurd (omega (arith, lt))
turns_end step size ends less (suc n) s lt =
    known_ends (step s) (followed (repeated NoMemory step n)) (ends s)
    (λ flow e. turn_ends (repeated NoMemory step n) flow
    (λ t more. turns_end step size ends less n t (omega (arith, lt, less s t (e ∙ ap (λ f. Ok f) more)))))

-- ---- readers

run_ends : (w : Token) (line : ℕ) → Ends (run_of w line)
run_ends (Run run) line = answer_ends run
run_ends (Mark b) line = syntax_ends line
run_ends Unclosed line = syntax_ends line
run_ends End line = syntax_ends line

value_ends : {A : Type 0} (o : Option A) (line : ℕ) → Ends (or_fault (Syntax line) o)
value_ends None line = syntax_ends line
value_ends (Some x) line = answer_ends x

read_ends : {A : Type 0} (stands_for : List ℕ → Option A) (t : Text) → Ends (read_by stands_for t)
read_ends stands_for t = run_ends (first t).token (first t).line then λ run. value_ends (stands_for run) (first t).line then λ x. answer_ends (x, others t)

number_ends : (t : Text) → Ends (number_at t)
unfolding number_at
number_ends t = read_ends number_of t

operand_ends : (t : Text) → Ends (operand_at t)
unfolding operand_at
operand_ends t = read_ends operand_of t

stack_ends : (t : Text) → Ends (stack_at t)
unfolding stack_at
stack_ends t = read_ends stack_of t

class_name_ends : (t : Text) → Ends (class_number_at t)
unfolding class_number_at
class_name_ends t = read_ends class_of t

protocol_ends : (t : Text) → Ends (protocol_at t)
unfolding protocol_at
protocol_ends t = read_ends protocol_of t

attribute_ends : (names : AttributeNames) (t : Text) → Ends (attribute_at names t)
unfolding attribute_at
attribute_ends names t = read_ends (attribute_of names) t

area_ends : (t : Text) → Ends (area_at t)
unfolding area_at
area_ends t = run_ends (first t).token (first t).line then λ run. either_ends (is_area run) (answer_ends (others t)) (syntax_ends (first t).line)

null_ends : (t : Text) → Ends (null_at t)
unfolding null_at
null_ends t = run_ends (first t).token (first t).line then λ run. either_ends (is_null run) (answer_ends (others t)) (syntax_ends (first t).line)

mark_ends : (mark : ℕ) (t : Text) → Ends (mark_at mark t)
unfolding mark_at
mark_ends mark t = by_token (first t).token
  where
    by_token : (w : Token) → Ends (expect_mark mark w (first t).line (others t))
    by_token (Run run) = syntax_ends (first t).line
    by_token (Mark b) = either_ends (nat_eq b mark) (answer_ends (others t)) (syntax_ends (first t).line)
    by_token Unclosed = syntax_ends (first t).line
    by_token End = syntax_ends (first t).line

joint_ends : (end : ℕ) (t : Text) → Ends (joint_at end t)
unfolding joint_at
joint_ends end t = by_token (first t).token
  where
    by_token : (w : Token) → Ends (expect_joint end w (first t).line (others t))
    by_token (Run run) = syntax_ends (first t).line
    by_token (Mark b) = either_ends (nat_eq b 124) (answer_ends (true, others t)) (either_ends (nat_eq b end) (answer_ends (false, others t)) (syntax_ends (first t).line))
    by_token Unclosed = syntax_ends (first t).line
    by_token End = syntax_ends (first t).line

-- ---- attributes

attribute_step_ends : (names : AttributeNames) (end : ℕ) (s : ℕ × Text) → Ends (attribute_step names end s)
unfolding attribute_step
attribute_step_ends names end s = attribute_ends names s.1 then λ a. joint_ends end a.1 then λ joint. answer_ends (flow_of joint.0 (bit_or s.0 a.0, joint.1) (bit_or s.0 a.0, joint.1))

more_is : {S R : Type 0} (more : Bool) (s t : S) (r : R) → flow_of more s r ≡ More t → s ≡ t
more_is true s t r e = cc
more_is false s t r e = absurd (cc)

attribute_less : (names : AttributeNames) (end : ℕ) (s next : ℕ × Text) → attribute_step names end s ≡ Ok (More next) → length next.1.tokens < length s.1.tokens
attribute_less names end s next e =
    let a = attribute_back names end s.0 s.1 (More next) e in
    let made : ℕ × Text = (bit_or s.0 a.bits, a.rest) in
    let same : a.rest ≡ next.1 = ap (λ (q : ℕ × Text). q.1) (more_is a.more made next made a.goes) in
    omega (arith, ap length a.tokens, ap (λ (t : Text). length t.tokens) same, length-map s.1.tokens (λ p. p.token), length-map a.rest.tokens (λ p. p.token))

attributes_end : (names : AttributeNames) (end : ℕ) (t : Text) → Ends (attributes_at names end t)
unfolding attributes_at
attributes_end names end t = turns_end (attribute_step names end) (λ (s : ℕ × Text). length s.1.tokens) (attribute_step_ends names end) (attribute_less names end) (suc (length t.tokens)) (0, t) (omega arith)

-- ---- statements

listed_number_ends : (t : Text) → Ends (listed_number_at t)
unfolding listed_number_at
listed_number_ends t = number_ends t then λ n. mark_ends 44 n.1 then λ listed. answer_ends _

listed_operand_ends : (t : Text) → Ends (listed_operand_at t)
unfolding listed_operand_at
listed_operand_ends t = operand_ends t then λ operand. mark_ends 44 operand.1 then λ listed. answer_ends _

head_ends : (names : AttributeNames) (end : ℕ) (t : Text) → Ends (head_at names end t)
unfolding head_at
head_ends names end t = mark_ends 40 t then λ opened. listed_number_ends opened then λ id. mark_ends 123 id.1 then λ inner. attributes_end names end inner then λ attributes. answer_ends (id.0, attributes.0, attributes.1)

tail_ends : (t : Text) → Ends (tail_at t)
unfolding tail_at
tail_ends t = mark_ends 125 t then λ listed. mark_ends 41 listed then λ closed. mark_ends 59 closed

board_ends : (t : Text) → Ends (board_at t)
unfolding board_at
board_ends t = mark_ends 40 t then λ opened. listed_number_ends opened then λ processors. number_ends processors.1 then λ ram. mark_ends 41 ram.1 then λ closed. mark_ends 59 closed then λ ended. answer_ends (processors.0, ram.0, ended)

class_ends : (t : Text) → Ends (class_at t)
unfolding class_at
class_ends t = mark_ends 40 t then λ opened. class_name_ends opened then λ n. mark_ends 41 n.1 then λ closed. mark_ends 123 closed then λ inner. answer_ends (Class n.0, inner)

task_tail_ends : (t : Text) → Ends (task_tail_at t)
unfolding task_tail_at
task_tail_ends t = listed_number_ends t then λ priority. listed_number_ends priority.1 then λ size. stack_ends size.1 then λ stack. tail_ends stack.1 then λ ended. answer_ends _

task_ends : (t : Text) → Ends (task_at t)
unfolding task_at
task_ends t = head_ends named.Common 44 t then λ head. listed_operand_ends head.2 then λ exinf. listed_operand_ends exinf.1 then λ address. task_tail_ends address.1 then λ rest. answer_ends _

semaphore_ends : (t : Text) → Ends (semaphore_at t)
unfolding semaphore_at
semaphore_ends t = head_ends named.Common 44 t then λ head. listed_number_ends head.2 then λ initial. number_ends initial.1 then λ maximum. tail_ends maximum.1 then λ ended. answer_ends _

flag_ends : (t : Text) → Ends (flag_at t)
unfolding flag_at
flag_ends t = head_ends named.Common 44 t then λ head. number_ends head.2 then λ pattern. tail_ends pattern.1 then λ ended. answer_ends _

queue_ends : (t : Text) → Ends (queue_at t)
unfolding queue_at
queue_ends t = head_ends named.Common 44 t then λ head. listed_number_ends head.2 then λ capacity. area_ends capacity.1 then λ area. tail_ends area then λ ended. answer_ends _

spin_lock_ends : (t : Text) → Ends (spin_lock_at t)
unfolding spin_lock_at
spin_lock_ends t = head_ends named.Common 125 t then λ head. mark_ends 41 head.2 then λ closed. mark_ends 59 closed then λ ended. answer_ends _

mutex_ends : (t : Text) → Ends (mutex_at t)
unfolding mutex_at
mutex_ends t = mark_ends 40 t then λ opened. listed_number_ends opened then λ id. mark_ends 123 id.1 then λ inner. protocol_ends inner then λ protocol. mark_ends 44 protocol.1 then λ listed. number_ends listed then λ ceiling. tail_ends ceiling.1 then λ ended. answer_ends _

pool_ends : (t : Text) → Ends (pool_at t)
unfolding pool_at
pool_ends t = head_ends named.Common 44 t then λ head. listed_number_ends head.2 then λ count. listed_number_ends count.1 then λ size. stack_ends size.1 then λ area. tail_ends area.1 then λ ended. answer_ends _

mailbox_ends : (t : Text) → Ends (mailbox_at t)
unfolding mailbox_at
mailbox_ends t = head_ends named.Mailbox 44 t then λ head. listed_number_ends head.2 then λ priorities. null_ends priorities.1 then λ null. tail_ends null then λ ended. answer_ends _

cyclic_ends : (t : Text) → Ends (cyclic_at t)
unfolding cyclic_at
cyclic_ends t = head_ends named.Cyclic 44 t then λ head. listed_operand_ends head.2 then λ exinf. listed_operand_ends exinf.1 then λ address. listed_number_ends address.1 then λ period. number_ends period.1 then λ phase. tail_ends phase.1 then λ ended. answer_ends _

alarm_ends : (t : Text) → Ends (alarm_at t)
unfolding alarm_at
alarm_ends t = head_ends named.Common 44 t then λ head. listed_operand_ends head.2 then λ exinf. operand_ends exinf.1 then λ address. tail_ends address.1 then λ ended. answer_ends _

handler_ends : (t : Text) → Ends (handler_at t)
unfolding handler_at
handler_ends t = head_ends named.Common 44 t then λ head. operand_ends head.2 then λ address. tail_ends address.1 then λ ended. answer_ends _

behind_ends : (standard in_class : Bool) (line : ℕ) (k : Keyword) (t : Text) → Ends (behind_keyword standard in_class line k t)
unfolding behind_keyword
behind_ends standard in_class line keywords.Board t = board_ends t then λ board. answer_ends _
behind_ends standard in_class line keywords.Class t = either_ends in_class (syntax_ends line) (class_ends t)
behind_ends standard in_class line keywords.Task t = task_ends t
behind_ends standard in_class line keywords.Semaphore t = semaphore_ends t
behind_ends standard in_class line keywords.Flag t = flag_ends t
behind_ends standard in_class line keywords.Queue t = queue_ends t
behind_ends standard in_class line keywords.SpinLock t = spin_lock_ends t
behind_ends standard in_class line keywords.Mutex t = either_ends standard (mutex_ends t) (syntax_ends line)
behind_ends standard in_class line keywords.Pool t = either_ends standard (pool_ends t) (syntax_ends line)
behind_ends standard in_class line keywords.Mailbox t = either_ends standard (mailbox_ends t) (syntax_ends line)
behind_ends standard in_class line keywords.Cyclic t = either_ends standard (cyclic_ends t) (syntax_ends line)
behind_ends standard in_class line keywords.Alarm t = either_ends standard (alarm_ends t) (syntax_ends line)
behind_ends standard in_class line keywords.Handler t = handler_ends t

statement_ends : (standard in_class : Bool) (t : Text) → Ends (statement_at standard in_class t)
unfolding statement_at
statement_ends standard in_class t = by_token (first t).token
  where
    by_token : (w : Token) → Ends (statement_by standard in_class w (first t).line (others t))
    by_token (Run run) = value_ends (keyword_of run) (first t).line then λ keyword. behind_ends standard in_class (first t).line keyword (others t)
    by_token (Mark b) = either_ends (in_class && nat_eq b 125) (answer_ends (ClassEnd, others t)) (syntax_ends (first t).line)
    by_token Unclosed = syntax_ends (first t).line
    by_token End = syntax_ends (first t).line

-- ---- what statements say

within_ends : (low high : ℕ) (f : ConfigFault) (n : ℕ) → f ≢ NoMemory → Ends (within low high f n)
unfolding within
within_ends low high f n other = either_ends (nat_le low n && nat_le n high) (answer_ends n) (fault_ends f other)

only_bits_ends : (allowed : ℕ) (f : ConfigFault) (bits : ℕ) → f ≢ NoMemory → Ends (only_bits allowed f bits)
unfolding only_bits
only_bits_ends allowed f bits other = either_ends (nat_eq (bit_and bits allowed) bits) (answer_ends bits) (fault_ends f other)

refused_ends : (test : Bool) (f : ConfigFault) → f ≢ NoMemory → Ends (refused test f)
refused_ends test f other = either_ends test (fault_ends f other) (answer_ends tt)

id_ends : (line low high n : ℕ) → Ends (within low high (BadId line) n)
id_ends line low high n = within_ends low high (BadId line) n (λ e. cc)

new_ends : (line : ℕ) (defined : Bool) → Ends (refused defined (Duplicate line))
new_ends line defined = refused_ends defined (Duplicate line) (λ e. cc)

bits_end : (line allowed bits : ℕ) → Ends (only_bits allowed (BadAttribute line) bits)
bits_end line allowed bits = only_bits_ends allowed (BadAttribute line) bits (λ e. cc)

count_ends : (line low high n : ℕ) → Ends (within low high (BadCount line) n)
count_ends line low high n = within_ends low high (BadCount line) n (λ e. cc)

processor_ends : (line high n : ℕ) → Ends (within 1 high (BadProcessor line) n)
processor_ends line high n = within_ends 1 high (BadProcessor line) n (λ e. cc)

task_numbers_end : (line : ℕ) (tasks : List TaskConfig) (x : TaskStatement) → Ends (task_numbers line tasks x)
unfolding task_numbers
task_numbers_end line tasks x = id_ends line 1 255 x.id then λ id. new_ends line _ then λ new. bits_end line 3 x.attributes then λ attributes. within_ends 1 16 (BadPriority line) x.priority (λ e. cc) then λ priority. refused_ends _ (BadCount line) (λ e. cc) then λ stacked. answer_ends _

task_of_ends : (line : ℕ) (tasks : List TaskConfig) (processor : ℕ) (x : TaskStatement) → Ends (task_of line tasks processor x)
unfolding task_of
task_of_ends line tasks processor x = task_numbers_end line tasks x then λ numbers. answer_ends _

semaphore_of_ends : (line : ℕ) (semaphores : List SemaphoreConfig) (x : SemaphoreStatement) → Ends (semaphore_of line semaphores x)
unfolding semaphore_of
semaphore_of_ends line semaphores x = id_ends line 1 255 x.id then λ id. new_ends line _ then λ new. bits_end line 1 x.attributes then λ attributes. count_ends line 1 65535 x.maximum then λ maximum. count_ends line 0 x.maximum x.initial then λ initial. answer_ends _

flag_of_ends : (line : ℕ) (flags : List FlagConfig) (x : FlagStatement) → Ends (flag_of line flags x)
unfolding flag_of
flag_of_ends line flags x = id_ends line 1 255 x.id then λ id. new_ends line _ then λ new. bits_end line 7 x.attributes then λ attributes. answer_ends _

queue_of_ends : (line : ℕ) (queues : List QueueConfig) (x : QueueStatement) → Ends (queue_of line queues x)
unfolding queue_of
queue_of_ends line queues x = id_ends line 1 255 x.id then λ id. new_ends line _ then λ new. bits_end line 1 x.attributes then λ attributes. count_ends line 0 256 x.capacity then λ capacity. answer_ends _

spin_lock_of_ends : (line : ℕ) (spin_locks : List SpinLockConfig) (x : SpinLockStatement) → Ends (spin_lock_of line spin_locks x)
unfolding spin_lock_of
spin_lock_of_ends line spin_locks x = id_ends line 1 255 x.id then λ id. new_ends line _ then λ new. bits_end line 0 x.attributes then λ attributes. answer_ends _

mutex_of_ends : (line : ℕ) (mutexes : List MutexConfig) (x : MutexStatement) → Ends (mutex_of line mutexes x)
unfolding mutex_of
mutex_of_ends line mutexes x = id_ends line 1 255 x.id then λ id. new_ends line _ then λ new. within_ends 0 3 (BadAttribute line) x.protocol (λ e. cc) then λ number. within_ends _ 16 (BadPriority line) x.ceiling (λ e. cc) then λ ceiling. answer_ends _

pool_of_ends : (line ram : ℕ) (pools : List PoolConfig) (x : PoolStatement) → Ends (pool_of line ram pools x)
unfolding pool_of
pool_of_ends line ram pools x = id_ends line 1 255 x.id then λ id. new_ends line _ then λ new. bits_end line 1 x.attributes then λ attributes. count_ends line 1 256 x.count then λ count. count_ends line 1 ram x.size then λ size. answer_ends _

mailbox_of_ends : (line : ℕ) (mailboxes : List MailboxConfig) (x : MailboxStatement) → Ends (mailbox_of line mailboxes x)
unfolding mailbox_of
mailbox_of_ends line mailboxes x = id_ends line 1 255 x.id then λ id. new_ends line _ then λ new. bits_end line 3 x.attributes then λ attributes. within_ends 1 16 (BadPriority line) x.priorities (λ e. cc) then λ priorities. answer_ends _

cyclic_of_ends : (line : ℕ) (cyclics : List CyclicConfig) (processor : ℕ) (x : CyclicStatement) → Ends (cyclic_of line cyclics processor x)
unfolding cyclic_of
cyclic_of_ends line cyclics processor x = id_ends line 1 64 x.id then λ id. new_ends line _ then λ new. bits_end line 7 x.attributes then λ attributes. count_ends line 1 most_ticks x.period then λ period. count_ends line 0 most_ticks x.phase then λ phase. answer_ends _

alarm_of_ends : (line : ℕ) (alarms : List AlarmConfig) (processor : ℕ) (x : AlarmStatement) → Ends (alarm_of line alarms processor x)
unfolding alarm_of
alarm_of_ends line alarms processor x = id_ends line 1 64 x.id then λ id. new_ends line _ then λ new. bits_end line 1 x.attributes then λ attributes. answer_ends _

handler_of_ends : (line : ℕ) (handlers : List HandlerConfig) (processor : ℕ) (x : HandlerStatement) → Ends (handler_of line handlers processor x)
unfolding handler_of
handler_of_ends line handlers processor x = id_ends line 0 31 x.line then λ number. new_ends line _ then λ new. bits_end line 1 x.attributes then λ attributes. answer_ends _

added_ends : (line : ℕ) (s : State) (x : Statement) → Ends (added line s x)
unfolding added
added_ends line s (Board processors ram) = processor_ends line 8 processors then λ count. fault_ends (Duplicate line) (λ e. cc)
added_ends line s (Class n) = processor_ends line s.config.processors n then λ processor. answer_ends _
added_ends line s ClassEnd = answer_ends _
added_ends line s (Task x) = task_of_ends line s.config.tasks (processor_of s.class) x then λ task. answer_ends _
added_ends line s (Semaphore x) = semaphore_of_ends line s.config.semaphores x then λ semaphore. answer_ends _
added_ends line s (Flag x) = flag_of_ends line s.config.flags x then λ flag. answer_ends _
added_ends line s (Queue x) = queue_of_ends line s.config.queues x then λ queue. answer_ends _
added_ends line s (SpinLock x) = spin_lock_of_ends line s.config.spin_locks x then λ spin_lock. answer_ends _
added_ends line s (Mutex x) = mutex_of_ends line s.config.mutexes x then λ mutex. answer_ends _
added_ends line s (Pool x) = pool_of_ends line s.config.ram s.config.pools x then λ pool. answer_ends _
added_ends line s (Mailbox x) = mailbox_of_ends line s.config.mailboxes x then λ mailbox. answer_ends _
added_ends line s (Cyclic x) = cyclic_of_ends line s.config.cyclics (processor_of s.class) x then λ cyclic. answer_ends _
added_ends line s (Alarm x) = alarm_of_ends line s.config.alarms (processor_of s.class) x then λ alarm. answer_ends _
added_ends line s (Handler x) = handler_of_ends line s.config.handlers (processor_of s.class) x then λ handler. answer_ends _

one_more_ends : (s : State × Text) → Ends (one_more s)
unfolding one_more
one_more_ends s = statement_ends s.0.config.standard (is_some s.0.class) s.1 then λ read. added_ends (first s.1).line s.0 read.0 then λ next. answer_ends _

step_ends : (s : State × Text) → Ends (statement_step s)
unfolding statement_step
step_ends s = either_ends (is_none s.0.class && is_end (first s.1).token) (answer_ends (Done s.0.config)) (one_more_ends s)

-- ---- each statement has a token

some_token : (p : Piece) (tokens : List Token) → IsSpelled p tokens → 1 ≤ length tokens
some_token (Exactly run) tokens s = omega (arith, ap length s)
some_token (Sign b) tokens s = omega (arith, ap length s)
some_token (Numeral n) tokens s = omega (arith, ap length s.1)
some_token (Attributes names bits) tokens s = joined_some names 0 bits tokens s
  where
    joined_some : (names : AttributeNames) (before bits : ℕ) (tokens : List Token) → Joined names before bits tokens → 1 ≤ length tokens
    joined_some names before _ _ (last _ _ run bits h) = omega arith
    joined_some names before _ _ (bar _ _ run bits all tokens h j) = omega arith
some_token (Value v) tokens s = omega (arith, ap length s.1)
some_token (StackValue v) tokens s = omega (arith, ap length s.1)
some_token Area tokens s = omega (arith, ap length s.1)
some_token (ClassName n) tokens s = omega (arith, ap length s.1)
some_token (Protocol n) tokens s = omega (arith, ap length s.1)

pieces_long : (ps : List Piece) (tokens : List Token) → AreSpelled ps tokens → length ps ≤ length tokens
pieces_long [] tokens s = omega arith
pieces_long (p ∷ ps) tokens s = omega (arith, ap length s.4, length-append s.0 s.1, some_token p s.0 s.2, pieces_long ps s.1 s.3)

some_piece : (x : Statement) → 1 ≤ length (form x)
some_piece (Board processors ram) = omega arith
some_piece (Class n) = omega arith
some_piece ClassEnd = omega arith
some_piece (Task x) = omega arith
some_piece (Semaphore x) = omega arith
some_piece (Flag x) = omega arith
some_piece (Queue x) = omega arith
some_piece (SpinLock x) = omega arith
some_piece (Mutex x) = omega arith
some_piece (Pool x) = omega arith
some_piece (Mailbox x) = omega arith
some_piece (Cyclic x) = omega arith
some_piece (Alarm x) = omega arith
some_piece (Handler x) = omega arith

statement_less : (standard in_class : Bool) (t : Text) (r : Statement × Text) → statement_at standard in_class t ≡ Ok r → length r.1.tokens < length t.tokens
statement_less standard in_class t r e =
    let front = (statement_back standard in_class t r e).front in
    omega (arith, ap length front.tokens, length-append front.front (bare_tokens r.1), some_piece r.0, pieces_long (form r.0) front.front front.spelled, length-map t.tokens (λ p. p.token), length-map r.1.tokens (λ p. p.token))

one_more_less : (s next : State × Text) → one_more s ≡ Ok (More next) → length next.1.tokens < length s.1.tokens
unfolding one_more
one_more_less s next e =
    let a = bind_ok (statement_at s.0.config.standard (is_some s.0.class) s.1) (λ read. added (first s.1).line s.0 read.0 >>= λ next. Ok (More (next, read.1))) (More next) e in
    let b = bind_ok (added (first s.1).line s.0 a.0.0) (λ next. Ok (More (next, a.0.1))) (More next) a.2 in
    let same : a.0.1 ≡ next.1 = ap (λ (q : State × Text). q.1) (more_is true (b.0, a.0.1) next s.0.config (ok_is (More (b.0, a.0.1)) (More next) b.2)) in
    omega (arith, statement_less s.0.config.standard (is_some s.0.class) s.1 a.0 a.1, ap (λ (t : Text). length t.tokens) same)

step_less : (s next : State × Text) → statement_step s ≡ Ok (More next) → length next.1.tokens < length s.1.tokens
unfolding statement_step
step_less s next e = one_more_less s next (goes_on (is_none s.0.class && is_end (first s.1).token) e)
  where
    goes_on : (ends : Bool) → cond ends (Ok (Done s.0.config)) (one_more s) ≡ Ok (More next) → one_more s ≡ Ok (More next)
    goes_on true e = absurd (cc)
    goes_on false e = e

-- ---- the text

statements_end : (s : State × Text) → Ends (statements_from s)
unfolding statements_from
statements_end s = turns_end statement_step (λ (s : State × Text). length s.1.tokens) step_ends step_less (suc (length s.1.tokens)) s (omega arith)

first_board_ends : (standard : Bool) (line : ℕ) (t : Text) → Ends (first_board standard line t)
unfolding first_board board_of
first_board_ends standard line t = board_ends t then λ board. (processor_ends line 8 board.0 then λ count. refused_ends _ (BadCount line) (λ e. cc) then λ sized. answer_ends _) then λ config. answer_ends _

first_ends : (standard : Bool) (t : Text) → Ends (first_statement standard t)
unfolding first_statement
first_ends standard t = either_ends (is_board (first t).token) (first_board_ends standard (first t).line (others t)) (syntax_ends (first t).line)

from_ends : (x : Bool × Text) → Ends (config_from x)
unfolding config_from
from_ends x = first_ends x.0 x.1 then λ s. statements_end s

config_ends : (bytes : List ℕ) → Ends (config_of bytes)
unfolding config_of
config_ends bytes = from_ends (opened (tokens_of bytes))

pub text_ends : (bytes : List ℕ) → config_of bytes ≢ Err NoMemory
text_ends bytes = (config_ends bytes).never
