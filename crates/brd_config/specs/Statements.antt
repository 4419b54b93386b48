-- Statements at the front of a text. Their forms are those of the static API of the uITRON 4.0 specification, with
-- CLASS and CRE_SPN as in the kernel configuration of TOPPERS/FMP; BOARD is of this product.
use Rattle.std.specs.Prelude.{ℕ, Bool, ◌&&◌, List, [], ◌∷◌, ◌==◌, if◌then◌else◌, Option, Result, Ok, Err, codes}
use Rattle.brd_text.specs.Tokens.{Token, Text, first, others}
use Rattle.brd_text.specs.Tokens.Token.{Run, Mark, Unclosed, End}
use Rattle.brd_text.specs.Faults.{◌>>=◌, or_fault}
use Rattle.brd_config.specs.declared.fault.ConfigFault.{ConfigFault}
use Rattle.brd_config.specs.declared.fault.ConfigFault.TheVariants.{Syntax}
use Rattle.brd_config.specs.declared.statement.AttributeNames.TheVariants as named
use Rattle.brd_config.specs.declared.statement.Keyword.{Keyword}
use Rattle.brd_config.specs.declared.statement.Keyword.TheVariants as keywords
use Rattle.brd_config.specs.declared.statement.Statement.{Statement}
use Rattle.brd_config.specs.declared.statement.Statement.TheVariants.{Board, Class, ClassEnd, Task, Semaphore, Flag}
use Rattle.brd_config.specs.declared.statement.Statement.TheVariants.{Queue, SpinLock, Mutex, Pool, Mailbox}
use Rattle.brd_config.specs.declared.statement.Statement.TheVariants.{Cyclic, Alarm, Handler}
use Rattle.brd_config.specs.declared.objects.Stack.{Stack}
use Rattle.brd_config.specs.Reading.{named_in, number_at, listed_number_at, listed_operand_at, mark_at, operand_at}
use Rattle.brd_config.specs.Reading.{stack_at, area_at, null_at, class_number_at, protocol_at, head_at, tail_at}

abbrev pub keyword_names : List (List ℕ × Keyword)
keyword_names =
    (codes "BOARD", keywords.Board) ∷
    (codes "CLASS", keywords.Class) ∷
    (codes "CRE_TSK", keywords.Task) ∷
    (codes "CRE_SEM", keywords.Semaphore) ∷
    (codes "CRE_FLG", keywords.Flag) ∷
    (codes "CRE_DTQ", keywords.Queue) ∷
    (codes "CRE_SPN", keywords.SpinLock) ∷
    (codes "CRE_MTX", keywords.Mutex) ∷
    (codes "CRE_MPF", keywords.Pool) ∷
    (codes "CRE_MBX", keywords.Mailbox) ∷
    (codes "CRE_CYC", keywords.Cyclic) ∷
    (codes "CRE_ALM", keywords.Alarm) ∷
    (codes "DEF_INH", keywords.Handler) ∷ []

unfoldable pub keyword_of : List ℕ → Option Keyword
keyword_of run = named_in keyword_names run

-- BOARD(processors, ram);
unfoldable pub board_at : Text → Result (ℕ × ℕ × Text) ConfigFault
board_at t = do
  opened ← mark_at 40 t
  processors ← listed_number_at opened
  ram ← number_at processors.1
  closed ← mark_at 41 ram.1
  ended ← mark_at 59 closed
  Ok (processors.0, ram.0, ended)

-- CLASS(TCL_n) {
unfoldable pub class_at : Text → Result (Statement × Text) ConfigFault
class_at t = do
  opened ← mark_at 40 t
  n ← class_number_at opened
  closed ← mark_at 41 n.1
  inner ← mark_at 123 closed
  Ok (Class n.0, inner)

-- the end of CRE_TSK: itskpri, stksz, stk});
unfoldable pub task_tail_at : Text → Result (ℕ × ℕ × Stack × Text) ConfigFault
task_tail_at t = do
  priority ← listed_number_at t
  size ← listed_number_at priority.1
  stack ← stack_at size.1
  ended ← tail_at stack.1
  Ok (priority.0, size.0, stack.0, ended)

-- CRE_TSK(tskid, {tskatr, exinf, task, itskpri, stksz, stk});
unfoldable pub task_at : Text → Result (Statement × Text) ConfigFault
task_at t = do
  head ← head_at named.Common 44 t
  exinf ← listed_operand_at head.2
  address ← listed_operand_at exinf.1
  rest ← task_tail_at address.1
  Ok (
    Task
        (record {
          id = head.0;
          attributes = head.1;
          exinf = exinf.0;
          address = address.0;
          priority = rest.0;
          stack_size = rest.1;
          stack = rest.2;
        }),
    rest.3,
  )

-- CRE_SEM(semid, {sematr, isemcnt, maxsem});
unfoldable pub semaphore_at : Text → Result (Statement × Text) ConfigFault
semaphore_at t = do
  head ← head_at named.Common 44 t
  initial ← listed_number_at head.2
  maximum ← number_at initial.1
  ended ← tail_at maximum.1
  Ok (Semaphore (record { id = head.0; attributes = head.1; initial = initial.0; maximum = maximum.0 }), ended)

-- CRE_FLG(flgid, {flgatr, iflgptn});
unfoldable pub flag_at : Text → Result (Statement × Text) ConfigFault
flag_at t = do
  head ← head_at named.Common 44 t
  pattern ← number_at head.2
  ended ← tail_at pattern.1
  Ok (Flag (record { id = head.0; attributes = head.1; pattern = pattern.0 }), ended)

-- CRE_DTQ(dtqid, {dtqatr, dtqcnt, dtq});
unfoldable pub queue_at : Text → Result (Statement × Text) ConfigFault
queue_at t = do
  head ← head_at named.Common 44 t
  capacity ← listed_number_at head.2
  area ← area_at capacity.1
  ended ← tail_at area
  Ok (Queue (record { id = head.0; attributes = head.1; capacity = capacity.0 }), ended)

-- CRE_SPN(spnid, {spnatr});
unfoldable pub spin_lock_at : Text → Result (Statement × Text) ConfigFault
spin_lock_at t = do
  head ← head_at named.Common 125 t
  closed ← mark_at 41 head.2
  ended ← mark_at 59 closed
  Ok (SpinLock (record { id = head.0; attributes = head.1 }), ended)

-- CRE_MTX(mtxid, {mtxatr, ceilpri});
unfoldable pub mutex_at : Text → Result (Statement × Text) ConfigFault
mutex_at t = do
  opened ← mark_at 40 t
  id ← listed_number_at opened
  inner ← mark_at 123 id.1
  protocol ← protocol_at inner
  listed ← mark_at 44 protocol.1
  ceiling ← number_at listed
  ended ← tail_at ceiling.1
  Ok (Mutex (record { id = id.0; protocol = protocol.0; ceiling = ceiling.0 }), ended)

-- CRE_MPF(mpfid, {mpfatr, blkcnt, blksz, mpf});
unfoldable pub pool_at : Text → Result (Statement × Text) ConfigFault
pool_at t = do
  head ← head_at named.Common 44 t
  count ← listed_number_at head.2
  size ← listed_number_at count.1
  area ← stack_at size.1
  ended ← tail_at area.1
  Ok (
    Pool (record { id = head.0; attributes = head.1; count = count.0; size = size.0; area = area.0 }),
    ended,
  )

-- CRE_MBX(mbxid, {mbxatr, maxmpri, mprihd}); the queues of messages are the kernel's, so mprihd is NULL.
unfoldable pub mailbox_at : Text → Result (Statement × Text) ConfigFault
mailbox_at t = do
  head ← head_at named.Mailbox 44 t
  priorities ← listed_number_at head.2
  null ← null_at priorities.1
  ended ← tail_at null
  Ok (Mailbox (record { id = head.0; attributes = head.1; priorities = priorities.0 }), ended)

-- CRE_CYC(cycid, {cycatr, exinf, cychdr, cyctim, cycphs});
unfoldable pub cyclic_at : Text → Result (Statement × Text) ConfigFault
cyclic_at t = do
  head ← head_at named.Cyclic 44 t
  exinf ← listed_operand_at head.2
  address ← listed_operand_at exinf.1
  period ← listed_number_at address.1
  phase ← number_at period.1
  ended ← tail_at phase.1
  Ok (
    Cyclic
        (record {
          id = head.0;
          attributes = head.1;
          exinf = exinf.0;
          address = address.0;
          period = period.0;
          phase = phase.0;
        }),
    ended,
  )

-- CRE_ALM(almid, {almatr, exinf, almhdr});
unfoldable pub alarm_at : Text → Result (Statement × Text) ConfigFault
alarm_at t = do
  head ← head_at named.Common 44 t
  exinf ← listed_operand_at head.2
  address ← operand_at exinf.1
  ended ← tail_at address.1
  Ok (Alarm (record { id = head.0; attributes = head.1; exinf = exinf.0; address = address.0 }), ended)

-- DEF_INH(inhno, {inhatr, inthdr});
unfoldable pub handler_at : Text → Result (Statement × Text) ConfigFault
handler_at t = do
  head ← head_at named.Common 44 t
  address ← operand_at head.2
  ended ← tail_at address.1
  Ok (Handler (record { line = head.0; attributes = head.1; address = address.0 }), ended)

-- What follows a keyword on this line. A class has no class in it, and without the profile there are no mutexes, no
-- memory pools, no mailboxes, no cyclic handlers and no alarm handlers.
unfoldable pub behind_keyword : Bool → Bool → ℕ → Keyword → Text → Result (Statement × Text) ConfigFault
behind_keyword standard in_class line keywords.Board t = do
  board ← board_at t
  Ok (Board board.0 board.1, board.2)
behind_keyword standard in_class line keywords.Class t = if in_class then Err (Syntax line) else class_at t
behind_keyword standard in_class line keywords.Task t = task_at t
behind_keyword standard in_class line keywords.Semaphore t = semaphore_at t
behind_keyword standard in_class line keywords.Flag t = flag_at t
behind_keyword standard in_class line keywords.Queue t = queue_at t
behind_keyword standard in_class line keywords.SpinLock t = spin_lock_at t
behind_keyword standard in_class line keywords.Mutex t = if standard then mutex_at t else Err (Syntax line)
behind_keyword standard in_class line keywords.Pool t = if standard then pool_at t else Err (Syntax line)
behind_keyword standard in_class line keywords.Mailbox t = if standard then mailbox_at t else Err (Syntax line)
behind_keyword standard in_class line keywords.Cyclic t = if standard then cyclic_at t else Err (Syntax line)
behind_keyword standard in_class line keywords.Alarm t = if standard then alarm_at t else Err (Syntax line)
behind_keyword standard in_class line keywords.Handler t = handler_at t

-- What the first token of a statement begins, before rest. A closing brace ends a class.
abbrev pub statement_by : Bool → Bool → Token → ℕ → Text → Result (Statement × Text) ConfigFault
statement_by standard in_class (Run run) line rest = do
  keyword ← or_fault (Syntax line) (keyword_of run)
  behind_keyword standard in_class line keyword rest
statement_by standard in_class (Mark b) line rest =
    if in_class && (b == 125) then Ok (ClassEnd, rest) else Err (Syntax line)
statement_by standard in_class Unclosed line rest = Err (Syntax line)
statement_by standard in_class End line rest = Err (Syntax line)

-- the statement at the front, with the profile or without, in a class or outside
unfoldable pub statement_at : Bool → Bool → Text → Result (Statement × Text) ConfigFault
statement_at standard in_class t = statement_by standard in_class (first t).token (first t).line (others t)
