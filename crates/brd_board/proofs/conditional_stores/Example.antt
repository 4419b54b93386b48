-- The laws of LL and SC say something: of a board of two processors, on which processor 1 does an LL and an SC. The SC
-- stores; and it doesn't where processor 2 has stored into the block between the two.
use Rattle.std.proofs.Common.{◌≡◌, ℕ, ◌+◌, List, [], ◌∷◌, refl, sym, ◌∙◌}
use Rattle.std.specs.Prelude.{true, false, None, Some, Ok, replicate}
use Rattle.std.proofs.lemmas.Bool.{false≢true}
use Rattle.brd_base.specs.Space.{base}
use Rattle.brd_isa.specs.Decoding.{decoded}
use Rattle.brd_word.specs.declared.order.Order.{Order}
use Rattle.brd_mem.specs.Memory.{memory_of_bytes}
use Rattle.brd_mem.specs.Access.{loaded32}
use Rattle.brd_link.specs.LinkSet.{is_linked}
use Rattle.brd_exec.specs.State.{State}
use Rattle.brd_exec.specs.Step.{next_instruction, effect, ran}
use Rattle.brd_exec.specs.Did.{LoadedLinked, StoredAt, did}
use Rattle.brd_kernel.specs.Kernel.{KernelState, idle}
use Rattle.brd_board.specs.declared.event.Event.{Event}
use Rattle.brd_board.specs.declared.event.Event.TheVariants.{Step}
use Rattle.brd_board.specs.Board.{BoardState, happens, after}
use Rattle.brd_board.specs.History.{moves, history, IsReserved, HasReserved}
use Rattle.brd_board.specs.Conditional.{DoesConditional, Leaves}
use Rattle.brd_board.proofs.conditional_stores.ConditionalLemmas.{conditional-from, word-from, reserved-linked}

-- register 1 holds RAM's start
abbrev pub starts_at : ℕ → State
starts_at address =
    record { registers = 0 ∷ base ∷ replicate 30 0; hi = 0; lo = 0; pc = address; npc = address + 4; slot = false }

-- task 1 runs on processor 1, and task 2 on processor 2
abbrev pub kernel : KernelState
kernel = record {
  off = false;
  standard = false;
  clock = 0;
  time = record { count = 0; dues = [] };
  timers = [];
  tasks = record { rows = []; contexts = starts_at 0 ∷ starts_at base ∷ starts_at (base + 12) ∷ []; ready = [] };
  semaphores = [];
  flags = [];
  queues = [];
  mutexes = [];
  pools = [];
  mailboxes = [];
  spin_locks = [];
  processors = None ∷ Some (record idle { running = Some 1 }) ∷ Some (record idle { running = Some 2 }) ∷ [];
  handler_contexts = [];
  lines = [];
  console = [];
}

-- ll $2, 8($1); sc $2, 8($1); the word 7; sw $2, 8($1)
abbrev pub program : List ℕ
program =
    0xC0 ∷ 0x22 ∷ 0x00 ∷ 0x08 ∷ 0xE0 ∷ 0x22 ∷ 0x00 ∷ 0x08 ∷ 0x00 ∷ 0x00 ∷ 0x00 ∷ 0x07 ∷ 0xAC ∷ 0x22 ∷ 0x00 ∷ 0x08 ∷ []

abbrev pub board : BoardState
board = record { kernel = kernel; memory = memory_of_bytes Order.Big program; links = []; faults = [] }

-- the LL
abbrev pub one : List Event
one = Step 1 ∷ []

-- the LL, and a store of processor 2 to its word
abbrev pub two : List Event
two = Step 1 ∷ Step 2 ∷ []

did-one : history board one ≡ (record { processor = 1; did = LoadedLinked (base + 8) 7 }) ∷ []
unfolding moves happens did ran effect next_instruction decoded
did-one = refl

did-two : history board two ≡ (record { processor = 1; did = LoadedLinked (base + 8) 7 }) ∷ (record { processor = 2; did = StoredAt (base + 8) }) ∷ []
unfolding moves happens did ran effect next_instruction decoded
did-two = refl

reserved : IsReserved 1 (base + 8) 7 (history board one)
reserved = record { before = []; between = []; split = did-one; kept = tt }

-- the next instruction of processor 1 is then the SC
abbrev pub holds_seven : State
holds_seven = record { registers = 0 ∷ base ∷ 7 ∷ replicate 29 0; hi = 0; lo = 0; pc = base + 4; npc = base + 8; slot = false }

pub sc-one : DoesConditional (after board one) 1 2 (base + 8)
unfolding moves happens did ran effect next_instruction decoded
sc-one = record { context = holds_seven; register = 1; offset = 8; runs = refl; instruction = refl; names = refl; done = refl }

pub sc-two : DoesConditional (after board two) 1 2 (base + 8)
unfolding moves happens did ran effect next_instruction decoded
sc-two = record { context = holds_seven; register = 1; offset = 8; runs = refl; instruction = refl; names = refl; done = refl }

pub stores : Leaves (after board one) 1 2 (base + 8) sc-one.context true
stores = (conditional-from board one refl 1 2 (base + 8) sc-one).0 (7, reserved)

pub meets-its-word : loaded32 (after board one).memory (base + 8) ≡ Ok 7
unfolding reserved
meets-its-word = word-from board one 1 (base + 8) 7 reserved tt

not-linked : is_linked (after board two).links 1 (base + 8) ≡ false
unfolding moves happens did ran effect next_instruction decoded
not-linked = refl

not-reserved : HasReserved 1 (base + 8) (history board two) → ⊥
not-reserved reserved = absurd (false≢true (sym not-linked ∙ reserved-linked board two 1 (base + 8) reserved))

pub stores-nothing : Leaves (after board two) 1 2 (base + 8) sc-two.context false
stores-nothing = (conditional-from board two refl 1 2 (base + 8) sc-two).1 not-reserved
