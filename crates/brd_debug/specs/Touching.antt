-- Which bytes of memory a processor's next instruction reads, and which it writes, by the address that it names.
use Rattle.std.specs.Prelude.{ℕ, ◌+◌, ◌%◌, ◌^◌, nat_lt, Bool, false, ◌&&◌, ◌||◌, List, Option, None, Some}
use Rattle.std.specs.Prelude.{option_and_then}
use Rattle.brd_isa.specs.declared.instruction.Insn.{Insn}
use Rattle.brd_isa.specs.Decoding.{decoded}
use Rattle.brd_exec.specs.declared.accessed.Span.{Span}
use Rattle.brd_exec.specs.Accessed.{reads_by, writes_by}
use Rattle.brd_exec.specs.State.{State}
use Rattle.brd_mem.specs.Memory.{Memory}
use Rattle.brd_board.specs.declared.event.Event.{Event}
use Rattle.brd_board.specs.declared.event.Event.TheVariants.{Step, Tick, Raise}
use Rattle.brd_board.specs.Board.{BoardState, registers_of}
use Rattle.brd_board.specs.Words.{word_from}
use Rattle.brd_debug.specs.Marks.{is_marked}

-- the instruction that stands at an address
abbrev pub insn_at : Memory → ℕ → Option Insn
insn_at memory address = option_and_then decoded (word_from memory address)

-- what the next instruction of a context reads and writes
abbrev pub read_next : Memory → Option State → Option Span
read_next memory None = None
read_next memory (Some s) = option_and_then (λ insn. reads_by memory.order insn s) (insn_at memory s.pc)

abbrev pub written_next : Memory → Option State → Option Span
written_next memory None = None
written_next memory (Some s) = option_and_then (λ insn. writes_by memory.order insn s) (insn_at memory s.pc)

-- the same of a processor
abbrev pub read_on : BoardState → ℕ → Option Span
read_on b cpu = read_next b.memory (registers_of b cpu)

abbrev pub written_on : BoardState → ℕ → Option Span
written_on b cpu = written_next b.memory (registers_of b cpu)

-- one of a span's bytes, of which there are at most four, is marked
abbrev pub holds : List ℕ → Span → Bool
holds marks s =
    is_marked marks s.first
    || (nat_lt 1 s.count && is_marked marks ((s.first + 1) % 2 ^ 32)
    || (nat_lt 2 s.count && is_marked marks ((s.first + 2) % 2 ^ 32)
    || nat_lt 3 s.count && is_marked marks ((s.first + 3) % 2 ^ 32)))

abbrev pub holds_some : List ℕ → Option Span → Bool
holds_some marks None = false
holds_some marks (Some s) = holds marks s

-- An event is a step whose instruction reads a byte of the first set, or reads or writes one of the second.
abbrev pub touches : List ℕ → List ℕ → BoardState → Event → Bool
touches reads accesses b (Step cpu) =
    holds_some reads (read_on b cpu) || (holds_some accesses (read_on b cpu) || holds_some accesses (written_on b cpu))
touches reads accesses b Tick = false
touches reads accesses b (Raise line) = false
