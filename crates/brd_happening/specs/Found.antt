-- What a step finds of the instruction that it executes, before anything has changed.
use Rattle.std.specs.Prelude.{ℕ, ◌==◌, Bool, false, Option, None, Some}
use Rattle.brd_isa.specs.declared.instruction.Insn.{Insn}
use Rattle.brd_isa.specs.Decoding.{decoded}
use Rattle.brd_mem.specs.Memory.{Memory}
use Rattle.brd_exec.specs.State.{State}
use Rattle.brd_exec.specs.Unaligned.{aligned}
use Rattle.brd_kernel.specs.declared.processor.Standing.{Standing}
use Rattle.brd_board.specs.Board.{BoardState, standing_of, registers_of, linked_word_of}
use Rattle.brd_board.specs.Words.{word_at}
use Rattle.brd_happening.specs.declared.found.Found.{Found}
use Rattle.brd_happening.specs.Instruction.{address_by}

abbrev pub stands_for : Option ℕ → Option Insn
stands_for None = None
stands_for (Some word) = decoded word

abbrev pub address_in : Option Insn → State → Option ℕ
address_in None s = None
address_in (Some insn) s = address_by insn s

-- the aligned word that holds an address
abbrev pub word_around : Memory → Option ℕ → Option ℕ
word_around memory None = None
word_around memory (Some address) = word_at memory (aligned address)

abbrev pub is_link_to : Option ℕ → Option ℕ → Bool
is_link_to (Some link) (Some address) = link == address
is_link_to (Some link) None = false
is_link_to None address = false

-- what a processor finds, by who executes there and in which context
abbrev pub found_by : BoardState → ℕ → Standing → State → Found
found_by b cpu who s =
    let word = word_at b.memory s.pc in
    let address = address_in (stands_for word) s in
    record {
      cpu = cpu;
      who = who;
      context = s;
      word = word;
      insn = stands_for word;
      address = address;
      held = word_around b.memory address;
      linked = is_link_to (linked_word_of b cpu) address;
    }

abbrev pub found_where : BoardState → ℕ → Option Standing → Option State → Option Found
found_where b cpu (Some who) (Some s) = Some (found_by b cpu who s)
found_where b cpu (Some who) None = None
found_where b cpu None context = None

-- what a processor finds, if somebody executes there
abbrev pub found_on : BoardState → ℕ → Option Found
found_on b cpu = found_where b cpu (standing_of b cpu) (registers_of b cpu)
