-- The registers of a thread as GDB reads them, by their numbers in its target description of MIPS: 0 to 31 the general
-- ones, 32 the status, 33 LO, 34 HI, 35 the bad address, 36 the cause, 37 the program counter, 38 to 71 those of
-- floating point, 72 the address of an exception. The board keeps no status; `x` stands for a digit that can't be read
-- (GDB manual, "Packets", g). The cause and the addresses are those of the last exception on the thread's processor. Own choice: a thread without a context, as a processor on which nobody executes, reads as 0,
-- since GDB 13 ends where it can't read a program counter; and so do the registers of floating point, without which it
-- shows no list of all registers.
use Rattle.std.specs.Prelude.{ℕ, ◌+◌, ◌*◌, ◌^◌, ◌==◌, nat_lt, nat_le, ◌&&◌, Bool, true, false, if◌then◌else◌, List, []}
use Rattle.std.specs.Prelude.{◌∷◌, ◌++◌, replicate, Option, Some, None}
use Rattle.brd_word.specs.declared.order.Order.{Order}
use Rattle.brd_word.specs.Words.{bytes_of_word}
use Rattle.brd_exec.specs.Exception.{number_of}
use Rattle.brd_exec.specs.State.{State, opening, read}
use Rattle.brd_board.specs.declared.view.Fault.{Fault}
use Rattle.brd_gdb.specs.Hexes.{hexed}

-- the context of a thread, else one in which all is 0
abbrev pub context_or_rest : Option State → State
context_or_rest None = opening 0 0 0
context_or_rest (Some context) = context

-- a word: its bytes in two hexadecimal digits each, in the order in which they lie in memory
abbrev pub word_text : Order → ℕ → List ℕ
word_text order word = hexed (bytes_of_word order word)

-- words, one after the other
abbrev pub words_text : Order → List ℕ → List ℕ
words_text order [] = []
words_text order (word ∷ words) = word_text order word ++ words_text order words

-- n registers that can't be read
abbrev pub unavailable_text : ℕ → List ℕ
unavailable_text n = replicate (8 * n) 120

-- The cause of an exception, as coprocessor 0 has it: in bit 31 whether the instruction was in a delay slot, in bits 2
-- to 6 which exception it is.
abbrev pub delay_bit : Bool → ℕ
delay_bit true = 2 ^ 31
delay_bit false = 0

abbrev pub cause_of : Option Fault → Option ℕ
cause_of None = None
cause_of (Some fault) = Some (delay_bit fault.bd + 4 * number_of fault.code)

-- its address: that of the instruction, or in a delay slot that of the branch before it
abbrev pub address_of : Option Fault → Option ℕ
address_of None = None
address_of (Some fault) = Some fault.epc

-- the word of the register of a number, where it can be read
abbrev pub register_of : State → Option Fault → Option ℕ → ℕ → Option ℕ
register_of context fault bad number =
    if nat_lt number 32 then Some (read context number)
    else (if number == 33 then Some context.lo
    else (if number == 34 then Some context.hi
    else (if number == 35 then bad
    else (if number == 36 then cause_of fault
    else (if number == 37 then Some context.pc
    else (if nat_le 38 number && nat_le number 71 then Some 0
    else (if number == 72 then address_of fault
    else None)))))))

abbrev pub word_or_unavailable : Order → Option ℕ → List ℕ
word_or_unavailable order None = unavailable_text 1
word_or_unavailable order (Some word) = word_text order word

-- the register of a number
abbrev pub register_text : Order → State → Option Fault → Option ℕ → ℕ → List ℕ
register_text order context fault bad number = word_or_unavailable order (register_of context fault bad number)

-- all of them, from 0 to 37
abbrev pub registers_text : Order → State → Option Fault → Option ℕ → List ℕ
registers_text order context fault bad =
    words_text order context.registers ++ unavailable_text 1 ++ word_text order context.lo ++ word_text order context.hi
    ++ word_or_unavailable order bad
    ++ word_or_unavailable order (cause_of fault)
    ++ word_text order context.pc
