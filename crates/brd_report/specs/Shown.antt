-- What `words` prints of a board, and `debug` of a context: lines of a name and a value (own choice).
use Rattle.std.specs.Prelude.{ℕ, ◌+◌, ◌==◌, Bool, if◌then◌else◌, List, [], ◌∷◌, ◌++◌, codes, Option, Some, None}
use Rattle.std.specs.Fmt.{decimal}
use Rattle.brd_exec.specs.State.{State}
use Rattle.brd_exec.specs.Exception.{number_of}
use Rattle.brd_board.specs.declared.view.Fault.{Fault}
use Rattle.brd_tasks.specs.declared.task.TaskView.{TaskView}
use Rattle.brd_board.specs.Board.{BoardState, task_of, fault_of}
use Rattle.brd_text.specs.Hex.{hex_of}

-- a name, a space and a word
abbrev pub line_of : List ℕ → ℕ → List ℕ
line_of name word = name ++ 32 ∷ hex_of word ++ 10 ∷ []

-- the same, where the word isn't 0
abbrev pub line_unless_zero : List ℕ → ℕ → List ℕ
line_unless_zero name word = if word == 0 then [] else line_of name word

-- a dollar sign and the number
abbrev pub register_name : ℕ → List ℕ
register_name number = 36 ∷ decimal number

-- the registers that aren't 0, counted from this number
abbrev pub registers_shown : ℕ → List ℕ → List ℕ
registers_shown number [] = []
registers_shown number (word ∷ words) =
    line_unless_zero (register_name number) word ++ registers_shown (number + 1) words

-- a context: where it is, then what isn't 0
abbrev pub context_shown : State → List ℕ
context_shown s =
    line_of (codes "pc") s.pc ++ registers_shown 0 s.registers
    ++ line_unless_zero (codes "hi") s.hi ++ line_unless_zero (codes "lo") s.lo

-- 1 or 0, as a digit
abbrev pub bit_digit : Bool → ℕ
bit_digit bit = if bit then 49 else 48

-- the last fault: its code, the address and whether that is a branch's
abbrev pub fault_shown : Option Fault → List ℕ
fault_shown None = []
fault_shown (Some fault) =
    codes "fault " ++ decimal (number_of fault.code) ++ 32 ∷ hex_of fault.epc ++ 32 ∷ bit_digit fault.bd ∷ 10 ∷ []

-- a task's context, where there is a task
abbrev pub task_shown : Option TaskView → List ℕ
task_shown None = []
task_shown (Some task) = context_shown task.context

-- task 1's context and processor 1's last fault
abbrev pub board_shown : BoardState → List ℕ
board_shown b = task_shown (task_of b 1) ++ fault_shown (fault_of b 1)
