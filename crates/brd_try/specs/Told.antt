-- What `try` prints of a board (own choice): its console, why it takes no more turns and after how many steps, what
-- stands then in words, and the registers of each task that aren't 0.
use Rattle.std.specs.Prelude.{◌≡◌, ℕ, zero, suc, ◌==◌, nat_lt, ◌-◌, Bool, true, if◌then◌else◌, List, [], ◌∷◌, ◌++◌}
use Rattle.std.specs.Prelude.{codes, length, take, Option, None, Some, slice_index_or}
use Rattle.std.specs.Bool.{MatchBool}
use Rattle.std.specs.Fmt.{decimal}
use Rattle.brd_board.specs.Board.{BoardState, task_of}
use Rattle.brd_exec.specs.State.{State, read}
use Rattle.brd_isa.specs.Registers.{register_names}
use Rattle.brd_tasks.specs.declared.task.TaskView.{TaskView}
use Rattle.brd_text.specs.Hex.{hex_of}
use Rattle.brd_try.specs.Turns.{have_ended}

-- whether some bytes end with a newline; what none of them does
abbrev pub ends_from : Bool → List ℕ → Bool
ends_from ends [] = ends
ends_from ends (byte ∷ bytes) = ends_from (byte == 10) bytes

-- a console's bytes, and a newline where there are some that don't end with one
abbrev pub ends_line : List ℕ → Bool
ends_line bytes = ends_from true bytes

abbrev pub whole_text : List ℕ → List ℕ
whole_text bytes = bytes ++ (if ends_line bytes then [] else 10 ∷ [])

-- The same of a console that has at most 1,600 bytes, as 20 lines of 80; else its front, and how many bytes come
-- behind.
abbrev pub more_text : ℕ → List ℕ
more_text count = codes "(and " ++ decimal count ++ codes " bytes more: --keep, and board run shows them)\n"

unfoldable pub console_text : List ℕ → List ℕ
console_text bytes =
    if nat_lt 1600 (length bytes) then whole_text (take 1600 bytes) ++ more_text (length bytes - 1600)
    else whole_text bytes

-- digits without the zeros in front
abbrev pub trimmed : List ℕ → List ℕ
trimmed [] = []
trimmed (digit ∷ digits) = if digit == 48 then trimmed digits else digit ∷ digits

-- a line with another word by its name, two spaces after what stands there; 0 is left out
abbrev pub behind : List ℕ → List ℕ
behind [] = []
behind (byte ∷ bytes) = byte ∷ bytes ++ codes "  "

abbrev pub with_word : List ℕ → List ℕ → List ℕ → ℕ → List ℕ
with_word line front name word =
    if word == 0 then line else behind line ++ front ++ name ++ codes " 0x" ++ trimmed (hex_of word)

-- a line with the first n registers of a context, by their names
unfoldable pub registers_to : State → ℕ → List ℕ
registers_to s zero = []
registers_to s (suc n) = with_word (registers_to s n) (codes "$") (slice_index_or register_names n []) (read s n)

-- the words of a context that aren't 0
unfoldable pub words_text : State → List ℕ
words_text s = with_word (with_word (registers_to s 32) [] (codes "hi") s.hi) [] (codes "lo") s.lo

-- the line of a task, with its number where there are several
abbrev pub task_front : ℕ → ℕ → List ℕ
task_front tasks id = if tasks == 1 then [] else codes "task " ++ decimal id ++ codes ": "

abbrev pub task_text : ℕ → ℕ → Option TaskView → List ℕ
task_text tasks id None = []
task_text tasks id (Some task) = task_front tasks id ++ words_text task.context ++ 10 ∷ []

-- the lines of the tasks 1 to n, of all
abbrev pub lines_to : ℕ → BoardState → ℕ → List ℕ
lines_to tasks b zero = []
lines_to tasks b (suc n) = lines_to tasks b n ++ task_text tasks (suc n) (task_of b (suc n))

abbrev pub tasks_text : ℕ → BoardState → List ℕ
tasks_text tasks b = lines_to tasks b tasks

-- why there are no more turns: the board is off, by a call at some place; or all tasks have ended; or neither
abbrev pub IsWhy : ℕ → BoardState → List ℕ → Type 0
IsWhy tasks b why =
    MatchBool b.kernel.off ((place : List ℕ) × (why ≡ codes "ext_ker at " ++ place))
    (why ≡ (if have_ended b tasks then codes "every task has ended," else codes "no end"))

-- the line that says so, and after how many steps
abbrev pub stop_line : List ℕ → ℕ → List ℕ
stop_line why steps =
    codes "stopped: " ++ why ++ codes " after " ++ decimal steps
    ++ (if steps == 1 then codes " step\n" else codes " steps\n")

-- What is told of a board with n tasks after so many steps. Of what stands then in words nothing is said here.
pub record IsTold (tasks steps : ℕ) (b : BoardState) (text : List ℕ) : Type 0 where
  pub why : List ℕ
  pub is_why : IsWhy tasks b why
  pub words : List ℕ
  pub is_text : text ≡ console_text b.kernel.console ++ stop_line why steps ++ words ++ tasks_text tasks b
