-- What `debug` answers to commands (own choice).
use Rattle.std.specs.Prelude.{◌≡◌, ℕ, ◌+◌, nat_le, Bool, if◌then◌else◌, List, [], ◌∷◌, ◌++◌, length, drop, codes}
use Rattle.std.specs.Prelude.{Option, Some, None}
use Rattle.brd_exec.specs.State.{State}
use Rattle.brd_mem.specs.Memory.{byte_at}
use Rattle.brd_board.specs.Board.{registers_of}
use Rattle.brd_debug.specs.Debugger.{DebuggerState, shown, went}
use Rattle.brd_debug.specs.Marks.{is_marked, marked}
use Rattle.brd_debug.specs.Stops.{IsStop, IsLeast, IsGreatest}
use Rattle.brd_text.specs.Hex.{hex_of}
use Rattle.brd_report.specs.Report.{number_line}
use Rattle.brd_report.specs.Shown.{context_shown}
use Rattle.brd_running.specs.declared.debug_line.DebugCommand.{DebugCommand}
use Rattle.brd_running.specs.declared.debug_line.DebugCommand.TheVariants.{Goto, Next, Back, Break, Watch, Registers}
use Rattle.brd_running.specs.declared.debug_line.DebugCommand.TheVariants.{Memory, Quit, Unknown}

-- these bytes and a newline
abbrev pub ended : List ℕ → List ℕ
ended bytes = bytes ++ 10 ∷ []

-- `goto`: the position, or how many events there are, where there are fewer
abbrev pub goto_text : DebuggerState → ℕ → List ℕ
goto_text d n =
    if nat_le n (length d.events) then number_line (codes "at") n else number_line (codes "past") (length d.events)

-- the debugger after `goto`: at the position, where there are n events
abbrev pub after_goto : DebuggerState → ℕ → DebuggerState
after_goto d n = if nat_le n (length d.events) then record d { position = n } else d

-- `next` and `back`: the stop that was found
abbrev pub found_text : Option ℕ → List ℕ
found_text None = ended (codes "none")
found_text (Some n) = number_line (codes "at") n

-- `break` and `watch`: whether the address is set now
abbrev pub set_text : Bool → List ℕ
set_text is_set = if is_set then ended (codes "ok") else ended (codes "full")

-- with one more break, or one more watch, unless there are 64 others
abbrev pub with_break : DebuggerState → ℕ → DebuggerState
with_break d address = record d { stops = record d.stops { breaks = marked d.stops.breaks address } }

abbrev pub with_watch : DebuggerState → ℕ → DebuggerState
with_watch d address = record d { stops = record d.stops { watches = marked d.stops.watches address } }

-- `regs`: the context in which a processor executes
abbrev pub registers_text : Option State → List ℕ
registers_text None = ended (codes "none")
registers_text (Some context) = context_shown context

-- `mem`: a byte of RAM in two hexadecimal digits, the last of the eight that it has as a word
abbrev pub byte_text : Option ℕ → List ℕ
byte_text None = ended (codes "outside")
byte_text (Some byte) = ended (drop 6 (hex_of byte))

-- A debugger does a command: what it answers, and the debugger after it. `quit` has no answer, and ends.
abbrev pub Does : DebuggerState → DebugCommand → List ℕ → DebuggerState → Type 0
Does d (Goto n) answer next = (answer ≡ goto_text d n) × (next ≡ after_goto d n)
Does d Next answer next =
    (found : Option ℕ) × IsLeast (IsStop d.stops d.boot d.events) (d.position + 1) (length d.events) found
    × (answer ≡ found_text found) × (next ≡ went d found)
Does d Back answer next =
    (found : Option ℕ) × IsGreatest (IsStop d.stops d.boot d.events) 0 d.position found
    × (answer ≡ found_text found) × (next ≡ went d found)
Does d (Break address) answer next =
    (answer ≡ set_text (is_marked next.stops.breaks address)) × (next ≡ with_break d address)
Does d (Watch address) answer next =
    (answer ≡ set_text (is_marked next.stops.watches address)) × (next ≡ with_watch d address)
Does d (Registers cpu) answer next = (answer ≡ registers_text (registers_of (shown d) cpu)) × (next ≡ d)
Does d (Memory address) answer next = (answer ≡ byte_text (byte_at (shown d).memory address)) × (next ≡ d)
Does d Quit answer next = ⊥
Does d Unknown answer next = (answer ≡ ended (codes "unknown")) × (next ≡ d)

-- it does a command, or the command is `quit`
abbrev pub DoesOrQuits : DebuggerState → DebugCommand → Option (List ℕ) → DebuggerState → Type 0
DoesOrQuits d command None next = (command ≡ Quit) × (next ≡ d)
DoesOrQuits d command (Some answer) next = Does d command answer next

-- A debugger has done the first of some commands, one after the other: what it has answered, what it is then, and which
-- commands are left.
pub data HasDone (first : DebuggerState) (commands : List DebugCommand) : List ℕ → DebuggerState → List DebugCommand →
    Type 0 where
  nothing_yet : HasDone first commands [] first commands
  one_more : (bytes answer : List ℕ) (d next : DebuggerState) (command : DebugCommand) (left : List DebugCommand) →
      HasDone first commands bytes d (command ∷ left) → Does d command answer next →
      HasDone first commands (bytes ++ answer) next left
