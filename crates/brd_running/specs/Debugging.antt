-- The command `debug`: what it writes for what it reads, and how it ends where it doesn't.
use Rattle.std.specs.Prelude.{◌≡◌, ◌≢◌, ◌⊎◌, ℕ, ◌+◌, ◌<◌, ◌≤◌, List, [], ◌∷◌, ◌++◌, length, Option, Some, IfSome}
use Rattle.std.specs.Prelude.{Result, Ok, Err}
use Rattle.std.specs.Io.KnownBytes.{Keeps}
use Rattle.std.specs.IoError.{error_kind}
use Rattle.std.specs.declared.io.ErrorKind.TheVariants.{OutOfMemory}
use Rattle.brd_debug.specs.Debugger.{DebuggerState}
use Rattle.brd_debug.specs.Stops.{no_stops}
use Rattle.brd_running.specs.Answers.{Does, HasDone}
use Rattle.brd_running.specs.DebugLine.{commands_of, line_size}
use Rattle.brd_inputs.specs.Input.{most_bytes}
use Rattle.brd_report.specs.Output.{Writes}
use Rattle.brd_inputs.specs.Start.{AreWithin, IsStart, KeepsFromStarting}
use Rattle.brd_running.specs.declared.debug_line.DebugCommand.{DebugCommand}
use Rattle.brd_running.specs.declared.debug_line.DebugCommand.TheVariants.{Quit}
use Rattle.brd_inputs.specs.declared.fault.CommandFault.{CommandFault}
use Rattle.brd_inputs.specs.declared.fault.CommandFault.TheVariants.{NoMemory, Read, TooLong, TooManyReads, Write}
use Rattle.brd_inputs.specs.declared.input_name.InputName.TheVariants as input_name
use Rattle.brd_inputs.specs.declared.input_name.InputName.TheVariants.{StandardInput}
use Rattle.brd_inputs.specs.declared.start.Start.{Start}

-- the debugger of a board and a journal, before the first command
abbrev pub debugger_of : Start → DebuggerState
debugger_of start =
    record {
      boot = start.board;
      events = start.journal.events;
      position = 0;
      stops = no_stops;
    }

-- what a debugger answers to the first of some commands
pub record AnswersToFirst (d : DebuggerState) (commands : List DebugCommand) (bytes : List ℕ) : Type 0 where
  pub last : DebuggerState
  pub left : List DebugCommand
  pub done : HasDone d commands bytes last left

-- What a debugger answers to the commands of a text whose lines end within the bytes that an input may have, where none
-- of these is `quit` and the next line doesn't end there.
pub record AnswersUpToLimit (d : DebuggerState) (text bytes : List ℕ) : Type 0 where
  pub last : DebuggerState
  pub front : List ℕ
  pub rest : List ℕ
  pub whole : text ≡ front ++ rest
  pub within : length front ≤ most_bytes
  pub done : HasDone d (commands_of text) bytes last (commands_of rest)
  pub beyond : most_bytes < length front + line_size rest

-- What a debugger answers to the first of some commands, and a front of its answer to the next of them.
pub record AnswersCutShort (d : DebuggerState) (commands : List DebugCommand) (bytes : List ℕ) : Type 0 where
  pub before : List ℕ
  pub last : DebuggerState
  pub command : DebugCommand
  pub left : List DebugCommand
  pub done : HasDone d commands before last (command ∷ left)
  pub answer : List ℕ
  pub next : DebuggerState
  pub does : Does last command answer next
  pub front : List ℕ
  pub rest : List ℕ
  pub whole : front ++ rest ≡ answer
  pub cut : bytes ≡ before ++ front

-- Nothing is left to do, where these commands and this text are left: the input has ended; or the next command is
-- `quit`, and what stands after it isn't read.
abbrev pub IsOver : List DebugCommand → List ℕ → Type 0
IsOver [] rest = rest ≡ []
IsOver (command ∷ left) rest = (command ≡ Quit) × (left ≡ commands_of rest)

-- What a debugger answers to the commands of a text, up to `quit` or the last. Of the input that had the text so much
-- is left; it has given no more bytes than an input may have.
pub record AnswersToAll (d : DebuggerState) (text : List ℕ) (unread : Option (List ℕ)) (bytes : List ℕ) : Type 0 where
  pub last : DebuggerState
  pub left : List DebugCommand
  pub rest : List ℕ
  pub done : HasDone d (commands_of text) bytes last left
  pub is_unread : unread ≡ Some rest
  pub over : IsOver left rest
  pub within : length text ≤ most_bytes + length rest

-- Why a debugger ends before it has answered to all commands of a text. The answers to those before were written; where
-- writing failed, a front of the answer to the next one too.
abbrev pub StopsAnswering : CommandFault → DebuggerState → List ℕ → Option (List ℕ) → Option (List ℕ) → Type 0
StopsAnswering NoMemory d text old new = Writes (AnswersToFirst d (commands_of text)) old new
StopsAnswering (Read from error) d text old new =
    (from ≡ StandardInput) × (error_kind error ≢ OutOfMemory) × Writes (AnswersToFirst d (commands_of text)) old new
StopsAnswering (TooLong from) d text old new = (from ≡ StandardInput) × Writes (AnswersUpToLimit d text) old new
StopsAnswering (TooManyReads from) d text old new =
    (from ≡ StandardInput) × Writes (AnswersToFirst d (commands_of text)) old new
StopsAnswering (Write error) d text old new = Writes (AnswersCutShort d (commands_of text)) old new
StopsAnswering _ d text old new = ⊥

-- how a debugger ends whose commands are a text: it has answered to all, or was stopped
abbrev pub EndsAnswering : Result Unit CommandFault → DebuggerState → List ℕ → Option (List ℕ) → Option (List ℕ) →
    Option (List ℕ) → Type 0
EndsAnswering (Ok done) d text unread old new = Writes (AnswersToAll d text unread) old new
EndsAnswering (Err fault) d text unread old new = StopsAnswering fault d text old new

-- Three inputs give a debugger, and it ends so: of standard input that was to read, and this is left.
pub record Debugs (image config journal : List ℕ) (unread_first unread : Option (List ℕ))
    (result : Result Unit CommandFault)
    (old new : Option (List ℕ)) : Type 0 where
  pub start : Start
  pub within : AreWithin image config journal
  pub is_start : IsStart image config journal start
  pub ends : IfSome unread_first (λ text. EndsAnswering result (debugger_of start) text unread old new)

-- Because of the three inputs, or for lack of memory, there is no debugger. Standard input wasn't read, and nothing was
-- written.
pub record GivesNoDebugger {C : Type 0} (image config journal : List ℕ) (input_first input : C)
    (result : Result Unit CommandFault)
    (old new : Option (List ℕ)) : Type 0 where
  pub fault : CommandFault
  pub is_fault : result ≡ Err fault
  pub keeps_from : KeepsFromStarting input_name.Journal image config journal fault
  pub unread : input ≡ input_first
  pub nothing : Keeps old new

-- how `debug` ends
abbrev pub DebugEnds : {C : Type 0} → (C → Option (List ℕ)) → List ℕ → List ℕ → List ℕ → C → C →
    Result Unit CommandFault → Option (List ℕ) → Option (List ℕ) → Type 0
DebugEnds remaining image config journal input_first input result old new =
    Debugs image config journal (remaining input_first) (remaining input) result old new
    ⊎ GivesNoDebugger image config journal input_first input result old new
