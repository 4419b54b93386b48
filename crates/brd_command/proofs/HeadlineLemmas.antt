-- From an object file that `asm` wrote to what `run` and `debug` show of it.
use Rattle.std.proofs.Common.{◌≡◌, ℕ, ◌+◌, ◌≤◌, List, [], ◌∷◌, ◌++◌, length, take, Bool, true, false, refl, sym, ap}
use Rattle.std.proofs.Common.{subst, ◌∙◌, inl, inr, arith, append_assoc}
use Rattle.std.specs.Prelude.{◌⊎◌, codes, nat_le, if◌then◌else◌, Option, Some, None, IfSome, Result, Ok, Err}
use Rattle.std.specs.Io.KnownBytes.{Appends}
use Rattle.std.proofs.lemmas.Bool.{leb-true}
use Rattle.std.proofs.lemmas.List.{append-nil}
use Rattle.brd_text.specs.Faults.{◌>>=◌}
use Rattle.brd_mem.specs.declared.image.Image.{Image}
use Rattle.brd_elf.specs.declared.fault.ElfFault.{ElfFault}
use Rattle.brd_board.specs.declared.event.Event.{Event}
use Rattle.brd_board.specs.Board.{BoardState, after}
use Rattle.brd_debug.specs.Debugger.{DebuggerState, went}
use Rattle.brd_debug.specs.Stops.{IsStop, IsLeast, IsGreatest}
use Rattle.brd_image.specs.Building.{step, booted, loaded}
use Rattle.brd_image.specs.Headline.{Headline, Starts}
use Rattle.brd_image.specs.declared.fault.BuildFault.TheVariants.{Elf}
use Rattle.brd_image.proofs.FittingLemmas as fitting
use Rattle.brd_running.specs.Answers.{Does, HasDone, ended, found_text}
use Rattle.brd_running.specs.Answers.HasDone.{nothing_yet as none_done, one_more as one_more_done}
use Rattle.brd_running.specs.AsmCommand.{IsObjectFile}
use Rattle.brd_running.specs.Debugging.{AnswersCutShort, AnswersToFirst, AnswersUpToLimit, DebugEnds}
use Rattle.brd_running.specs.Debugging.{EndsAnswering, IsOver, StopsAnswering, debugger_of}
use Rattle.brd_running.specs.DebugLine.{commands_of}
use Rattle.brd_command.specs.Laws.{HasShown, IsAnswered, IsAssembled, Leads, ShowsAnswers}
use Rattle.brd_command.specs.Laws.{ShowsFirstAnswers, ShowsHeadline, ShowsUpToEnd, StandsAt}
use Rattle.brd_command.specs.Laws.HasShown.{nothing_yet, one_more}
use Rattle.brd_report.specs.Output.{AppendsFront, Writes, WritesFront}
use Rattle.brd_report.specs.Report.{number_line}
use Rattle.brd_running.specs.RunCommand.{RunEnds, ShowsRun}
use Rattle.brd_inputs.specs.Start.{IsStart}
use Rattle.brd_running.specs.declared.debug_line.DebugCommand.{DebugCommand}
use Rattle.brd_running.specs.declared.debug_line.DebugCommand.TheVariants.{Goto, Next, Back, Break, Watch, Registers}
use Rattle.brd_running.specs.declared.debug_line.DebugCommand.TheVariants.{Memory, Quit, Unknown}
use Rattle.brd_inputs.specs.declared.fault.CommandFault.{CommandFault}
use Rattle.brd_inputs.specs.declared.fault.CommandFault.TheVariants.{NoMemory, Read, TooLong, TooManyReads, Write}
use Rattle.brd_inputs.specs.declared.start.Start.{Start}

-- ---- the object file, and the board that it makes

-- what was written on an OUT that was empty
pub written_file : (source elf : List ℕ) → IsAssembled source elf → IsObjectFile source elf
written_file source elf is = subst (λ (bytes : List ℕ). IsObjectFile source bytes) (sym is.1.written) is.1.are_meant

pub starts : (source elf config : List ℕ) (board : BoardState) → IsObjectFile source elf → loaded elf config ≡ Ok board
    → Starts source elf config board
starts source elf config board object h =
    let again : fitting.IsReadAgain source elf object.image =
    record {
      is_image = object.is_image;
      is_file = object.is_file;
      is_read = object.is_read;
      instructions = object.instructions;
    } in
    let boots : booted object.image config ≡ Ok board =
    subst (λ (r : Result Image ElfFault). (step Elf r >>= λ i. booted i config) ≡ Ok board) object.is_read h in
    subst (λ (bytes : List ℕ). Starts source bytes config board) (sym object.is_file)
    (fitting.starts source elf config object.image (Ok board) again boots)

pub headline : (source elf config : List ℕ) (events : List Event) (start : BoardState) → IsObjectFile source elf
    → loaded elf config ≡ Ok start → Headline source elf config events (after start events)
headline source elf config events start object h =
    record { start = start; starts = starts source elf config start object h; is_after = refl }

-- ---- `run`

pub of_run : (source elf config journal report : List ℕ) → IsAssembled source elf → ShowsRun elf config journal report
    → ShowsHeadline source elf config journal report
of_run source elf config journal report assembled shows = record {
  journal = shows.start.journal;
  is_read = shows.is_start.reads;
  board = after shows.start.board shows.start.journal.events;
  headline = headline source elf config shows.start.journal.events shows.start.board
      (written_file source elf assembled) shows.is_start.loads;
  is_report = shows.shown;
}

pub run_shows : (source elf config journal : List ℕ) (old new : Option (List ℕ)) → IsAssembled source elf
    → RunEnds (Ok tt) elf config journal old new → Writes (ShowsHeadline source elf config journal) old new
run_shows source elf config journal old new assembled ends = record {
  bytes = ends.bytes;
  are_meant = of_run source elf config journal ends.bytes assembled ends.are_meant;
  written = ends.written;
}

-- ---- `debug`

-- where a debugger is that has done commands: at a position of the same events, over the same boot
pub record IsOf (first d : DebuggerState) : Type 0 where
  pub boot : d.boot ≡ first.boot
  pub events : d.events ≡ first.events
  pub within : d.position ≤ length first.events

-- its board is the headline's
pub stands : (source elf config : List ℕ) (first d : DebuggerState) → Starts source elf config first.boot → IsOf first d
    → StandsAt source elf config first.events d
stands source elf config first d is_started is = record {
  same = is.events;
  within = is.within;
  headline = record {
    start = first.boot;
    starts = is_started;
    is_after = λ i. after (is.boot i) (take d.position (is.events i));
  };
}

same_is : (first d next : DebuggerState) → IsOf first d → next ≡ d → IsOf first next
same_is first d next is same = subst (λ (x : DebuggerState). IsOf first x) (sym same) is

goes_is : (first d next : DebuggerState) (n : ℕ) (there : Bool) → nat_le n (length d.events) ≡ there → IsOf first d
    → next ≡ (if there then record d { position = n } else d) → IsOf first next
goes_is first d next n true le is same =
    let within : n ≤ length first.events =
    subst (λ (es : List Event). n ≤ length es) is.events (leb-true n (length d.events) le) in
    same_is first (record d { position = n }) next (record { boot = is.boot; events = is.events; within = within }) same
goes_is first d next n false le is same = same_is first d next is same

next_is : (first d next : DebuggerState) (found : Option ℕ)
    → IsLeast (IsStop d.stops d.boot d.events) (d.position + 1) (length d.events) found → IsOf first d
    → next ≡ went d found → IsOf first next
next_is first d next None least is same = same_is first d next is same
next_is first d next (Some n) least is same =
    let within : n ≤ length first.events = omega (arith, ap (λ (es : List Event). length es) is.events, least.1) in
    same_is first (record d { position = n }) next (record { boot = is.boot; events = is.events; within = within }) same

back_is : (first d next : DebuggerState) (found : Option ℕ)
    → IsGreatest (IsStop d.stops d.boot d.events) 0 d.position found
    → IsOf first d → next ≡ went d found → IsOf first next
back_is first d next None greatest is same = same_is first d next is same
back_is first d next (Some n) greatest is same =
    let within : n ≤ length first.events = omega (arith, is.within, greatest.1) in
    same_is first (record d { position = n }) next (record { boot = is.boot; events = is.events; within = within }) same

does_is : (first d : DebuggerState) (command : DebugCommand) (answer : List ℕ) (next : DebuggerState)
    → IsOf first d → Does d command answer next → IsOf first next
does_is first d (Goto n) answer next is does = goes_is first d next n (nat_le n (length d.events)) refl is does.1
does_is first d Next answer next is does = next_is first d next does.0 does.1 is does.3
does_is first d Back answer next is does = back_is first d next does.0 does.1 is does.3
does_is first d (Break address) answer next is does =
    subst (λ (x : DebuggerState). IsOf first x) (sym does.1)
    (record { boot = is.boot; events = is.events; within = is.within })
does_is first d (Watch address) answer next is does =
    subst (λ (x : DebuggerState). IsOf first x) (sym does.1)
    (record { boot = is.boot; events = is.events; within = is.within })
does_is first d (Registers cpu) answer next is does = same_is first d next is does.1
does_is first d (Memory address) answer next is does = same_is first d next is does.1
does_is first d Quit answer next is does = absurd does
does_is first d Unknown answer next is does = same_is first d next is does.1

-- where a command leads
goes_leads : (d next : DebuggerState) (n : ℕ) (there : Bool) (answer : List ℕ)
    → answer ≡ (if there then number_line (codes "at") n else number_line (codes "past") (length d.events))
    → next ≡ (if there then record d { position = n } else d) → Leads d.events (Goto n) d.position answer next.position
goes_leads d next n true answer says same =
    let to : next.position ≡ n = ap (λ (x : DebuggerState). x.position) same in
    inl (to, says ∙ ap (λ (m : ℕ). number_line (codes "at") m) (sym to))
goes_leads d next n false answer says same = inr (ap (λ (x : DebuggerState). x.position) same, says)

found_leads : (d next : DebuggerState) (found : Option ℕ) (answer : List ℕ) → answer ≡ found_text found
    → next ≡ went d found
    → (answer ≡ number_line (codes "at") next.position)
    ⊎ ((next.position ≡ d.position) × (answer ≡ ended (codes "none")))
found_leads d next None answer says same = inr (ap (λ (x : DebuggerState). x.position) same, says)
found_leads d next (Some n) answer says same =
    inl (says ∙ ap (λ (m : ℕ). number_line (codes "at") m) (sym (ap (λ (x : DebuggerState). x.position) same)))

leads : (d : DebuggerState) (command : DebugCommand) (answer : List ℕ) (next : DebuggerState)
    → Does d command answer next
    → Leads d.events command d.position answer next.position
leads d (Goto n) answer next does = goes_leads d next n (nat_le n (length d.events)) answer does.0 does.1
leads d Next answer next does = found_leads d next does.0 answer does.2 does.3
leads d Back answer next does = found_leads d next does.0 answer does.2 does.3
leads d (Break address) answer next does = ap (λ (x : DebuggerState). x.position) does.1
leads d (Watch address) answer next does = ap (λ (x : DebuggerState). x.position) does.1
leads d (Registers cpu) answer next does = ap (λ (x : DebuggerState). x.position) does.1
leads d (Memory address) answer next does = ap (λ (x : DebuggerState). x.position) does.1
leads d Quit answer next does = absurd does
leads d Unknown answer next does = ap (λ (x : DebuggerState). x.position) does.1

module _ (source elf config : List ℕ) (first : DebuggerState) (begins : first.position ≡ 0)
    (is_started : Starts source elf config first.boot) (commands : List DebugCommand) where
  is_of : (bytes : List ℕ) (d : DebuggerState) (left : List DebugCommand) → HasDone first commands bytes d left
      → IsOf first d
  is_of _ _ _ none_done =
      let within : first.position ≤ length first.events = omega (arith, begins) in
      record { boot = refl; events = refl; within = within }
  is_of _ _ _ (one_more_done bytes answer d next command left so_far does) =
      does_is first d command answer next (is_of bytes d (command ∷ left) so_far) does

  pub all_shown : (bytes : List ℕ) (d : DebuggerState) (left : List DebugCommand) → HasDone first commands bytes d left
      → HasShown source elf config first.events first commands bytes d left
  all_shown _ _ _ none_done = nothing_yet
  all_shown _ _ _ (one_more_done bytes answer d next command left so_far does) =
      let is = is_of bytes d (command ∷ left) so_far in
      one_more bytes answer d next command left (all_shown bytes d (command ∷ left) so_far)
      (stands source elf config first d is_started is) does
      (subst (λ (es : List Event). Leads es command d.position answer next.position) is.events
      (leads d command answer next does))

module _ (source elf config journal text : List ℕ) (object : IsObjectFile source elf) (start : Start)
    (is_start : IsStart elf config journal start) (old new : Option (List ℕ)) where
  answers : (bytes : List ℕ) (d : DebuggerState) (left : List DebugCommand)
      → HasDone (debugger_of start) (commands_of text) bytes d left
      → ShowsAnswers source elf config journal text left bytes
  answers bytes d left so_far = record {
    start = start;
    is_start = is_start;
    last = d;
    answers = all_shown source elf config (debugger_of start) refl
        (starts source elf config start.board object is_start.loads)
        (commands_of text) bytes d left so_far;
  }

  is_answered : (left : List DebugCommand) (rest : List ℕ) → IsOver left rest → IsAnswered left
  is_answered [] rest over = tt
  is_answered (command ∷ left) rest over = over.0

  whole : (bytes : List ℕ) → Appends old new bytes → AppendsFront old new bytes
  whole bytes written = record { front = bytes; rest = []; whole = append-nil bytes; written = written }

  first_shown : (bytes : List ℕ) → AnswersToFirst (debugger_of start) (commands_of text) bytes
      → ShowsFirstAnswers source elf config journal text bytes
  first_shown bytes are = (are.left, answers bytes are.last are.left are.done)

  of_first : Writes (AnswersToFirst (debugger_of start) (commands_of text)) old new
      → WritesFront (ShowsFirstAnswers source elf config journal text) old new
  of_first writes = record {
    bytes = writes.bytes;
    are_meant = first_shown writes.bytes writes.are_meant;
    written = whole writes.bytes writes.written;
  }

  of_limit : Writes (AnswersUpToLimit (debugger_of start) text) old new
      → WritesFront (ShowsFirstAnswers source elf config journal text) old new
  of_limit writes = record {
    bytes = writes.bytes;
    are_meant = (
      commands_of writes.are_meant.rest,
      answers writes.bytes writes.are_meant.last (commands_of writes.are_meant.rest) writes.are_meant.done,
    );
    written = whole writes.bytes writes.written;
  }

  of_cut : Writes (AnswersCutShort (debugger_of start) (commands_of text)) old new
      → WritesFront (ShowsFirstAnswers source elf config journal text) old new
  of_cut writes =
      let cut = writes.are_meant in
      record {
        bytes = cut.before ++ cut.answer;
        are_meant = (
          cut.left,
          answers (cut.before ++ cut.answer) cut.next cut.left
              (one_more_done cut.before cut.answer cut.last cut.next cut.command cut.left cut.done cut.does),
        );
        written = record {
          front = cut.before ++ cut.front;
          rest = cut.rest;
          whole = append_assoc cut.before cut.front cut.rest ∙ ap (λ (bytes : List ℕ). cut.before ++ bytes) cut.whole;
          written = subst (λ (bytes : List ℕ). Appends old new bytes) cut.cut writes.written;
        };
      }

  stopped : (fault : CommandFault) → StopsAnswering fault (debugger_of start) text old new
      → WritesFront (ShowsFirstAnswers source elf config journal text) old new
  stopped NoMemory stops = of_first stops
  stopped (Read from error) stops = of_first stops.2
  stopped (TooLong from) stops = of_limit stops.1
  stopped (TooManyReads from) stops = of_first stops.1
  stopped (Write error) stops = of_cut stops
  stopped fault stops = absurd stops

  pub answered : (result : Result Unit CommandFault) (unread : Option (List ℕ))
      → EndsAnswering result (debugger_of start) text unread old new
      → ShowsUpToEnd result source elf config journal text old new
  answered (Ok _) unread writes =
      let are = writes.are_meant in
      record {
        bytes = writes.bytes;
        are_meant = (are.left, is_answered are.left are.rest are.over, answers writes.bytes are.last are.left are.done);
        written = writes.written;
      }
  answered (Err fault) unread stops = inl (stopped fault stops)

pub debug_shows : {C : Type 0} (remaining : C → Option (List ℕ)) (source elf config journal text : List ℕ)
    (input_first input : C) (result : Result Unit CommandFault) (old new : Option (List ℕ)) → IsAssembled source elf
    → remaining input_first ≡ Some text
    → DebugEnds remaining elf config journal input_first input result old new
    → ShowsUpToEnd result source elf config journal text old new
debug_shows remaining source elf config journal text input_first input result old new assembled is (inl debugs) =
    answered source elf config journal text (written_file source elf assembled) debugs.start debugs.is_start old new
    result (remaining input)
    (subst (λ (known : Option (List ℕ)). IfSome known
    (λ (t : List ℕ). EndsAnswering result (debugger_of debugs.start) t (remaining input) old new)) is debugs.ends)
debug_shows remaining source elf config journal text input_first input result old new assembled is (inr none) =
    subst (λ (r : Result Unit CommandFault). ShowsUpToEnd r source elf config journal text old new)
    (sym none.is_fault) (inr none.nothing)
