-- An event that reports that an instruction was done is an instruction to who is told of it, and no line is made of it
-- where those of instructions aren't shown.
use Rattle.std.proofs.Common.{◌≡◌, ℕ, zero, suc, ◌+◌, ◌≤◌, ◌<◌, Bool, true, false, List, [], refl, sym, ap, ◌∙◌, subst, arith}
use Rattle.std.proofs.lemmas.Bool.{false≢true}
use Rattle.std.specs.Prelude.{Option, Some, None, not, ◌&&◌, ◌||◌, if◌then◌else◌, slice_get}
use Rattle.brd_isa.specs.declared.instruction.Insn.{Insn}
use Rattle.brd_exec.specs.State.{State}
use Rattle.brd_board.specs.declared.event.Event.{Event}
use Rattle.brd_board.specs.declared.event.Event.TheVariants.{Step, Tick, Raise}
use Rattle.brd_board.specs.declared.event.Report.{Report}
use Rattle.brd_board.specs.declared.event.Report.TheVariants as report
use Rattle.brd_board.specs.Board.{BoardState, registers_of, happens, after}
use Rattle.brd_journal.specs.declared.playback.Playback.{Playback}
use Rattle.brd_journal.specs.declared.run.Run.{Run}
use Rattle.brd_journal.specs.Playing.{board_at, AllGoOn}
use Rattle.brd_journal.specs.Runs.{copies, ComesBehind}
use Rattle.brd_journal.proofs.PlayingLemmas.{run-at, run-board}
use Rattle.brd_journal.proofs.StillLemmas.{no-more}
use Rattle.brd_happening.specs.declared.found.Found.{Found}
use Rattle.brd_happening.specs.declared.instruction.Instruction.{Instruction}
use Rattle.brd_happening.specs.declared.happening.{What.What, Happening.Happening}
use Rattle.brd_happening.specs.declared.happening.What.TheVariants as what
use Rattle.brd_happening.specs.Before.{before_of}
use Rattle.brd_happening.specs.declared.before.Before.{Before}
use Rattle.brd_happening.specs.Happening.{instruction_from, executed_in, what_of, happening_from, happening_of}
use Rattle.brd_printer.specs.declared.printer.{Manner.Manner, Options.Options, Printer.Printer}
use Rattle.brd_names.specs.declared.stretch.Quiet.{Quiet}
use Rattle.brd_printer.specs.Links.{ended_by}
use Rattle.brd_printer.specs.Concerns.{concerns}
use Rattle.brd_seen.specs.Quiets.{quiet_of}
use Rattle.brd_printer.specs.Telling.{TellsNothing, TellsBy, Tells, instruction_in, is_untold, is_ran}
use Rattle.brd_printer.specs.Telling.{is_chosen, may_list, shows_instruction, touches, wants}
use Rattle.brd_printer.specs.Telling.{IsTold, IsTrace}
use Rattle.brd_printer.proofs.TraceLemmas.{trace_nothing, trace_one, trace_on}

-- an instruction, or nothing
abbrev is_plain : What → Bool
is_plain (what.Instruction it) = true
is_plain what.Untold = true
is_plain _ = false

from_plain : (insn : Option Insn) (context : Option State) (found : Found) (after : BoardState)
    → is_plain (instruction_from insn context found after) ≡ true
from_plain (Some insn) (Some context) found after = refl
from_plain (Some insn) None found after = refl
from_plain None context found after = refl

in_plain : (found : Option Found) (address : ℕ) (after : BoardState) → is_plain (executed_in found (report.Ran address) after) ≡ true
in_plain None address after = refl
in_plain (Some found) address after = from_plain found.insn (registers_of after found.cpu) found after

none_wanted : (instructions touching touches : Bool) → (instructions || touching) ≡ false
    → (if touching then touches else instructions) ≡ false
none_wanted true touching touches off = absurd (false≢true (sym off))
none_wanted false true touches off = absurd (false≢true (sym off))
none_wanted false false touches off = refl

none_of : (shown chosen wanted listed : Bool) → (shown && listed) ≡ false → (listed ≡ false → wanted ≡ false)
    → (shown && chosen && wanted) ≡ false
none_of false chosen wanted listed off so = refl
none_of true false wanted listed off so = refl
none_of true true wanted listed off so = so off

-- where no lines of instructions are wanted, none is shown
none_shown : (options : Options) (words : List ℕ) (cpu : Option ℕ) (it : Instruction) → may_list options ≡ false
    → shows_instruction options words cpu it ≡ false
none_shown options words cpu it off =
    none_of options.shown (is_chosen options.cpu cpu) (wants options words it) (options.instructions || options.touching) off
    (none_wanted options.instructions options.touching (touches words it.access))

nothing : (p : Printer) → TellsNothing p p []
nothing p = record { same = refl; none = refl }

hidden : (w : What) (kind : Option Quiet) (manner : Manner) (position count : ℕ) (told : Happening) (ended : List ℕ) (concerned : Bool) (p : Printer) → is_plain w ≡ true
    → may_list p.options ≡ false → TellsBy (instruction_in w) (is_untold w) kind manner position count told ended concerned p p []
hidden (what.Instruction it) kind manner position count told ended concerned p plain off = record {
  shown = λ is. absurd (false≢true (sym (none_shown p.options manner.words.now told.cpu it off) ∙ is));
  hidden = λ is. nothing p;
}
hidden what.Untold kind manner position count told ended concerned p plain off = nothing p
hidden (what.Call call) kind manner position count told ended concerned p plain off = absurd (false≢true plain)
hidden (what.Exception exception) kind manner position count told ended concerned p plain off = absurd (false≢true plain)
hidden (what.Raised line) kind manner position count told ended concerned p plain off = absurd (false≢true plain)
hidden (what.Lost line) kind manner position count told ended concerned p plain off = absurd (false≢true plain)
hidden (what.Accepted line) kind manner position count told ended concerned p plain off = absurd (false≢true plain)
hidden (what.Tick number) kind manner position count told ended concerned p plain off = absurd (false≢true plain)
hidden (what.Nothing why) kind manner position count told ended concerned p plain off = absurd (false≢true plain)

ran_plain : (board : BoardState) (event : Event) (told : Report) (after : BoardState) → is_ran told ≡ true
    → is_plain (what_of (before_of board event) told after) ≡ true
ran_plain board event (report.Ran address) after is = in_plain (before_of board event).found address after
ran_plain board event report.Off after is = absurd (false≢true is)
ran_plain board event report.NoSuch after is = absurd (false≢true is)
ran_plain board event report.Stopped after is = absurd (false≢true is)
ran_plain board event (report.Accepted line) after is = absurd (false≢true is)
ran_plain board event (report.Called address) after is = absurd (false≢true is)
ran_plain board event (report.Faulted address) after is = absurd (false≢true is)
ran_plain board event report.Idle after is = absurd (false≢true is)
ran_plain board event report.Ticked after is = absurd (false≢true is)
ran_plain board event report.TimeOver after is = absurd (false≢true is)
ran_plain board event report.Raised after is = absurd (false≢true is)

-- what is told of an event, by what was read of the board before it
pub told_is : (b boot : BoardState) (event : Event) (before : Before) (told : Report) (after : BoardState) (it : Happening)
    → b ≡ boot → before ≡ before_of b event → told ≡ (happens b event).report → after ≡ (happens b event).board
    → it ≡ happening_from before told after → it ≡ happening_of boot event
told_is b boot event before told after it same read reports leaves is =
    is ∙ ap (λ (x : Before). happening_from x told after) read
    ∙ ap (λ (x : Report). happening_from (before_of b event) x after) reports
    ∙ ap (λ (x : BoardState). happening_from (before_of b event) (happens b event).report x) leaves
    ∙ ap (λ (x : BoardState). happening_of x event) same

pub ran_hidden : (manner : Manner) (position count : ℕ) (board : BoardState) (event : Event) (p : Printer)
    → is_ran (happens board event).report ≡ true → may_list p.options ≡ false
    → Tells manner position count (happening_of board event) (ended_by board event) (concerns p.options.cpu board event) p p []
ran_hidden manner position count board event p ran off =
    let h = happens board event in
    hidden (what_of (before_of board event) h.report h.board) (quiet_of (happening_of board event)) manner position count (happening_of board event)
    (ended_by board event) (concerns p.options.cpu board event) p
    (ran_plain board event h.report h.board ran) off

-- Where lines of instructions aren't shown, nothing is said of links.
unended : (insn : Option Instruction) (untold : Bool) (kind : Option Quiet) (manner : Manner) (position count : ℕ) (told : Happening)
    (ended other : List ℕ) (concerned : Bool) (old new : Printer) (text : List ℕ) → may_list old.options ≡ false
    → TellsBy insn untold kind manner position count told ended concerned old new text → TellsBy insn untold kind manner position count told other concerned old new text
unended (Some it) untold kind manner position count told ended other concerned old new text off tells = record {
  shown = λ is. absurd (false≢true (sym (none_shown old.options manner.words.now told.cpu it off) ∙ is));
  hidden = tells.hidden;
}
unended None true kind manner position count told ended other concerned old new text off tells = tells
unended None false kind manner position count told ended other concerned old new text off tells = tells

pub told_ended : (manner : Manner) (position count : ℕ) (told : Happening) (ended other : List ℕ) (concerned : Bool) (old new : Printer) (text : List ℕ) (lists : Bool)
    → may_list old.options ≡ lists → (lists ≡ true → ended ≡ other)
    → Tells manner position count told ended concerned old new text → Tells manner position count told other concerned old new text
told_ended manner position count told ended other concerned old new text true is same tells =
    subst (λ (them : List ℕ). Tells manner position count told them concerned old new text) (same refl) tells
told_ended manner position count told ended other concerned old new text false is same tells =
    unended (instruction_in told.what) (is_untold told.what) (quiet_of told) manner position count told ended other concerned old new text is tells

-- what is passed is an ordinary instruction, and lines of these aren't shown
pub passes_both : (lists ran : Bool) → (not lists && ran) ≡ true → (lists ≡ false) × (ran ≡ true)
passes_both true ran is = absurd (false≢true is)
passes_both false ran is = (refl, is)

-- ---- many of them, one after the other

pub ran_step : (board : BoardState) (event : Event) (count n : ℕ) → AllGoOn board event count → n < count
    → is_ran (happens (after board (copies event n)) event).report ≡ true
unfolding copies
ran_step board (Step cpu) count n ran few = ap is_ran (ran n few).1
ran_step board Tick count n ran few = absurd (omega (arith, ran, few))
ran_step board (Raise line) count n ran few = absurd (omega (arith, ran, few))

-- of such an event nothing is told
ran_one : (manner : Manner) (boot : BoardState) (events : List Event) (position : ℕ) (board : BoardState) (event : Event) (p : Printer)
    → slice_get events position ≡ Some event → board ≡ board_at boot events position → is_ran (happens board event).report ≡ true
    → may_list p.options ≡ false → IsTold manner boot events position 1 p p []
ran_one manner boot events position board event p is same ran off = record {
  event = event;
  is = is;
  some = omega arith;
  still = λ n above below. absurd (omega (arith, above, below));
  tells = subst (λ (b : BoardState). Tells manner position 1 (happening_of b event) (ended_by b event) (concerns p.options.cpu b event) p p []) same
      (ran_hidden manner position 1 board event p ran off);
}

module _ (manner : Manner) (boot board : BoardState) (events : List Event) (at : ℕ) (rest : Run) (count : ℕ) (p : Printer)
    (comes : ComesBehind events at rest) (is : board ≡ board_at boot events at) (ran : AllGoOn board rest.event count)
    (few : count ≤ rest.count) (off : may_list p.options ≡ false) where
  one_at : (n : ℕ) → n < count → IsTrace manner boot events (at + n) (at + n + 1) p p []
  one_at n less =
      trace_one manner boot events (at + n) 1 p p [] (ran_one manner boot events (at + n) (after board (copies rest.event n)) rest.event p
      (run-at events at n rest comes (omega (arith, less, few)))
      (run-board boot board events at n rest is comes (omega (arith, less, few)))
      (ran_step board rest.event count n ran less) off)

  some_at : (n : ℕ) → n ≤ count → IsTrace manner boot events at (at + n) p p []
  some_at zero less =
      let same : at ≡ at + 0 = omega arith in
      subst (λ (to : ℕ). IsTrace manner boot events at to p p []) same (trace_nothing manner boot events at p)
  some_at (suc n) less =
      let next : at + n + 1 ≡ at + suc n = omega arith in
      subst (λ (to : ℕ). IsTrace manner boot events at to p p []) next
      (trace_on manner boot events at (at + n) (at + n + 1) p p p [] [] (some_at n (omega (arith, less))) (one_at n (omega (arith, less))))

  -- Steps that only execute an instruction are told as nothing.
  pub all_hidden : IsTrace manner boot events at (at + count) p p []
  all_hidden = some_at count (omega arith)

-- ---- none of them

abbrev play_of : BoardState → ℕ → Playback
play_of board at = record { board = board; at = at }

pub none_done : (old new : Playback) (event : Event) (count : ℕ) → new.board ≡ after old.board (copies event count)
    → new.at ≡ old.at + count → count ≡ 0 → new ≡ old
none_done old new event count leaves on none =
    let board : new.board ≡ old.board = leaves ∙ ap (λ (n : ℕ). after old.board (copies event n)) none
    ∙ sym (no-more old.board old.board event 0 refl refl) in
    let at : new.at ≡ old.at = omega (arith, on, none) in
    ap (λ (b : BoardState). play_of b new.at) board ∙ ap (play_of old.board) at
