-- An event that does nothing leaves the board as it is, and a line that is raised again is pending already.
use Rattle.std.proofs.Common.{◌≡◌, ℕ, zero, suc, List, [], ◌∷◌, replicate, refl, sym, ap, subst, ◌∙◌}
use Rattle.std.proofs.lemmas.Bool.{false≢true}
use Rattle.std.specs.Prelude.{Bool, true, false, Option, None, Some, is_some, nat_lt, if◌then◌else◌, slice_index_or, slice_set}
use Rattle.brd_exec.specs.declared.outcome.Outcome.{Outcome}
use Rattle.brd_exec.specs.declared.outcome.Outcome.TheVariants.{Done, Syscall, Exception}
use Rattle.brd_time.specs.Time.{last_count}
use Rattle.brd_kernel.specs.declared.processor.InterruptLine.{InterruptLine}
use Rattle.brd_kernel.specs.declared.processor.Processor.{Processor}
use Rattle.brd_kernel.specs.Kernel.{KernelState, processor_at, deliverable, line_at, can_be_raised, quiet, with_pending}
use Rattle.brd_board.specs.Executing.{Executed, executed}
use Rattle.brd_board.specs.declared.event.Event.{Event}
use Rattle.brd_board.specs.declared.event.Event.TheVariants.{Step, Tick, Raise}
use Rattle.brd_board.specs.declared.event.Report.{Report}
use Rattle.brd_board.specs.declared.event.Report.TheVariants as report
use Rattle.brd_board.proofs.OffLemmas.{off-stays}
use Rattle.brd_board.specs.Board.{BoardState, Happened, reported, happens, happens_on, line_raised, after, stepped_in, accepts_or_executes, executes_in, instruction_done, with_executed}
use Rattle.brd_journal.specs.Runs.{copies}
use Rattle.brd_journal.specs.Still.{did_nothing, does_no_more, Rests}
use Rattle.brd_journal.proofs.EventLemmas.{copies-zero}

-- What reports that it has done nothing leaves this board.
abbrev LeavesIt : BoardState → Happened → Type 0
LeavesIt b done = did_nothing done.report ≡ true → done.board ≡ b

-- where a test decides what happens
either : (b : BoardState) (test : Bool) (one other : Happened) → LeavesIt b one → LeavesIt b other → LeavesIt b (if test then one else other)
either b true one other first second = first
either b false one other first second = second

done-leaves : (before b : BoardState) (cpu address : ℕ) (outcome : Outcome) → LeavesIt before (instruction_done b cpu address outcome)
done-leaves before b cpu address Done none = absurd (false≢true none)
done-leaves before b cpu address Syscall none = absurd (false≢true none)
done-leaves before b cpu address (Exception code epc bd) none = absurd (false≢true none)

executes-leaves : (b : BoardState) (cpu : ℕ) (done : Option Executed) → LeavesIt b (executes_in b cpu done)
executes-leaves b cpu None none = refl
executes-leaves b cpu (Some e) none = done-leaves b (with_executed b e) cpu e.ended.address e.ended.outcome none

accepts-leaves : (b : BoardState) (cpu : ℕ) (line : Option ℕ) → LeavesIt b (accepts_or_executes b cpu line)
accepts-leaves b cpu None none = executes-leaves b cpu (executed b.kernel cpu b.memory b.links) none
accepts-leaves b cpu (Some line) none = absurd (false≢true none)

step-leaves : (b : BoardState) (cpu : ℕ) (found : Option Processor) → LeavesIt b (stepped_in b cpu found)
step-leaves b cpu None none = refl
step-leaves b cpu (Some p) none = either b p.stopped _ _ (λ none. refl) (accepts-leaves b cpu (deliverable b.kernel cpu)) none

on-leaves : (b : BoardState) (event : Event) → LeavesIt b (happens_on b event)
on-leaves b (Step cpu) none = step-leaves b cpu (processor_at b.kernel cpu) none
on-leaves b Tick none = either b (nat_lt b.kernel.time.count last_count) _ _ (λ none. absurd (false≢true none)) (λ none. refl) none
on-leaves b (Raise line) none = either b (can_be_raised b.kernel line) _ _ (λ none. absurd (false≢true none)) (λ none. refl) none

pub happens-leaves : (b : BoardState) (event : Event) → did_nothing (happens b event).report ≡ true → (happens b event).board ≡ b
unfolding happens
happens-leaves b event none = either b b.kernel.off _ _ (λ none. refl) (on-leaves b event) none

-- A line that is raised again.

abbrev pending : InterruptLine → InterruptLine
pending line = record line { pending = true }

pending-again : (lines : List InterruptLine) (n : ℕ) (line : InterruptLine) →
    slice_set (slice_set lines n (pending line)) n (pending (slice_index_or (slice_set lines n (pending line)) n (quiet None)))
    ≡ slice_set lines n (pending line)
pending-again [] n line = refl
pending-again (one ∷ lines) zero line = refl
pending-again (one ∷ lines) (suc n) line = ap (λ ls. one ∷ ls) (pending-again lines n line)

with_pending-again : (k : KernelState) (line : ℕ) → with_pending (with_pending k line) line ≡ with_pending k line
with_pending-again k line = ap (λ lines. record k { lines = lines }) (pending-again k.lines line (line_at k line))

abbrev raised : BoardState → ℕ → BoardState
raised b line = record b { kernel = with_pending b.kernel line }

raised-by : (b : BoardState) (line : ℕ) (handled : Bool) → can_be_raised b.kernel line ≡ handled →
    line_raised b line ≡ (if handled then reported (raised b line) report.Raised else reported b report.NoSuch)
raised-by b line handled is = ap (λ test. if test then reported (raised b line) report.Raised else reported b report.NoSuch) is

raised-again : (b : BoardState) (line : ℕ) (handled : Bool) →
    (if handled then reported (raised (raised b line) line) report.Raised else reported (raised b line) report.NoSuch).board ≡ raised b line
raised-again b line true = ap (λ k. record b { kernel = k }) (with_pending-again b.kernel line)
raised-again b line false = refl

line-again : (b : BoardState) (line : ℕ) (handled : Bool) → can_be_raised b.kernel line ≡ handled →
    (line_raised (line_raised b line).board line).board ≡ (line_raised b line).board
line-again b line false none = ap (λ (done : Happened). (line_raised done.board line).board) (raised-by b line false none)
line-again b line true some =
    ap (λ (done : Happened). (line_raised done.board line).board) (raised-by b line true some)
    ∙ raised-again b line (can_be_raised (raised b line).kernel line)
    ∙ sym (ap (λ (done : Happened). done.board) (raised-by b line true some))

on-raises : (b : BoardState) (line : ℕ) → b.kernel.off ≡ false → happens b (Raise line) ≡ line_raised b line
unfolding happens
on-raises b line on = ap (λ test. if test then reported b report.Off else line_raised b line) on

raised-on : (b : BoardState) (line : ℕ) (handled : Bool) →
    (if handled then reported (raised b line) report.Raised else reported b report.NoSuch).board.kernel.off ≡ b.kernel.off
raised-on b line true = refl
raised-on b line false = refl

raise-rests : (b : BoardState) (line : ℕ) (off : Bool) → b.kernel.off ≡ off → Rests (happens b (Raise line)).board (Raise line)
raise-rests b line true off =
    ap (λ (x : BoardState). (happens x (Raise line)).board) (ap (λ (done : Happened). done.board) (off-stays b (Raise line) off))
raise-rests b line false on =
    let then_on : (line_raised b line).board.kernel.off ≡ false = raised-on b line (can_be_raised b.kernel line) ∙ on in
    subst (λ (done : Happened). Rests done.board (Raise line)) (sym (on-raises b line on))
    (ap (λ (done : Happened). done.board) (on-raises (line_raised b line).board line then_on)
    ∙ line-again b line (can_be_raised b.kernel line) refl)

pub rests : (b : BoardState) (event : Event) → does_no_more event (happens b event).report ≡ true → Rests (happens b event).board event
rests b (Step cpu) none = ap (λ (x : BoardState). (happens x (Step cpu)).board) (happens-leaves b (Step cpu) none)
rests b Tick none = ap (λ (x : BoardState). (happens x Tick).board) (happens-leaves b Tick none)
rests b (Raise line) none = raise-rests b line b.kernel.off refl

-- Runs of such an event.

after-copies : (b : BoardState) (event : Event) (count : ℕ) → Rests b event → after b (replicate count event) ≡ b
after-copies b event zero still = refl
after-copies b event (suc count) still = ap (λ (x : BoardState). after x (replicate count event)) still ∙ after-copies b event count still

pub after-still : (b : BoardState) (event : Event) (count : ℕ) → Rests b event → after b (copies event count) ≡ b
unfolding copies
after-still b event count still = after-copies b event count still

-- what a raised line reports
pub raise-told : (P : Report → Type 0) (b : BoardState) (line : ℕ) → P report.Off → P report.Raised → P report.NoSuch → P (happens b (Raise line)).report
unfolding happens
raise-told P b line off raised none = told-by b.kernel.off (can_be_raised b.kernel line)
  where
    told-by : (off handled : Bool) →
        P (if off then reported b report.Off else (if handled then reported (record b { kernel = with_pending b.kernel line }) report.Raised else reported b report.NoSuch)).report
    told-by true handled = off
    told-by false true = raised
    told-by false false = none

pub no-more : (b next : BoardState) (e : Event) (more : ℕ) → next ≡ b → more ≡ 0 → next ≡ after b (copies e more)
no-more b next e more is none = is ∙ ap (after b) (sym (copies-zero e)) ∙ ap (λ n. after b (copies e n)) (sym none)

pub repeated : (b next : BoardState) (e : Event) (more : ℕ) → next ≡ after b (replicate more e) → next ≡ after b (copies e more)
unfolding copies
repeated b next e more is = is
