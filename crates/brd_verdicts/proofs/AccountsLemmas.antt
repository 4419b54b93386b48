-- What is counted of a run, while a board plays on.
use Rattle.std.proofs.Common.{◌≡◌, inl, inr, ℕ, zero, suc, ◌+◌, ◌-◌, ◌<◌, ◌≤◌, ◌^◌, List, [], ◌∷◌, ◌++◌, length, length-take, take, drop, map, replicate, refl, sym, ap, subst, ◌∙◌, arith}
use Rattle.std.specs.Prelude.{Bool, true, false, ◌==◌, ◌&&◌, nat_lt, min, if◌then◌else◌, is_some, slice_index_or, slice_set, unwrap_or, Option, None, Some, Result, Ok, Err, OnOk}
use Rattle.std.specs.List.{cons_option}
use Rattle.std.proofs.lemmas.Bool.{and_parts, cond-true, cond-false, eq-eqb, ne_eqb, false≢true}
use Rattle.std.proofs.Math.Seq.{take-add}
use Rattle.brd_exec.specs.State.{State}
use Rattle.brd_isa.specs.declared.instruction.Insn.{Insn}
use Rattle.brd_kernel.specs.declared.processor.InterruptLine.{InterruptLine}
use Rattle.brd_kernel.specs.Kernel.{line_at, can_be_raised, quiet, with_pending}
use Rattle.brd_board.specs.Batch.{AllRun}
use Rattle.brd_board.specs.declared.event.Event.{Event}
use Rattle.brd_board.specs.declared.event.Event.TheVariants.{Step, Tick, Raise}
use Rattle.brd_board.specs.declared.event.Report.{Report}
use Rattle.brd_board.specs.declared.event.Report.TheVariants as report
use Rattle.brd_board.specs.Board.{BoardState, Happened, happens, after, line_raised, reported}
use Rattle.brd_journal.specs.declared.run.Run.{Run}
use Rattle.brd_journal.specs.Playing.{board_at, AllGoOn}
use Rattle.brd_journal.specs.Runs.{copies, ComesBehind}
use Rattle.brd_journal.specs.Still.{did_nothing, does_no_more, Rests}
use Rattle.brd_journal.proofs.EventLemmas.{copies-suc, copies-zero}
use Rattle.brd_journal.proofs.StillLemmas.{happens-leaves, raise-told, rests}
use Rattle.brd_happening.specs.declared.before.Before.{Before}
use Rattle.brd_happening.specs.declared.found.Found.{Found}
use Rattle.brd_happening.specs.declared.release.Release.{Release}
use Rattle.brd_happening.specs.declared.rung.Rung.{Rung}
use Rattle.brd_happening.specs.declared.happening.{What.What, Why.Why, Happening.Happening}
use Rattle.brd_happening.specs.declared.happening.What.TheVariants as what
use Rattle.brd_happening.specs.declared.happening.Why.TheVariants as why
use Rattle.brd_happening.specs.Before.{before_of}
use Rattle.brd_happening.specs.Happening.{executed_in, happening_from, happening_of, instruction_by, instruction_from, no_such, what_of}
use Rattle.brd_verdicts.specs.declared.accounts.Accounts.{Accounts}
use Rattle.brd_verdicts.specs.declared.answers.Answered.{Answered}
use Rattle.brd_verdicts.specs.declared.losses.LostRaises.{LostRaises}
use Rattle.brd_verdicts.specs.Answers.{answers_in, begun_after, late_answer, own_answer}
use Rattle.brd_verdicts.specs.Refusals.{grown}
use Rattle.brd_verdicts.specs.Losses.{all_rung, lost_by, lost_if, lost_in, lost_with, more_lost}
use Rattle.brd_verdicts.specs.Accounts.{accounts_from, accounts_of, accounts_of_run, all_answered, nothing}
use Rattle.brd_verdicts.specs.Again.{again, lost_after, lost_again}

-- ---- an event in which no call is made, and no wait ends

record Silent (it : Happening) : Type 0 where
  own : own_answer it it.what ≡ None
  begun : (begun : List ℕ) → begun_after it it.what begun ≡ begun
  released : it.released ≡ []
  rung : it.rung ≡ []

none-answered : (begun : List ℕ) (it : Happening) → Silent it → answers_in begun it ≡ []
none-answered begun it silent =
    ap (λ (own : Option Answered). cons_option own (map (late_answer begun) it.released)) silent.own
    ∙ ap (λ (rs : List Release). map (late_answer begun) rs) silent.released

-- raises alone are counted of it
only-lost : (position : ℕ) (it : Happening) (accounts : Accounts) → Silent it →
    accounts_of position it accounts ≡ record accounts { lost = lost_if (lost_in position it.what) accounts.lost }
only-lost position it accounts silent =
    ap (λ (answers : List Answered).
    let after : Accounts = all_answered position answers accounts in
    record after { begun = begun_after it it.what after.begun; lost = lost_by position it after.lost })
    (none-answered accounts.begun it silent)
    ∙ ap (λ (begun : List ℕ). record accounts { begun = begun; lost = lost_by position it accounts.lost })
    (silent.begun accounts.begun)
    ∙ ap (λ (rung : List Rung).
    record accounts { lost = all_rung position rung (lost_if (lost_in position it.what) accounts.lost) }) silent.rung

-- nothing is
none-counted : (position : ℕ) (it : Happening) (accounts : Accounts) → Silent it → lost_in position it.what ≡ None →
    accounts_of position it accounts ≡ accounts
none-counted position it accounts silent none =
    only-lost position it accounts silent
    ∙ ap (λ (lost : Option LostRaises). record accounts { lost = lost_if lost accounts.lost }) none

-- ---- an event that does nothing, and no raise

no_such-own : (it : Happening) (event : Event) → own_answer it (no_such event) ≡ None
no_such-own it (Step cpu) = refl
no_such-own it Tick = refl
no_such-own it (Raise line) = refl

no_such-begun : (it : Happening) (event : Event) (begun : List ℕ) → begun_after it (no_such event) begun ≡ begun
no_such-begun it (Step cpu) begun = refl
no_such-begun it Tick begun = refl
no_such-begun it (Raise line) begun = refl

quiet-silent : (before : Before) (told : Report) (b : BoardState) → did_nothing told ≡ true →
    Silent (happening_from before told b)
quiet-silent before report.Off b is = record { own = refl; begun = λ begun. refl; released = refl; rung = refl }
quiet-silent before report.NoSuch b is = record {
  own = no_such-own (happening_from before report.NoSuch b) before.event;
  begun = no_such-begun (happening_from before report.NoSuch b) before.event;
  released = refl;
  rung = refl;
}
quiet-silent before report.Stopped b is = record { own = refl; begun = λ begun. refl; released = refl; rung = refl }
quiet-silent before (report.Accepted line) b is = absurd (false≢true is)
quiet-silent before (report.Ran address) b is = absurd (false≢true is)
quiet-silent before (report.Called address) b is = absurd (false≢true is)
quiet-silent before (report.Faulted address) b is = absurd (false≢true is)
quiet-silent before report.Idle b is = record { own = refl; begun = λ begun. refl; released = refl; rung = refl }
quiet-silent before report.Ticked b is = absurd (false≢true is)
quiet-silent before report.TimeOver b is = record { own = refl; begun = λ begun. refl; released = refl; rung = refl }
quiet-silent before report.Raised b is = absurd (false≢true is)

-- no raise is lost in it
record LosesNone (it : What) : Type 0 where
  now : (position : ℕ) → lost_in position it ≡ None
  later : (position count : ℕ) → lost_after position count it ≡ None

quiet-step : (cpu : ℕ) (before : Before) (told : Report) (b : BoardState) → before.event ≡ Step cpu →
    did_nothing told ≡ true → LosesNone (what_of before told b)
quiet-step cpu before report.Off b event is = record { now = λ p. refl; later = λ p n. refl }
quiet-step cpu before report.NoSuch b event is =
    subst (λ (e : Event). LosesNone (no_such e)) (sym event) (record { now = λ p. refl; later = λ p n. refl })
quiet-step cpu before report.Stopped b event is = record { now = λ p. refl; later = λ p n. refl }
quiet-step cpu before (report.Accepted line) b event is = absurd (false≢true is)
quiet-step cpu before (report.Ran address) b event is = absurd (false≢true is)
quiet-step cpu before (report.Called address) b event is = absurd (false≢true is)
quiet-step cpu before (report.Faulted address) b event is = absurd (false≢true is)
quiet-step cpu before report.Idle b event is = record { now = λ p. refl; later = λ p n. refl }
quiet-step cpu before report.Ticked b event is = absurd (false≢true is)
quiet-step cpu before report.TimeOver b event is = record { now = λ p. refl; later = λ p n. refl }
quiet-step cpu before report.Raised b event is = absurd (false≢true is)

quiet-tick : (before : Before) (told : Report) (b : BoardState) → before.event ≡ Tick →
    did_nothing told ≡ true → LosesNone (what_of before told b)
quiet-tick before report.Off b event is = record { now = λ p. refl; later = λ p n. refl }
quiet-tick before report.NoSuch b event is =
    subst (λ (e : Event). LosesNone (no_such e)) (sym event) (record { now = λ p. refl; later = λ p n. refl })
quiet-tick before report.Stopped b event is = record { now = λ p. refl; later = λ p n. refl }
quiet-tick before (report.Accepted line) b event is = absurd (false≢true is)
quiet-tick before (report.Ran address) b event is = absurd (false≢true is)
quiet-tick before (report.Called address) b event is = absurd (false≢true is)
quiet-tick before (report.Faulted address) b event is = absurd (false≢true is)
quiet-tick before report.Idle b event is = record { now = λ p. refl; later = λ p n. refl }
quiet-tick before report.Ticked b event is = absurd (false≢true is)
quiet-tick before report.TimeOver b event is = record { now = λ p. refl; later = λ p n. refl }
quiet-tick before report.Raised b event is = absurd (false≢true is)

-- ---- an ordinary instruction

done-own : (it : Happening) (insn : Option Insn) (s : Option State) (found : Found) (b : BoardState) →
    own_answer it (instruction_from insn s found b) ≡ None
done-own it (Some insn) (Some s) found b = refl
done-own it (Some insn) None found b = refl
done-own it None s found b = refl

done-begun : (it : Happening) (insn : Option Insn) (s : Option State) (found : Found) (b : BoardState) (begun : List ℕ) →
    begun_after it (instruction_from insn s found b) begun ≡ begun
done-begun it (Some insn) (Some s) found b begun = refl
done-begun it (Some insn) None found b begun = refl
done-begun it None s found b begun = refl

done-lost : (position : ℕ) (insn : Option Insn) (s : Option State) (found : Found) (b : BoardState) →
    lost_in position (instruction_from insn s found b) ≡ None
done-lost position (Some insn) (Some s) found b = refl
done-lost position (Some insn) None found b = refl
done-lost position None s found b = refl

ran-none : (position address : ℕ) (before : Before) (found : Option Found) (b : BoardState) (accounts : Accounts) →
    before.found ≡ found → accounts_of position (happening_from before (report.Ran address) b) accounts ≡ accounts
ran-none position address before None b accounts is =
    let it : Happening = happening_from before (report.Ran address) b in
    let none : it.what ≡ what.Untold = ap (λ (f : Option Found). executed_in f (report.Ran address) b) is in
    none-counted position it accounts (record {
      own = ap (own_answer it) none;
      begun = λ begun. ap (λ (w : What). begun_after it w begun) none;
      released = refl;
      rung = refl;
    }) (ap (lost_in position) none)
ran-none position address before (Some found) b accounts is =
    let it : Happening = happening_from before (report.Ran address) b in
    let done : it.what ≡ instruction_by found b =
    ap (λ (f : Option Found). executed_in f (report.Ran address) b) is in
    none-counted position it accounts (record {
      own = ap (own_answer it) done ∙ done-own it found.insn _ found b;
      begun = λ begun. ap (λ (w : What). begun_after it w begun) done ∙ done-begun it found.insn _ found b begun;
      released = refl;
      rung = refl;
    }) (ap (lost_in position) done ∙ done-lost position found.insn _ found b)

ran-step : (position cpu address : ℕ) (b : BoardState) (told : Report) (accounts : Accounts) →
    (happens b (Step cpu)).report ≡ told → told ≡ report.Ran address →
    accounts_of position (happening_of b (Step cpu)) accounts ≡ accounts
ran-step position cpu address b told accounts is ran =
    let before : Before = before_of b (Step cpu) in
    ap (λ (r : Report). accounts_of position (happening_from before r (happens b (Step cpu)).board) accounts) (is ∙ ran)
    ∙ ran-none position address before before.found (happens b (Step cpu)).board accounts refl

steps-none : (n position cpu : ℕ) (b : BoardState) (accounts : Accounts) → AllRun b cpu n →
    accounts_from position b (replicate n (Step cpu)) accounts ≡ accounts
steps-none zero position cpu b accounts all = refl
steps-none (suc n) position cpu b accounts all =
    let next : BoardState = (happens b (Step cpu)).board in
    ap (accounts_from (position + 1) next (replicate n (Step cpu)))
    (ran-step position cpu (all 0 (omega arith)).0 b _ accounts refl (all 0 (omega arith)).1)
    ∙ steps-none n (position + 1) cpu next accounts (λ k few. all (suc k) (omega (arith, few)))

ran-counted : (n position : ℕ) (b : BoardState) (event : Event) (accounts : Accounts) → AllGoOn b event n →
    accounts_from position b (copies event n) accounts ≡ accounts
unfolding copies
ran-counted n position b (Step cpu) accounts all = steps-none n position cpu b accounts all
ran-counted n position b Tick accounts none =
    ap (λ (k : ℕ). accounts_from position b (replicate k Tick) accounts) none
ran-counted n position b (Raise line) accounts none =
    ap (λ (k : ℕ). accounts_from position b (replicate k (Raise line)) accounts) none

-- ---- a line that is raised again

-- what a raise is, by whether the board is off, and the line has a handler and is pending
abbrev raise_seen : Bool → Bool → Bool → ℕ → What
raise_seen off handled waits line =
    if off then what.Nothing why.Off
    else if handled then (if waits then what.Lost line else what.Raised line) else what.Nothing (why.NoHandler line)

abbrev pending : InterruptLine → InterruptLine
pending line = record line { pending = true }

abbrev raised : BoardState → ℕ → BoardState
raised b line = record b { kernel = with_pending b.kernel line }

abbrev raise_done : Bool → Bool → BoardState → ℕ → Happened
raise_done off handled b line =
    if off then reported b report.Off
    else if handled then reported (raised b line) report.Raised else reported b report.NoSuch

seen-by : (off handled : Bool) (b : BoardState) (line : ℕ) →
    what_of (before_of b (Raise line)) (raise_done off handled b line).report (raise_done off handled b line).board
    ≡ raise_seen off handled (line_at b.kernel line).pending line
seen-by true handled b line = refl
seen-by false true b line = refl
seen-by false false b line = refl

seen-raise : (b : BoardState) (line : ℕ) →
    (happening_of b (Raise line)).what
    ≡ raise_seen b.kernel.off (can_be_raised b.kernel line) (line_at b.kernel line).pending line
unfolding happens
seen-raise b line = seen-by b.kernel.off (can_be_raised b.kernel line) b line

set-there : (lines : List InterruptLine) (n : ℕ) (line : InterruptLine) →
    is_some (slice_index_or lines n (quiet None)).handler ≡ true →
    slice_index_or (slice_set lines n line) n (quiet None) ≡ line
set-there [] n line handled = absurd (false≢true handled)
set-there (one ∷ lines) zero line handled = refl
set-there (one ∷ lines) (suc n) line handled = set-there lines n line handled

-- the board after a raise: on or off as before, and the line has a handler as before, and is pending if one was raised
record Raised (b next : BoardState) (line : ℕ) : Type 0 where
  off : next.kernel.off ≡ b.kernel.off
  handled : can_be_raised next.kernel line ≡ can_be_raised b.kernel line
  waits :
      b.kernel.off ≡ false → can_be_raised b.kernel line ≡ true →
      (line_at next.kernel line).pending ≡ true

raised-by : (off handled : Bool) (b : BoardState) (line : ℕ) → b.kernel.off ≡ off →
    can_be_raised b.kernel line ≡ handled → Raised b (raise_done off handled b line).board line
raised-by true handled b line off some =
    record { off = refl; handled = refl; waits = λ on _. absurd (false≢true (sym on ∙ off)) }
raised-by false false b line on none =
    record { off = refl; handled = refl; waits = λ _ some. absurd (false≢true (sym none ∙ some)) }
raised-by false true b line on some =
    let there : line_at (with_pending b.kernel line) line ≡ pending (line_at b.kernel line) =
    set-there b.kernel.lines line (pending (line_at b.kernel line)) (and_parts (nat_lt line 32) (is_some (line_at b.kernel line).handler) some).1 in
    record {
      off = refl;
      handled = ap (λ (it : InterruptLine). nat_lt line 32 && is_some it.handler) there;
      waits = λ _ _. ap (λ (it : InterruptLine). it.pending) there;
    }

is-raised : (b : BoardState) (line : ℕ) → Raised b (happens b (Raise line)).board line
unfolding happens
is-raised b line = raised-by b.kernel.off (can_be_raised b.kernel line) b line refl refl

-- what it is then
abbrev again_what : What → What
again_what (what.Raised line) = what.Lost line
again_what w = w

seen-again : (off handled waits later : Bool) (line : ℕ) → (off ≡ false → handled ≡ true → later ≡ true) →
    raise_seen off handled later line ≡ again_what (raise_seen off handled waits line)
seen-again true handled waits later line is = refl
seen-again false false waits later line is = refl
seen-again false true true later line is =
    ap (λ (w : Bool). if w then what.Lost line else what.Raised line) (is refl refl)
seen-again false true false later line is =
    ap (λ (w : Bool). if w then what.Lost line else what.Raised line) (is refl refl)

raised-again : (b : BoardState) (line : ℕ) →
    (happening_of (happens b (Raise line)).board (Raise line)).what ≡ again_what (happening_of b (Raise line)).what
raised-again b line =
    let next : BoardState = (happens b (Raise line)).board in
    let it = is-raised b line in
    let off = b.kernel.off in
    let handled = can_be_raised b.kernel line in
    let waits = (line_at b.kernel line).pending in
    seen-raise next line
    ∙ ap (λ (o : Bool). raise_seen o (can_be_raised next.kernel line) (line_at next.kernel line).pending line) it.off
    ∙ ap (λ (h : Bool). raise_seen off h (line_at next.kernel line).pending line) it.handled
    ∙ seen-again off handled waits (line_at next.kernel line).pending line it.waits
    ∙ ap again_what (sym (seen-raise b line))

was-own : (it : Happening) (waits : Bool) (line : ℕ) →
    own_answer it (if waits then what.Lost line else what.Raised line) ≡ None
was-own it true line = refl
was-own it false line = refl

was-begun : (it : Happening) (waits : Bool) (line : ℕ) (begun : List ℕ) →
    begun_after it (if waits then what.Lost line else what.Raised line) begun ≡ begun
was-begun it true line begun = refl
was-begun it false line begun = refl

raise-silent : (b : BoardState) (line : ℕ) → Silent (happening_of b (Raise line))
raise-silent b line =
    let before : Before = before_of b (Raise line) in
    let next : BoardState = (happens b (Raise line)).board in
    raise-told (λ told. Silent (happening_from before told next)) b line
    (quiet-silent before report.Off next refl)
    (record {
      own = was-own (happening_from before report.Raised next) before.pending line;
      begun = was-begun (happening_from before report.Raised next) before.pending line;
      released = refl;
      rung = refl;
    })
    (quiet-silent before report.NoSuch next refl)

-- ---- counts

grown-one : (m : ℕ) → suc m ≤ 0xffffffffffffffff → grown 1 m ≡ suc m
grown-one m few = grind (arith, few)

grown-more : (count m : ℕ) → grown (grown count 1) m ≡ grown count (suc m)
grown-more count m = grind arith

abbrev raise-of : ℕ → Bool → ℕ → ℕ → LostRaises
raise-of line waits position count = record { line = line; pending = waits; position = position; count = count }

join-by : (b : Bool) (x : LostRaises) (line m p q : ℕ) (waits : Bool) (xs rest : List LostRaises) → (x.line == line) ≡ b →
    lost_with (raise-of line waits q m) (lost_with (raise-of line waits p 1) xs) ≡ rest →
    lost_with (raise-of line waits q m)
    (if b then more_lost 1 x ∷ xs else x ∷ lost_with (raise-of line waits p 1) xs)
    ≡ (if b then more_lost (suc m) x ∷ xs else x ∷ rest)
join-by true x line m p q waits xs rest is same =
    cond-true (x.line == line) (more_lost m (more_lost 1 x) ∷ xs)
    (more_lost 1 x ∷ lost_with (raise-of line waits q m) xs) is
    ∙ ap (λ (count : ℕ). record x { count = count } ∷ xs) (grown-more x.count m)
join-by false x line m p q waits xs rest is same =
    cond-false (x.line == line) (more_lost m x ∷ lost_with (raise-of line waits p 1) xs)
    (x ∷ lost_with (raise-of line waits q m) (lost_with (raise-of line waits p 1) xs)) is
    ∙ ap (λ (ls : List LostRaises). x ∷ ls) same

-- raises of a line, and more of them
join-lost : (line m p q : ℕ) (waits : Bool) (lost : List LostRaises) → suc m ≤ 0xffffffffffffffff →
    lost_with (raise-of line waits q m) (lost_with (raise-of line waits p 1) lost) ≡ lost_with (raise-of line waits p (suc m)) lost
join-lost line m p q waits [] few =
    cond-true (line == line) (more_lost m (raise-of line waits p 1) ∷ [])
    (raise-of line waits p 1 ∷ raise-of line waits q m ∷ []) (eq-eqb line line refl)
    ∙ ap (λ (count : ℕ). raise-of line waits p count ∷ []) (grown-one m few)
join-lost line m p q waits (x ∷ xs) few =
    join-by (x.line == line) x line m p q waits xs (lost_with (raise-of line waits p (suc m)) xs) refl
    (join-lost line m p q waits xs few)

-- what is counted of a raise that comes again, and of more of them

first-after : (w : What) (position : ℕ) (lost : List LostRaises) →
    lost_if (lost_in position (again_what w)) lost ≡ lost_if (lost_after position 1 w) lost
first-after (what.Instruction done) position lost = refl
first-after (what.Call made) position lost = refl
first-after (what.Exception exception) position lost = refl
first-after (what.Raised line) position lost = refl
first-after (what.Lost line) position lost = refl
first-after (what.Accepted line) position lost = refl
first-after (what.Tick number) position lost = refl
first-after (what.Nothing why.Off) position lost = refl
first-after (what.Nothing why.NoProcessor) position lost = refl
first-after (what.Nothing (why.NoHandler line)) position lost = refl
first-after (what.Nothing why.Stopped) position lost = refl
first-after (what.Nothing why.Idle) position lost = refl
first-after (what.Nothing why.TimeOver) position lost = refl
first-after what.Untold position lost = refl

more-after : (w : What) (position m : ℕ) (lost : List LostRaises) → suc m ≤ 0xffffffffffffffff →
    lost_if (lost_after (position + 1) m w) (lost_if (lost_in position (again_what w)) lost)
    ≡ lost_if (lost_after position (suc m) w) lost
more-after (what.Instruction done) position m lost few = refl
more-after (what.Call made) position m lost few = refl
more-after (what.Exception exception) position m lost few = refl
more-after (what.Raised line) position m lost few = join-lost line m position (position + 1) true lost few
more-after (what.Lost line) position m lost few = join-lost line m position (position + 1) true lost few
more-after (what.Accepted line) position m lost few = refl
more-after (what.Tick number) position m lost few = refl
more-after (what.Nothing why.Off) position m lost few = refl
more-after (what.Nothing why.NoProcessor) position m lost few = refl
more-after (what.Nothing (why.NoHandler line)) position m lost few =
    join-lost line m position (position + 1) false lost few
more-after (what.Nothing why.Stopped) position m lost few = refl
more-after (what.Nothing why.Idle) position m lost few = refl
more-after (what.Nothing why.TimeOver) position m lost few = refl
more-after what.Untold position m lost few = refl

again-some : (position k : ℕ) (w : What) → lost_again position (suc k) w ≡ lost_after position (suc k) w
again-some position k w =
    cond-false (suc k == 0) None (lost_after position (suc k) w) (ne_eqb (suc k) 0 (λ is. omega (arith, is)))

joined-all : (w : What) (position m : ℕ) (lost : List LostRaises) → suc m ≤ 0xffffffffffffffff →
    lost_if (lost_again (position + 1) m w) (lost_if (lost_in position (again_what w)) lost)
    ≡ lost_if (lost_again position (suc m) w) lost
joined-all w position zero lost few =
    first-after w position lost ∙ ap (λ (it : Option LostRaises). lost_if it lost) (sym (again-some position 0 w))
joined-all w position (suc k) lost few =
    ap (λ (it : Option LostRaises). lost_if it (lost_if (lost_in position (again_what w)) lost))
    (again-some (position + 1) k w)
    ∙ more-after w position (suc k) lost few
    ∙ ap (λ (it : Option LostRaises). lost_if it lost) (sym (again-some position (suc k) w))

-- raises of one line, of which none has an effect
raises-lost : (m position : ℕ) (b : BoardState) (line : ℕ) (w : What) (accounts : Accounts) → m ≤ 0xffffffffffffffff →
    Rests b (Raise line) → (happening_of b (Raise line)).what ≡ again_what w →
    accounts_from position b (copies (Raise line) m) accounts ≡ again position m w accounts
raises-lost zero position b line w accounts few still is =
    ap (λ (es : List Event). accounts_from position b es accounts) (copies-zero (Raise line))
raises-lost (suc m) position b line w accounts few still is =
    let told : Happening = happening_of b (Raise line) in
    let now : Accounts = record accounts { lost = lost_if (lost_in position (again_what w)) accounts.lost } in
    let counts : accounts_of position told accounts ≡ now =
    only-lost position told accounts (raise-silent b line)
    ∙ ap (λ (v : What). record accounts { lost = lost_if (lost_in position v) accounts.lost }) is in
    ap (λ (es : List Event). accounts_from position b es accounts) (copies-suc (Raise line) m)
    ∙ ap (λ (x : BoardState). accounts_from (position + 1) x (copies (Raise line) m) (accounts_of position told accounts)) still
    ∙ ap (accounts_from (position + 1) b (copies (Raise line) m)) counts
    ∙ raises-lost m (position + 1) b line w now (omega (arith, few)) still is
    ∙ ap (λ (lost : List LostRaises). record accounts { lost = lost }) (joined-all w position m accounts.lost few)

-- ---- the same event again, which does nothing more

either-none : (b : Bool) (it : Option LostRaises) → it ≡ None → (if b then None else it) ≡ None
either-none true it none = refl
either-none false it none = none

again-none : (position k : ℕ) (w : What) (accounts : Accounts) → LosesNone w → again position k w accounts ≡ accounts
again-none position k w accounts none =
    ap (λ (it : Option LostRaises). record accounts { lost = lost_if it accounts.lost })
    (either-none (k == 0) (lost_after position k w) (none.later position k))

quiets-none : (k position : ℕ) (b : BoardState) (event : Event) (accounts : Accounts) →
    did_nothing (happens b event).report ≡ true → LosesNone (happening_of b event).what →
    accounts_from position b (copies event k) accounts ≡ accounts
quiets-none zero position b event accounts quiet none =
    ap (λ (es : List Event). accounts_from position b es accounts) (copies-zero event)
quiets-none (suc k) position b event accounts quiet none =
    let h = happens b event in
    ap (λ (es : List Event). accounts_from position b es accounts) (copies-suc event k)
    ∙ ap (λ (x : BoardState). accounts_from (position + 1) x (copies event k) (accounts_of position (happening_of b event) accounts))
    (happens-leaves b event quiet)
    ∙ ap (accounts_from (position + 1) b (copies event k))
    (none-counted position (happening_of b event) accounts (quiet-silent (before_of b event) h.report h.board quiet)
    (none.now position))
    ∙ quiets-none k (position + 1) b event accounts quiet none

quiet-again : (k position : ℕ) (b : BoardState) (event : Event) (accounts : Accounts) →
    did_nothing (happens b event).report ≡ true → LosesNone (happening_of b event).what →
    accounts_from position (happens b event).board (copies event k) accounts
    ≡ again position k (happening_of b event).what accounts
quiet-again k position b event accounts quiet none =
    ap (λ (x : BoardState). accounts_from position x (copies event k) accounts) (happens-leaves b event quiet)
    ∙ quiets-none k position b event accounts quiet none
    ∙ sym (again-none position k (happening_of b event).what accounts none)

still-again : (k position : ℕ) (b : BoardState) (event : Event) (accounts : Accounts) → k ≤ 0xffffffffffffffff →
    (1 ≤ k → does_no_more event (happens b event).report ≡ true) →
    accounts_from position (happens b event).board (copies event k) accounts
    ≡ again position k (happening_of b event).what accounts
still-again zero position b event accounts few over =
    ap (λ (es : List Event). accounts_from position (happens b event).board es accounts) (copies-zero event)
still-again (suc k) position b (Raise line) accounts few over =
    raises-lost (suc k) position (happens b (Raise line)).board line (happening_of b (Raise line)).what accounts few
    (rests b (Raise line) refl) (raised-again b line)
still-again (suc k) position b (Step cpu) accounts few over =
    let h = happens b (Step cpu) in
    let quiet : did_nothing h.report ≡ true = over (omega arith) in
    quiet-again (suc k) position b (Step cpu) accounts quiet
    (quiet-step cpu (before_of b (Step cpu)) h.report h.board refl quiet)
still-again (suc k) position b Tick accounts few over =
    let h = happens b Tick in
    let quiet : did_nothing h.report ≡ true = over (omega arith) in
    quiet-again (suc k) position b Tick accounts quiet (quiet-tick (before_of b Tick) h.report h.board refl quiet)

-- a stretch of events of which those after the first do nothing more
stretch : (n position : ℕ) (b : BoardState) (event : Event) (accounts : Accounts) → 1 ≤ n → n ≤ 0xffffffffffffffff →
    (1 < n → does_no_more event (happens b event).report ≡ true) →
    accounts_from position b (copies event n) accounts
    ≡ again (position + 1) (n - 1) (happening_of b event).what (accounts_of position (happening_of b event) accounts)
stretch zero position b event accounts some few over = absurd (omega (arith, some))
stretch (suc k) position b event accounts some few over =
    let less : k ≡ suc k - 1 = omega arith in
    let first : Accounts = accounts_of position (happening_of b event) accounts in
    ap (λ (es : List Event). accounts_from position b es accounts) (copies-suc event k)
    ∙ still-again k (position + 1) b event first (omega (arith, few)) (λ more. over (omega (arith, more)))
    ∙ ap (λ (m : ℕ). again (position + 1) m (happening_of b event).what first) less

-- ---- lists of events

counted-append : (xs ys : List Event) (position : ℕ) (b : BoardState) (accounts : Accounts) →
    accounts_from position b (xs ++ ys) accounts
    ≡ accounts_from (position + length xs) (after b xs) ys (accounts_from position b xs accounts)
counted-append [] ys position b accounts =
    let same : position ≡ position + 0 = omega arith in ap (λ (n : ℕ). accounts_from n b ys accounts) same
counted-append (x ∷ xs) ys position b accounts =
    let same : position + 1 + length xs ≡ position + suc (length xs) = omega arith in
    let next : BoardState = (happens b x).board in
    let first : Accounts = accounts_of position (happening_of b x) accounts in
    counted-append xs ys (position + 1) next first
    ∙ ap (λ (n : ℕ). accounts_from n (after next xs) ys (accounts_from (position + 1) next xs first)) same

take-copies : (e : Event) (n count : ℕ) (more : List Event) → n ≤ count → take n (copies e count ++ more) ≡ copies e n
unfolding copies
take-copies e zero count more few = refl
take-copies e (suc n) zero more few = absurd (omega (arith, few))
take-copies e (suc n) (suc count) more few = ap (λ es. e ∷ es) (take-copies e n count more (omega (arith, few)))

take-run : (events : List Event) (at n : ℕ) (rest : Run) → ComesBehind events at rest → n ≤ rest.count →
    take (at + n) events ≡ take at events ++ copies rest.event n
take-run events at n rest comes few =
    take-add at n events
    ∙ ap (λ es. take at events ++ es)
    (ap (take n) comes.1 ∙ take-copies rest.event n rest.count (drop (at + rest.count) events) few)

module _ (boot b : BoardState) (events : List Event) (at n : ℕ) (rest : Run) (is : b ≡ board_at boot events at)
    (within : at ≤ length events) (comes : ComesBehind events at rest) (few : n ≤ rest.count) where
  up-to : accounts_of_run boot (take (at + n) events)
      ≡ accounts_from at b (copies rest.event n) (accounts_of_run boot (take at events))
  up-to =
      let len : 0 + length (take at events) ≡ at = omega (arith, length-take at events, within) in
      ap (accounts_of_run boot) (take-run events at n rest comes few)
      ∙ counted-append (take at events) (copies rest.event n) 0 boot nothing
      ∙ ap (λ (k : ℕ). accounts_from k (after boot (take at events)) (copies rest.event n)
      (accounts_of_run boot (take at events))) len
      ∙ ap (λ (x : BoardState). accounts_from at x (copies rest.event n) (accounts_of_run boot (take at events))) (sym is)

  -- after steps that executed instructions
  pub ran-on : AllGoOn b rest.event n → accounts_of_run boot (take (at + n) events) ≡ accounts_of_run boot (take at events)
  ran-on all = up-to ∙ ran-counted n at b rest.event (accounts_of_run boot (take at events)) all

  -- after an event, and those after it that do nothing more
  pub counted-on : 1 ≤ n → n ≤ 0xffffffffffffffff → (1 < n → does_no_more rest.event (happens b rest.event).report ≡ true) →
      (told : Happening) (old new after : Accounts) → told ≡ happening_of b rest.event →
      old ≡ accounts_of_run boot (take at events) → new ≡ accounts_of at told old →
      after ≡ again (at + 1) (n - 1) told.what new → after ≡ accounts_of_run boot (take (at + n) events)
  counted-on some most over told old new after is_told is_old is_new is_after =
      is_after
      ∙ ap (again (at + 1) (n - 1) told.what) (is_new ∙ ap (accounts_of at told) is_old)
      ∙ ap (λ (it : Happening). again (at + 1) (n - 1) it.what (accounts_of at it (accounts_of_run boot (take at events))))
      is_told
      ∙ sym (up-to ∙ stretch n at b rest.event (accounts_of_run boot (take at events)) some most over)

-- what was read of a board before an event, and what is told by it
pub happened : (b : BoardState) (event : Event) (before : Before) (told : Report) (next : BoardState) (it : Happening) →
    before ≡ before_of b event → told ≡ (happens b event).report → next ≡ (happens b event).board →
    it ≡ happening_from before told next → it ≡ happening_of b event
happened b event before told next it read reports leaves is =
    is
    ∙ ap (λ (x : Before). happening_from x told next) read
    ∙ ap (λ (x : Report). happening_from (before_of b event) x next) reports
    ∙ ap (λ (x : BoardState). happening_from (before_of b event) (happens b event).report x) leaves
