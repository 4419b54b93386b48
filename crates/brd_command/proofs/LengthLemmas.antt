-- How long a journal's text is that is read again: a line has at most 17 bytes with its newline, and the first one 23.
use Rattle.std.proofs.Common.{◌≡◌, ℕ, zero, suc, ◌+◌, ◌*◌, ◌≤◌, List, [], ◌∷◌, ◌++◌, length, sym, ap, subst}
use Rattle.std.proofs.Common.{◌∙◌, arith, length-append}
use Rattle.std.specs.Prelude.{Ok, codes}
use Rattle.std.specs.Fmt.{decimal}
use Rattle.std.specs.List.{AllByRecursion}
use Rattle.std.proofs.lemmas.Fmt.{length-decimal-le}
use Rattle.brd_word.specs.declared.order.Order.{Order}
use Rattle.brd_board.specs.declared.event.Event.{Event}
use Rattle.brd_board.specs.declared.event.Event.TheVariants.{Step, Tick, Raise}
use Rattle.brd_journal.specs.declared.run.Run.{Run}
use Rattle.brd_journal.specs.Journal.{JournalState, most_runs}
use Rattle.brd_journal.specs.Reading.{journal_of}
use Rattle.brd_journal.specs.Runs.{AreCut, copies, events_of, runs_of}
use Rattle.brd_journal.specs.Text.{AreNumbered, CanBeSpelled, IsNumbered, event_text, first_line, line_text}
use Rattle.brd_journal.specs.Text.{lines_of_runs, text_of}
use Rattle.brd_journal.proofs.Cutting.{runs_cut, runs_events}
use Rattle.brd_journal.proofs.EventLemmas.{copies-one, copies-suc, copies-zero}
use Rattle.brd_journal.proofs.GrammarLemmas.{text_says}
use Rattle.brd_inputs.specs.Input.{most_bytes}

-- ---- events that lines spell have numbers that lines can have

all_both : (front back : List Event) → AllByRecursion IsNumbered front → AllByRecursion IsNumbered back
    → AllByRecursion IsNumbered (front ++ back)
all_both [] back h k = k
all_both (e ∷ es) back h k = (h.0, all_both es back h.1 k)

numbered_copies : (e : Event) (n : ℕ) → IsNumbered e → AllByRecursion IsNumbered (copies e n)
numbered_copies e zero h = subst (λ (es : List Event). AllByRecursion IsNumbered es) (sym (copies-zero e)) tt
numbered_copies e (suc n) h = subst (λ (es : List Event). AllByRecursion IsNumbered es) (sym (copies-suc e n))
    (h, numbered_copies e n h)

numbered_events : (runs : List Run) → AllByRecursion CanBeSpelled runs → AllByRecursion IsNumbered (events_of runs)
numbered_events [] each = tt
numbered_events (run ∷ runs) each =
    all_both (copies run.event run.count) (events_of runs) (numbered_copies run.event run.count each.0.numbered)
    (numbered_events runs each.1)

-- ---- so have their runs

numbered_first : (e : Event) (n : ℕ) (es : List Event) → 1 ≤ n → AllByRecursion IsNumbered (copies e n ++ es)
    → IsNumbered e × AllByRecursion IsNumbered es
numbered_first e zero es some all = absurd (omega arith)
numbered_first e (suc zero) es some all = let q : AllByRecursion IsNumbered (e ∷ es) = rw copies-one at all in q
numbered_first e (suc (suc n)) es some all =
    let q : AllByRecursion IsNumbered (e ∷ (copies e (suc n) ++ es)) = rw (copies-suc e (suc n)) at all in
    (q.0, (numbered_first e (suc n) es (omega arith) q.1).1)

numbered_runs : (runs : List Run) → AreCut runs → AllByRecursion IsNumbered (events_of runs) → AreNumbered runs
numbered_runs [] cut all = tt
numbered_runs (run ∷ runs) cut all =
    let first = numbered_first run.event run.count (events_of runs) cut.0 all in
    (first.0, numbered_runs runs cut.3 first.1)

-- ---- the length of lines

event_length : (event : Event) → IsNumbered event → length (event_text event) ≤ 5
event_length (Step cpu) small =
    omega (
      arith,
      length-append (codes "S ") (decimal cpu),
      length-decimal-le 3 cpu (omega arith) (omega (arith, small)) (omega (arith, small)),
    )
event_length Tick small = omega arith
event_length (Raise line) small =
    omega (
      arith,
      length-append (codes "R ") (decimal line),
      length-decimal-le 3 line (omega arith) (omega (arith, small)) (omega (arith, small)),
    )

line_length : (run : Run) → IsNumbered run.event → run.count ≤ 0xffffffff → length (line_text run ++ 10 ∷ []) ≤ 17
line_length run small few =
    omega (
      arith,
      length-append (line_text run) (10 ∷ []),
      length-append (event_text run.event) (32 ∷ decimal run.count),
      event_length run.event small,
      length-decimal-le 10 run.count (omega arith) (omega (arith, few)) (omega (arith, few)),
    )

lines_length : (runs : List Run) → AreCut runs → AreNumbered runs → length (lines_of_runs runs) ≤ 17 * length runs
lines_length [] cut numbered = omega arith
lines_length (run ∷ runs) cut numbered =
    omega (
      arith,
      length-append (line_text run ++ 10 ∷ []) (lines_of_runs runs),
      line_length run numbered.0 cut.1,
      lines_length runs cut.3 numbered.1,
    )

first_length : (order : Order) → length (first_line order) ≤ 22
first_length Order.Big = omega arith
first_length Order.Little = omega arith

text_length : (order : Order) (events : List Event) → AllByRecursion IsNumbered events
    → length (text_of order events) ≤ 23 + 17 * length (runs_of events)
text_length order events all =
    let numbered : AllByRecursion IsNumbered (events_of (runs_of events)) =
    subst (λ (es : List Event). AllByRecursion IsNumbered es) (sym (runs_events events)) all in
    omega (
      arith,
      length-append (first_line order) (10 ∷ lines_of_runs (runs_of events)),
      first_length order,
      lines_length (runs_of events) (runs_cut events) (numbered_runs (runs_of events) (runs_cut events) numbered),
    )

-- A text of as many runs as a journal may have is no longer than an input may be, where it is read as a journal of
-- these events.
pub is_within : (text : List ℕ) (order : Order) (events : List Event) (journal : JournalState)
    → text ≡ text_of order events → journal_of most_runs text ≡ Ok journal → journal.events ≡ events
    → length (runs_of events) ≤ most_runs → length text ≤ most_bytes
is_within text order events journal is read same few =
    let says = text_says most_runs text journal read in
    let spelled : events_of says.runs ≡ events = sym (ap (λ (j : JournalState). j.events) says.same) ∙ same in
    let all : AllByRecursion IsNumbered events =
    subst (λ (es : List Event). AllByRecursion IsNumbered es) spelled (numbered_events says.runs says.spelled.each) in
    omega (arith, ap (λ (bytes : List ℕ). length bytes) is, text_length order events all, few)
