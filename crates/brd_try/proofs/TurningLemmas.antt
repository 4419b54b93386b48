-- One event more of those that are done in turns, where they end, and why there may be none.
use Rattle.std.proofs.Common.{◌≡◌, ◌∙◌, ℕ, zero, suc, ◌+◌, ◌<◌, ◌≤◌, refl, List, [], ◌∷◌, ◌++◌, length, take, arith, subst}
use Rattle.std.proofs.Common.{ap, sym, ⊎_elim, Ok, Err, length-append}
use Rattle.std.specs.Prelude.{◌⊎◌, Bool, true, false, nat_le, if◌then◌else◌, None, Some, Result, slice_get}
use Rattle.std.proofs.lemmas.Bool.{cases_lt, leb-false, leb-true}
use Rattle.std.proofs.lemmas.List.{length-replicate}
use Rattle.brd_board.specs.declared.event.Event.{Event}
use Rattle.brd_board.specs.declared.event.Event.TheVariants.{Step, Tick, Raise}
use Rattle.brd_board.specs.Board.{BoardState, after, happens}
use Rattle.brd_journal.specs.Faults.{Gives}
use Rattle.brd_journal.specs.Journal.{JournalState, appended, most_runs}
use Rattle.brd_journal.specs.Playing.{board_at}
use Rattle.brd_journal.specs.Runs.{AreCut, copies, events_of, runs_of}
use Rattle.brd_journal.specs.declared.fault.JournalFault.{JournalFault}
use Rattle.brd_journal.specs.declared.fault.JournalFault.TheVariants.{Full}
use Rattle.brd_journal.specs.declared.fault.JournalFault.TheVariants as journal_fault
use Rattle.brd_journal.specs.declared.run.Run.{Run}
use Rattle.brd_journal.proofs.AfterLemmas.{after-append}
use Rattle.brd_journal.proofs.Cutting.{runs_cut, runs_events}
use Rattle.brd_try.specs.Turning.{HasTurned, IsTurning, IsUnturned}
use Rattle.brd_try.specs.Turns.{is_over, steps_in}
use Rattle.brd_try.specs.declared.turning.Turned.{Turned}

-- ---- one event more

take_next : (events : List Event) (n : ℕ) (event : Event) → slice_get events n ≡ Some event
    → take (suc n) events ≡ take n events ++ event ∷ []
take_next [] zero event is = absurd (cc)
take_next [] (suc n) event is = absurd (cc)
take_next (first ∷ events) zero event is = cc
take_next (first ∷ events) (suc n) event is = ap (λ (es : List Event). first ∷ es) (take_next events n event is)

one_step : (event : Event) → steps_in (event ∷ []) ≤ 1
one_step (Step cpu) = omega arith
one_step Tick = omega arith
one_step (Raise line) = omega arith

steps_next : (events : List Event) (event : Event)
    → steps_in (events ++ event ∷ []) ≡ steps_in events + steps_in (event ∷ [])
steps_next [] event = omega arith
steps_next (Step cpu ∷ events) event = omega (arith, steps_next events event)
steps_next (Tick ∷ events) event = omega (arith, steps_next events event)
steps_next (Raise line ∷ events) event = omega (arith, steps_next events event)

chosen : (fits : Bool) (whole next : JournalState)
    → ◌≡◌ {A = Result JournalState JournalFault} (if fits then Ok whole else Err Full) (Ok next) → next ≡ whole
chosen true whole next is = cc
chosen false whole next is = cc

taken : (journal next : JournalState) (event : Event) → appended journal (event ∷ []) ≡ Ok next
    → next.events ≡ journal.events ++ event ∷ []
taken journal next event is =
    ap (λ (it : JournalState). it.events)
    (chosen (nat_le (length (runs_of (journal.events ++ event ∷ []))) journal.limit) _ next is)

same-order : (journal next : JournalState) (event : Event) → appended journal (event ∷ []) ≡ Ok next
    → next.order ≡ journal.order
same-order journal next event is =
    ap (λ (it : JournalState). it.order)
    (chosen (nat_le (length (runs_of (journal.events ++ event ∷ []))) journal.limit) _ next is)

same-limit : (journal next : JournalState) (event : Event) → appended journal (event ∷ []) ≡ Ok next
    → next.limit ≡ journal.limit
same-limit journal next event is =
    ap (λ (it : JournalState). it.limit)
    (chosen (nat_le (length (runs_of (journal.events ++ event ∷ []))) journal.limit) _ next is)

fits_so : (fits : Bool) (whole next : JournalState)
    → ◌≡◌ {A = Result JournalState JournalFault} (if fits then Ok whole else Err Full) (Ok next) → fits ≡ true
fits_so true whole next is = refl
fits_so false whole next is = absurd (cc)

room_of : (journal next : JournalState) (event : Event) → appended journal (event ∷ []) ≡ Ok next
    → journal.limit ≡ most_runs → length (runs_of next.events) ≤ most_runs
room_of journal next event is limit =
    let whole = runs_of (journal.events ++ event ∷ []) in
    let fits = leb-true (length whole) journal.limit (fits_so (nat_le (length whole) journal.limit) _ next is) in
    let most : length whole ≤ most_runs = omega (arith, fits, limit) in
    subst (λ (es : List Event). length (runs_of es) ≤ most_runs) (sym (taken journal next event is)) most

board_next : (boot : BoardState) (events : List Event) (n : ℕ) (event : Event) → slice_get events n ≡ Some event
    → board_at boot events (suc n) ≡ (happens (board_at boot events n) event).board
board_next boot events n event is =
    ap (λ (es : List Event). after boot es) (take_next events n event is) ∙ after-append boot (take n events) (event ∷ [])

before_next : (boot b : BoardState) (tasks : ℕ) (events : List Event) (n : ℕ) → b ≡ board_at boot events n
    → is_over tasks b ≡ false → ((m : ℕ) → m < n → is_over tasks (board_at boot events m) ≡ false)
    → (m : ℕ) → m < suc n → is_over tasks (board_at boot events m) ≡ false
before_next boot b tasks events n is on before m less =
    ⊎_elim (λ p. before m p)
    (λ p.
    let same : m ≡ n = omega (arith, less, p) in
    subst (λ (k : ℕ). is_over tasks (board_at boot events k) ≡ false) (sym same)
    (subst (λ (x : BoardState). is_over tasks x ≡ false) is on))
    (cases_lt m n)

-- a board that has done the first n events does the next one
pub turned_on : (boot : BoardState) (tasks : ℕ) (events : JournalState) (n : ℕ) (it next : Turned) (event : Event)
    → IsTurning boot tasks events n it → n < length events.events → is_over tasks it.board ≡ false
    → slice_get events.events n ≡ Some event → appended it.journal (event ∷ []) ≡ Ok next.journal
    → next.board ≡ (happens it.board event).board → next.steps ≡ it.steps + steps_in (event ∷ [])
    → IsTurning boot tasks events (suc n) next
turned_on boot tasks events n it next event turning within on is appends does counts =
    let more = taken it.journal next.journal event appends in
    record {
      within = omega (arith, within);
      taken =
          more ∙ ap (λ (es : List Event). es ++ event ∷ []) turning.taken ∙ sym (take_next events.events n event is);
      before = before_next boot it.board tasks events.events n turning.board on turning.before;
      board =
          does ∙ ap (λ (b : BoardState). (happens b event).board) turning.board
          ∙ sym (board_next boot events.events n event is);
      steps =
          counts ∙ ap (λ (k : ℕ). k + steps_in (event ∷ [])) turning.steps ∙ sym (steps_next it.journal.events event)
          ∙ ap steps_in (sym more);
      few = omega (arith, counts, turning.few, one_step event);
      order = same-order it.journal next.journal event appends ∙ turning.order;
      limit = same-limit it.journal next.journal event appends ∙ turning.limit;
      room = room_of it.journal next.journal event appends turning.limit;
    }

pub turned_next : (boot : BoardState) (tasks : ℕ) (events : JournalState) (n : ℕ) (it next : Turned) (event : Event)
    → IsTurning boot tasks events n it → n < length events.events → is_over tasks it.board ≡ false
    → slice_get events.events n ≡ Some event → appended it.journal (event ∷ []) ≡ Ok next.journal
    → next.board ≡ (happens it.board event).board → next.steps ≡ it.steps + steps_in (event ∷ [])
    → IsTurning boot tasks events (n + 1) next
turned_next boot tasks events n it next event turning within on is appends does counts =
    let one : suc n ≡ n + 1 = omega arith in
    subst (λ (k : ℕ). IsTurning boot tasks events k next) one
    (turned_on boot tasks events n it next event turning within on is appends does counts)

-- there is an event where there are more
pub none_past : (events : List Event) (n : ℕ) → slice_get events n ≡ None → length events ≤ n
none_past [] n is = omega arith
none_past (event ∷ events) zero is = absurd (cc)
none_past (event ∷ events) (suc n) is = omega (arith, none_past events n is)

-- a board that has done the first n events, where something was left to do, has turned
pub turned_whole : (boot : BoardState) (tasks : ℕ) (events : JournalState) (n : ℕ) (it : Turned)
    → IsTurning boot tasks events n it → (n ≡ length events.events) ⊎ (is_over tasks it.board ≡ true)
    → HasTurned boot tasks events it
turned_whole boot tasks events n it turning ends = record {
  len = n;
  taken = turning.taken;
  ends = record {
    within = turning.within;
    before = turning.before;
    ends = subst (λ (b : BoardState). (n ≡ length events.events) ⊎ (is_over tasks b ≡ true)) turning.board ends;
  };
  board = turning.board ∙ ap (λ (es : List Event). after boot es) (sym turning.taken);
  steps = turning.steps;
  order = turning.order;
  room = turning.room;
}

-- ---- why there is none

copies_length : (event : Event) (n : ℕ) → length (copies event n) ≡ n
unfolding copies
copies_length event n = length-replicate n event

few_runs : (runs : List Run) → AreCut runs → length runs ≤ length (events_of runs)
few_runs [] cut = omega arith
few_runs (run ∷ runs) cut =
    let more = few_runs runs cut.3 in
    omega (arith, length-append (copies run.event run.count) (events_of runs), copies_length run.event run.count, cut.0)

-- a board that has done nothing yet
pub turned_none : (boot : BoardState) (tasks : ℕ) (events : JournalState) (it : Turned) → it.board ≡ boot
    → it.journal ≡ record { limit = most_runs; order = events.order; events = [] } → it.steps ≡ 0
    → IsTurning boot tasks events 0 it
turned_none boot tasks events it same journal steps =
    let few : length (runs_of []) ≤ most_runs =
    omega (arith, few_runs (runs_of []) (runs_cut []), ap (λ (es : List Event). length es) (runs_events [])) in
    let none : it.journal.events ≡ [] = ap (λ (state : JournalState). state.events) journal in
    record {
      within = omega arith;
      taken = none;
      before = λ m less. absurd (omega (arith, less));
      board = same;
      steps = steps ∙ ap steps_in (sym none);
      few = omega (arith, steps);
      order = ap (λ (state : JournalState). state.order) journal;
      limit = ap (λ (state : JournalState). state.limit) journal;
      room = subst (λ (es : List Event). length (runs_of es) ≤ most_runs) (sym none) few;
    }

fails_so : (fits : Bool) (whole : JournalState) (fault : JournalFault)
    → ◌≡◌ {A = Result JournalState JournalFault} (if fits then Ok whole else Err Full) (Err fault)
    → (fault ≡ Full) × (fits ≡ false)
fails_so true whole fault is = absurd (cc)
fails_so false whole fault is = (cc, refl)

-- a journal of as many events as the board has done takes no other only where there are more than a journal has runs
pub unturned : (events journal next : JournalState) (n : ℕ) (event : Event) (fault : JournalFault)
    → Gives (λ (done : Unit {0}). next) (Err fault) (appended journal (event ∷ [])) → journal.limit ≡ most_runs
    → length journal.events ≤ n → n < length events.events → IsUnturned events fault
unturned events journal next n event journal_fault.NoMemory fails limit count within = tt
unturned events journal next n event Full fails limit count within =
    let why = fails_so (nat_le (length (runs_of (journal.events ++ event ∷ []))) journal.limit) _ Full fails in
    let more = leb-false (length (runs_of (journal.events ++ event ∷ []))) journal.limit why.1 in
    let few = few_runs (runs_of (journal.events ++ event ∷ [])) (runs_cut (journal.events ++ event ∷ [])) in
    let same = ap (λ (es : List Event). length es) (runs_events (journal.events ++ event ∷ [])) in
    omega (arith, more, few, same, length-append journal.events (event ∷ []), count, limit, within)
unturned events journal next n event (journal_fault.Syntax line) fails limit count within =
    let why =
    fails_so (nat_le (length (runs_of (journal.events ++ event ∷ []))) journal.limit) _ (journal_fault.Syntax line)
    fails in
    absurd (cc)

-- the first n events are no more than n
pub few_taken : (events : List Event) (n : ℕ) → length (take n events) ≤ n
few_taken events zero = omega arith
few_taken [] (suc n) = omega arith
few_taken (event ∷ events) (suc n) = omega (arith, few_taken events n)
