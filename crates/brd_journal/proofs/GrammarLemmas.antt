-- Just the texts that spell runs are read, as what they say.
use Rattle.std.proofs.Common.{◌≡◌, ℕ, zero, suc, ◌+◌, ◌≤◌, eqb, leb, true, false, List, [], ◌∷◌, ◌++◌, length, refl, sym, ap, subst, ◌∙◌, inl, inr, arith}
use Rattle.std.specs.Prelude.{Option, Some, None, Ok, Err}
use Rattle.std.specs.Fmt.{decimal}
use Rattle.std.specs.Int.{IsInRange}
use Rattle.std.specs.List.{list_all, AllByRecursion, join_with_byte}
use Rattle.std.specs.Str.{bytes_eq}
use Rattle.std.proofs.lemmas.Bool.{cases_Bool, and_parts, eqb-true, le-leb, leb-true}
use Rattle.std.proofs.lemmas.List.{append_assoc, append-nil}
use Rattle.std.proofs.lemmas.Slice.Eq.{bytes_eq-Decides}
use Rattle.brd_text.specs.Faults.{◌>>=◌, or_fault}
use Rattle.brd_text.specs.Lines.{lines_of, stays_on}
use Rattle.brd_text.proofs.FaultLemmas.{bind_ok}
use Rattle.brd_text.proofs.LineLemmas.{some_line, joined, apart, only_lines}
use Rattle.brd_word.specs.declared.order.Order.{Order}
use Rattle.brd_board.specs.declared.event.Event.{Event}
use Rattle.brd_board.specs.declared.event.Event.TheVariants.{Step, Tick, Raise}
use Rattle.brd_journal.specs.declared.fault.JournalFault.{JournalFault}
use Rattle.brd_journal.specs.declared.fault.JournalFault.TheVariants.{Full, Syntax}
use Rattle.brd_journal.specs.declared.run.Run.{Run}
use Rattle.brd_journal.specs.Runs.{copies, events_of, runs_of, AreCut}
use Rattle.brd_journal.specs.Adding.{added}
use Rattle.brd_journal.specs.Journal.{JournalState, appended}
use Rattle.brd_journal.specs.Text.{first_line, first_line_1, IsFirstLine, event_text, line_text, lines_of_runs, text_of, IsNumbered, AreNumbered, CanBeSpelled, SpellsRuns}
use Rattle.brd_journal.specs.Reading.{order_of_line, run_of_line, lines_read, journal_by_lines, journal_of}
use Rattle.brd_journal.specs.Meaning.{Says}
use Rattle.brd_journal.proofs.EventLemmas.{copies-suc, copies-one}
use Rattle.brd_journal.proofs.Cutting.{runs_events, runs_cut}
use Rattle.brd_journal.proofs.AddLemmas.{added_runs, length_added}
use Rattle.brd_journal.proofs.LineLemmas.{one_line, behind_first}
use Rattle.brd_journal.proofs.NumberLemmas.{digits_pass, not_zero}
use Rattle.brd_journal.proofs.FieldLemmas.{line_again, line_is}

-- ---- more events don't need fewer runs

one_more : (es : List Event) (e : Event) → length (runs_of es) ≤ length (runs_of (es ++ e ∷ []))
one_more es e =
    let same : runs_of (es ++ e ∷ []) ≡ added (runs_of es) e 1 =
    ap runs_of (ap (λ (xs : List Event). es ++ xs) (sym (copies-one e)) ∙ ap (λ (xs : List Event). xs ++ copies e 1) (sym (runs_events es)))
    ∙ added_runs (runs_of es) e 1 (runs_cut es) (omega arith) in
    rw same (length_added (runs_of es) e 1)

pub more_runs : (es more : List Event) → length (runs_of es) ≤ length (runs_of (es ++ more))
more_runs es [] = rw append-nil (omega arith)
more_runs es (e ∷ more) =
    let next : (es ++ e ∷ []) ++ more ≡ es ++ e ∷ more = append_assoc es (e ∷ []) more in
    let rest : length (runs_of (es ++ e ∷ [])) ≤ length (runs_of (es ++ e ∷ more)) = rw next at (more_runs (es ++ e ∷ []) more) in
    omega (arith, one_more es e, rest)

-- ---- lines and the newlines after them

pub lines_front : (line rest : List ℕ) → list_all stays_on line ≡ true → lines_of (line ++ 10 ∷ rest) ≡ line ∷ lines_of rest
lines_front line rest h =
    let some = some_line rest in
    let back : join_with_byte 10 (some.0 ∷ some.1) ≡ rest = rw some.2 at (joined rest) in
    let whole : join_with_byte 10 (line ∷ lines_of rest) ≡ line ++ 10 ∷ rest = rw (some.2, back) refl in
    ap lines_of (sym whole) ∙ only_lines line (lines_of rest) (h, apart rest)

all_append : (xs ys : List ℕ) → list_all stays_on xs ≡ true → list_all stays_on ys ≡ true → list_all stays_on (xs ++ ys) ≡ true
all_append [] ys h k = k
all_append (x ∷ xs) ys h k = let parts = and_parts (stays_on x) (list_all stays_on xs) h in rw (parts.0, all_append xs ys parts.1 k) refl

digit_stays : (c : ℕ) → IsInRange 48 57 c → stays_on c ≡ true
unfolding stays_on
digit_stays c h = elim (cases_Bool (eqb c 10)) [ inl t ↦ let e : c ≡ 10 = eqb-true c 10 t in absurd (omega arith) | inr f ↦ rw f refl ]

kind_stays : (a b : ℕ) (rest : List ℕ) → stays_on a ≡ true → stays_on b ≡ true → list_all stays_on rest ≡ true → list_all stays_on (a ∷ b ∷ rest) ≡ true
kind_stays a b rest h k more = rw (h, k, more) refl

byte_stays : (stays_on 83 ≡ true) × (stays_on 84 ≡ true) × (stays_on 82 ≡ true) × (stays_on 32 ≡ true)
unfolding stays_on
byte_stays = (refl, refl, refl, refl)

event_stays : (event : Event) → IsNumbered event → list_all stays_on (event_text event) ≡ true
event_stays (Step cpu) small = kind_stays 83 32 (decimal cpu) byte_stays.0 byte_stays.3 (digits_pass stays_on digit_stays cpu (omega arith))
event_stays Tick small = rw (byte_stays.1) refl
event_stays (Raise line) small = kind_stays 82 32 (decimal line) byte_stays.2 byte_stays.3 (digits_pass stays_on digit_stays line (omega arith))

pub line_stays : (run : Run) → CanBeSpelled run → list_all stays_on (line_text run) ≡ true
line_stays run can =
    all_append (event_text run.event) (32 ∷ decimal run.count) (event_stays run.event can.numbered)
    (rw (byte_stays.3, digits_pass stays_on digit_stays run.count (omega (arith, can.most))) refl)

pub first_stays : (line : List ℕ) (order : Order) → IsFirstLine line order → list_all stays_on line ≡ true
unfolding stays_on
first_stays line Order.Big (inl same) = rw same refl
first_stays line Order.Little (inl same) = rw same refl
first_stays line order (inr old) = rw old.0 refl

-- ---- the first line

pub order_again : (line : List ℕ) (order : Order) → IsFirstLine line order → order_of_line line ≡ Some order
order_again line Order.Big (inl same) = rw same refl
order_again line Order.Little (inl same) = rw same refl
order_again line order (inr old) = rw (old.0, old.1) refl

pub order_is : (line : List ℕ) (order : Order) → order_of_line line ≡ Some order → IsFirstLine line order
order_is line order h =
    elim (cases_Bool (bytes_eq line (first_line Order.Big))) [
      | inl big ↦
          let q : Some Order.Big ≡ Some order = rw big at h in
          let is : Order.Big ≡ order = cc in
          inl ((bytes_eq-Decides line (first_line Order.Big)).0 big ∙ ap first_line is)
      | inr not_big ↦ elim (cases_Bool (bytes_eq line (first_line Order.Little))) [
        | inl little ↦
            let q : Some Order.Little ≡ Some order = rw (not_big, little) at h in
            let is : Order.Little ≡ order = cc in
            inl ((bytes_eq-Decides line (first_line Order.Little)).0 little ∙ ap first_line is)
        | inr not_little ↦ elim (cases_Bool (bytes_eq line first_line_1)) [
          | inl old ↦
              let q : Some Order.Big ≡ Some order = rw (not_big, not_little, old) at h in
              let is : order ≡ Order.Big = cc in
              inr ((bytes_eq-Decides line first_line_1).0 old, is)
          | inr other ↦ let q : None ≡ Some order = rw (not_big, not_little, other) at h in absurd (cc)
        ]
      ]
    ]

-- ---- what is spelled is read

pub fits : (j : JournalState) (more : List Event) → length (runs_of (j.events ++ more)) ≤ j.limit → appended j more ≡ Ok (record { limit = j.limit; order = j.order; events = j.events ++ more })
fits j more le = rw (le-leb (length (runs_of (j.events ++ more))) j.limit le) refl

lines_again : (runs : List Run) (j : JournalState) (n : ℕ) → AllByRecursion CanBeSpelled runs → length (runs_of (j.events ++ events_of runs)) ≤ j.limit
    → lines_read j n (lines_of (lines_of_runs runs)) ≡ Ok (record { limit = j.limit; order = j.order; events = j.events ++ events_of runs })
lines_again [] j n each le = rw append-nil refl
lines_again (run ∷ runs) j n each le =
    let es : List Event = copies run.event run.count in
    let next : JournalState = record { limit = j.limit; order = j.order; events = j.events ++ es } in
    let regroup : (j.events ++ es) ++ events_of runs ≡ j.events ++ (es ++ events_of runs) = append_assoc j.events es (events_of runs) in
    let le_all : length (runs_of ((j.events ++ es) ++ events_of runs)) ≤ j.limit = rw regroup le in
    let le_next : length (runs_of (j.events ++ es)) ≤ j.limit = omega (arith, more_runs (j.events ++ es) (events_of runs), le_all) in
    let text : lines_of_runs (run ∷ runs) ≡ line_text run ++ 10 ∷ lines_of_runs runs = append_assoc (line_text run) (10 ∷ []) (lines_of_runs runs) in
    let lines : lines_of (lines_of_runs (run ∷ runs)) ≡ line_text run ∷ lines_of (lines_of_runs runs) = ap lines_of text ∙ lines_front (line_text run) (lines_of_runs runs) (line_stays run each.0) in
    let step : lines_read j n (line_text run ∷ lines_of (lines_of_runs runs)) ≡ lines_read next (n + 1) (lines_of (lines_of_runs runs)) =
    one_line j n (line_text run) (lines_of_runs runs) ∙ rw (line_again run each.0, fits j es le_next) refl in
    ap (lines_read j n) lines ∙ step ∙ lines_again runs next (n + 1) each.1 le_all
    ∙ ap (λ (xs : List Event). Ok (record { limit = j.limit; order = j.order; events = xs })) regroup

-- ---- what is read is spelled

-- lines after a journal that make another
record AreRead (j k : JournalState) (text : List ℕ) : Type 0 where
  runs : List Run
  each : AllByRecursion CanBeSpelled runs
  lines : text ≡ lines_of_runs runs
  same : k ≡ record { limit = j.limit; order = j.order; events = j.events ++ events_of runs }
  within : length (runs_of j.events) ≤ j.limit → length (runs_of (j.events ++ events_of runs)) ≤ j.limit

pub appended_is : (j k : JournalState) (more : List Event) → appended j more ≡ Ok k → (length (runs_of (j.events ++ more)) ≤ j.limit) × (k ≡ record { limit = j.limit; order = j.order; events = j.events ++ more })
appended_is j k more h =
    elim (cases_Bool (leb (length (runs_of (j.events ++ more))) j.limit)) [
      | inl fits ↦
          let q : Ok (record { limit = j.limit; order = j.order; events = j.events ++ more }) ≡ Ok k = rw fits at h in
          (leb-true (length (runs_of (j.events ++ more))) j.limit fits, cc)
      | inr full ↦ let q : Err Full ≡ Ok k = rw full at h in absurd (cc)
    ]

pub or_fault_is : {X : Type 0} (f : JournalFault) (o : Option X) (it : X) → or_fault f o ≡ Ok it → o ≡ Some it
or_fault_is f None it h = absurd (cc)
or_fault_is f (Some x) it h = cc

pub empty_is : (line : List ℕ) → eqb (length line) 0 ≡ true → line ≡ []
empty_is [] h = refl
empty_is (b ∷ bs) h = let q : false ≡ true = rw (not_zero (length (b ∷ bs)) (omega arith)) at h in absurd (cc)

lines_are : (lines : List (List ℕ)) (j k : JournalState) (n : ℕ) → lines_read j n lines ≡ Ok k → AreRead j k (join_with_byte 10 lines)
lines_are [] j k n h = absurd (cc)
lines_are (line ∷ []) j k n h =
    elim (cases_Bool (eqb (length line) 0)) [
      | inl empty ↦
          let q : Ok j ≡ Ok k = rw empty at h in
          let same : j ≡ k = cc in
          record {
            runs = [];
            each = tt;
            lines = empty_is line empty;
            same = sym same ∙ ap (λ (xs : List Event). record { limit = j.limit; order = j.order; events = xs }) (sym (append-nil j.events));
            within = λ le. rw append-nil le;
          }
      | inr some ↦ let q : Err (Syntax n) ≡ Ok k = rw some at h in absurd (cc)
    ]
lines_are (line ∷ next ∷ lines) j k n h =
    let first = bind_ok (or_fault (Syntax n) (run_of_line line)) (λ run. appended j (copies run.event run.count) >>= λ more. lines_read more (n + 1) (next ∷ lines)) k h in
    let run : Run = first.0 in
    let es : List Event = copies run.event run.count in
    let spelled = line_is line run (or_fault_is (Syntax n) (run_of_line line) run first.1) in
    let second = bind_ok (appended j es) (λ more. lines_read more (n + 1) (next ∷ lines)) k first.2 in
    let made = appended_is j second.0 es second.1 in
    let rest = lines_are (next ∷ lines) second.0 k (n + 1) second.2 in
    let regroup : (j.events ++ es) ++ events_of rest.runs ≡ j.events ++ (es ++ events_of rest.runs) = append_assoc j.events es (events_of rest.runs) in
    record {
      runs = run ∷ rest.runs;
      each = (spelled.can, rest.each);
      lines = ap (λ (xs : List ℕ). xs ++ 10 ∷ join_with_byte 10 (next ∷ lines)) spelled.text ∙ ap (λ (xs : List ℕ). line_text run ++ 10 ∷ xs) rest.lines
          ∙ sym (append_assoc (line_text run) (10 ∷ []) (lines_of_runs rest.runs));
      same = rest.same ∙ ap (λ (m : JournalState). record { limit = m.limit; order = m.order; events = m.events ++ events_of rest.runs }) made.1
          ∙ ap (λ (xs : List Event). record { limit = j.limit; order = j.order; events = xs }) regroup;
      within = λ le. rw (← regroup) (within_at second.0 (record { limit = j.limit; order = j.order; events = j.events ++ es }) rest.runs made.1 rest.within made.0);
    }
  where
    within_at : (m made : JournalState) (runs : List Run) → m ≡ made → (length (runs_of m.events) ≤ m.limit → length (runs_of (m.events ++ events_of runs)) ≤ m.limit)
        → length (runs_of made.events) ≤ made.limit → length (runs_of (made.events ++ events_of runs)) ≤ made.limit
    within_at m made runs same h = let P : JournalState → Type 0 = λ j. length (runs_of j.events) ≤ j.limit → length (runs_of (j.events ++ events_of runs)) ≤ j.limit in subst P same h

-- ---- whole texts

pub text_again : (limit : ℕ) (text : List ℕ) (order : Order) (runs : List Run) → SpellsRuns text order runs → length (runs_of (events_of runs)) ≤ limit → journal_of limit text ≡ Ok (record { limit = limit; order = order; events = events_of runs })
text_again limit text order runs spelled le =
    let lines : lines_of text ≡ spelled.first ∷ lines_of (lines_of_runs runs) =
    ap lines_of spelled.lines ∙ lines_front spelled.first (lines_of_runs runs) (first_stays spelled.first order spelled.is_first) in
    behind_first limit order text spelled.first (lines_of_runs runs) (Some (lines_of_runs runs)) lines refl (order_again spelled.first order spelled.is_first)
    ∙ lines_again runs (record { limit = limit; order = order; events = [] }) 2 spelled.each le

-- what is read by lines
record AreSaid (limit : ℕ) (journal : JournalState) (text : List ℕ) : Type 0 where
  order : Order
  runs : List Run
  first : List ℕ
  is_first : IsFirstLine first order
  each : AllByRecursion CanBeSpelled runs
  lines : text ≡ first ++ 10 ∷ lines_of_runs runs
  same : journal ≡ record { limit = limit; order = order; events = events_of runs }
  within : length (runs_of (events_of runs)) ≤ limit

pub no_runs : length (runs_of []) ≡ 0
unfolding runs_of
no_runs = refl

said : (limit : ℕ) (lines : List (List ℕ)) (journal : JournalState) → journal_by_lines limit lines ≡ Ok journal → AreSaid limit journal (join_with_byte 10 lines)
said limit [] journal h = absurd (cc)
said limit (line ∷ []) journal h = absurd (cc)
said limit (line ∷ next ∷ lines) journal h =
    let first = bind_ok (or_fault (Syntax 1) (order_of_line line)) (λ order. lines_read (record { limit = limit; order = order; events = [] }) 2 (next ∷ lines)) journal h in
    let order : Order = first.0 in
    let read = lines_are (next ∷ lines) (record { limit = limit; order = order; events = [] }) journal 2 first.2 in
    record {
      order = order;
      runs = read.runs;
      first = line;
      is_first = order_is line order (or_fault_is (Syntax 1) (order_of_line line) order first.1);
      each = read.each;
      lines = ap (λ (xs : List ℕ). line ++ 10 ∷ xs) read.lines;
      same = read.same;
      within = read.within (omega (arith, no_runs));
    }

pub text_says : (limit : ℕ) (text : List ℕ) (journal : JournalState) → journal_of limit text ≡ Ok journal → Says limit text journal
unfolding journal_of
text_says limit text journal h =
    let read = said limit (lines_of text) journal h in
    record {
      runs = read.runs;
      order = read.order;
      spelled = record { first = read.first; is_first = read.is_first; lines = sym (joined text) ∙ read.lines; each = read.each };
      within = read.within;
      same = read.same;
    }

pub says_text : (limit : ℕ) (text : List ℕ) (journal : JournalState) → Says limit text journal → journal_of limit text ≡ Ok journal
says_text limit text journal says = text_again limit text says.order says.runs says.spelled says.within ∙ ap (λ (j : JournalState). Ok j) (sym says.same)

-- ---- what is written

can_all : (runs : List Run) → AreCut runs → AreNumbered runs → AllByRecursion CanBeSpelled runs
can_all [] cut numbered = tt
can_all (run ∷ runs) cut numbered = (record { numbered = numbered.0; least = cut.0; most = cut.1 }, can_all runs cut.3 numbered.1)

pub written_again : (limit : ℕ) (order : Order) (events : List Event) → AreNumbered (runs_of events) → length (runs_of events) ≤ limit → journal_of limit (text_of order events) ≡ Ok (record { limit = limit; order = order; events = events })
written_again limit order events numbered le =
    let same : events_of (runs_of events) ≡ events = runs_events events in
    let le_same : length (runs_of (events_of (runs_of events))) ≤ limit = rw same le in
    text_again limit (text_of order events) order (runs_of events) (record { first = first_line order; is_first = inl refl; lines = refl; each = can_all (runs_of events) (runs_cut events) numbered }) le_same
    ∙ ap (λ (es : List Event). Ok (record { limit = limit; order = order; events = es })) same

numbered_first : (e : Event) (n : ℕ) (es : List Event) → 1 ≤ n → AllByRecursion IsNumbered (copies e n ++ es) → IsNumbered e × AllByRecursion IsNumbered es
numbered_first e zero es some all = absurd (omega arith)
numbered_first e (suc zero) es some all = let q : AllByRecursion IsNumbered (e ∷ es) = rw copies-one at all in q
numbered_first e (suc (suc n)) es some all =
    let q : AllByRecursion IsNumbered (e ∷ (copies e (suc n) ++ es)) = rw (copies-suc e (suc n)) at all in
    (q.0, (numbered_first e (suc n) es (omega arith) q.1).1)

numbered_runs : (runs : List Run) → AreCut runs → AllByRecursion IsNumbered (events_of runs) → AreNumbered runs
numbered_runs [] cut all = tt
numbered_runs (run ∷ runs) cut all =
    let first = numbered_first run.event run.count (events_of runs) cut.0 all in
    (first.0, numbered_runs runs cut.3 first.1)

pub events_again : (limit : ℕ) (order : Order) (events : List Event) → AllByRecursion IsNumbered events → length (runs_of events) ≤ limit → journal_of limit (text_of order events) ≡ Ok (record { limit = limit; order = order; events = events })
events_again limit order events all le = written_again limit order events (numbered_runs (runs_of events) (runs_cut events) (rw runs_events all)) le
