-- The first wrong line of a text is its fault.
use Rattle.std.proofs.Common.{◌≡◌, ℕ, ◌+◌, ◌≤◌, ◌<◌, eqb, leb, true, false, List, [], ◌∷◌, ◌++◌, length, refl, sym, ap, subst, ◌∙◌, inl, inr, arith, add-zero}
use Rattle.std.specs.Prelude.{Option, Some, None, Result, Ok, Err}
use Rattle.std.specs.List.{list_all, AllByRecursion, join_with_byte}
use Rattle.std.proofs.lemmas.Bool.{cases_Bool, and_parts, lt-leb, leb-false}
use Rattle.std.proofs.lemmas.List.{append_assoc, append-nil}
use Rattle.brd_text.specs.Faults.{◌>>=◌, or_fault}
use Rattle.brd_text.specs.Lines.{lines_of, stays_on}
use Rattle.brd_text.proofs.LineLemmas.{joined, apart}
use Rattle.brd_word.specs.declared.order.Order.{Order}
use Rattle.brd_board.specs.declared.event.Event.{Event}
use Rattle.brd_journal.specs.declared.fault.JournalFault.{JournalFault}
use Rattle.brd_journal.specs.declared.fault.JournalFault.TheVariants.{NoMemory, Full, Syntax}
use Rattle.brd_journal.specs.declared.run.Run.{Run}
use Rattle.brd_journal.specs.Runs.{copies, events_of, runs_of}
use Rattle.brd_journal.specs.Journal.{JournalState, appended}
use Rattle.brd_journal.specs.Text.{line_text, lines_of_runs, CanBeSpelled, SpellsRun}
use Rattle.brd_journal.specs.Reading.{order_of_line, run_of_line, lines_read, journal_by_lines, journal_of}
use Rattle.brd_journal.specs.Meaning.{HasNoRun, IsWrong, FailsBehind, HasNoFirstLine, IsFirstFault}
use Rattle.brd_journal.proofs.EventLemmas.{events-append}
use Rattle.brd_journal.proofs.LineLemmas.{one_line, behind_first}
use Rattle.brd_journal.proofs.FieldLemmas.{line_again, line_is}
use Rattle.brd_journal.proofs.GrammarLemmas.{more_runs, lines_front, line_stays, first_stays, order_again, order_is, fits, appended_is, empty_is, no_runs}

-- all lines of a text are so
abbrev AreApart : List (List ℕ) → Type 0
AreApart lines = AllByRecursion (λ line. list_all stays_on line ≡ true) lines

-- ---- a line that isn't one of a run

no_newline : (line behind : List ℕ) → list_all stays_on (line ++ 10 ∷ behind) ≡ true → ⊥
unfolding stays_on
no_newline [] behind h = cc
no_newline (b ∷ bs) behind h = no_newline bs behind (and_parts (stays_on b) (list_all stays_on (bs ++ 10 ∷ behind)) h).1

last_has_none : (line : List ℕ) → list_all stays_on line ≡ true → HasNoRun line
last_has_none line stays run behind can same =
    let h : list_all stays_on (line_text run ++ 10 ∷ behind) ≡ true = rw same at stays in no_newline (line_text run) behind h

same_line : (a b rest behind : List ℕ) → list_all stays_on a ≡ true → list_all stays_on b ≡ true → a ++ 10 ∷ rest ≡ b ++ 10 ∷ behind → a ≡ b
same_line a b rest behind h k same =
    let lines : a ∷ lines_of rest ≡ b ∷ lines_of behind = sym (lines_front a rest h) ∙ ap lines_of same ∙ lines_front b behind k in cc

line_has_none : (line rest : List ℕ) → list_all stays_on line ≡ true → run_of_line line ≡ None → HasNoRun (line ++ 10 ∷ rest)
line_has_none line rest stays none run behind can same =
    let e = same_line line (line_text run) rest behind stays (line_stays run can) same in
    let q : None ≡ Some run = sym none ∙ ap run_of_line e ∙ line_again run can in cc

not_empty : (line rest : List ℕ) → line ++ 10 ∷ rest ≡ [] → ⊥
not_empty [] rest h = cc
not_empty (b ∷ bs) rest h = cc

-- ---- a fault is that of the first wrong line

-- why the lines from one of this number on are a fault after a journal: `IsWrong`, in the middle of a text
abbrev WrongFrom : JournalState → ℕ → List Run → List ℕ → JournalFault → Type 0
WrongFrom j n front rest NoMemory = ⊥
WrongFrom j n front rest (Syntax line) = (line ≡ n + length front) × (rest ≡ [] → ⊥) × HasNoRun rest
WrongFrom j n front rest Full =
    (run : Run) × (behind : List ℕ) × CanBeSpelled run × (rest ≡ line_text run ++ 10 ∷ behind) × (j.limit < length (runs_of ((j.events ++ events_of front) ++ copies run.event run.count)))

record FailsFrom (j : JournalState) (n : ℕ) (text : List ℕ) (fault : JournalFault) : Type 0 where
  front : List Run
  rest : List ℕ
  lines : text ≡ lines_of_runs front ++ rest
  each : AllByRecursion CanBeSpelled front
  within : length (runs_of (j.events ++ events_of front)) ≤ j.limit
  why : WrongFrom j n front rest fault

-- one good line in front
wrong_further : (j k : JournalState) (n : ℕ) (run : Run) (front : List Run) (rest : List ℕ) (fault : JournalFault) → k ≡ record { limit = j.limit; order = j.order; events = j.events ++ copies run.event run.count }
    → WrongFrom k (n + 1) front rest fault → WrongFrom j n (run ∷ front) rest fault
wrong_further j k n run front rest NoMemory same why = why
wrong_further j k n run front rest (Syntax line) same why = (omega (arith, why.0), why.1, why.2)
wrong_further j k n run front rest Full same why =
    let group : (k.events ++ events_of front) ≡ j.events ++ events_of (run ∷ front) =
    ap (λ (m : JournalState). m.events ++ events_of front) same ∙ append_assoc j.events (copies run.event run.count) (events_of front) in
    let limits : k.limit ≡ j.limit = ap (λ (m : JournalState). m.limit) same in
    let over : k.limit < length (runs_of ((j.events ++ events_of (run ∷ front)) ++ copies why.0.event why.0.count)) = rw group at why.4 in
    (why.0, why.1, why.2, why.3, omega arith)

append_fails : (j : JournalState) (more : List Event) (fault : JournalFault) → appended j more ≡ Err fault → (fault ≡ Full) × (j.limit < length (runs_of (j.events ++ more)))
append_fails j more fault h =
    elim (cases_Bool (leb (length (runs_of (j.events ++ more))) j.limit)) [
      | inl fits ↦ let q : Ok (record { limit = j.limit; order = j.order; events = j.events ++ more }) ≡ Err fault = rw fits at h in absurd (cc)
      | inr full ↦ let q : Err Full ≡ Err fault = rw full at h in (cc, leb-false (length (runs_of (j.events ++ more))) j.limit full)
    ]

with_fault : (j : JournalState) (n : ℕ) (text : List ℕ) (a b : JournalFault) → a ≡ b → FailsFrom j n text a → FailsFrom j n text b
with_fault j n text a b e h = let P : JournalFault → Type 0 = λ f. FailsFrom j n text f in subst P e h

nothing_before : (j : JournalState) → length (runs_of j.events) ≤ j.limit → length (runs_of (j.events ++ events_of [])) ≤ j.limit
nothing_before j h = rw append-nil h

syntax_here : (j : JournalState) (n : ℕ) (rest : List ℕ) → length (runs_of j.events) ≤ j.limit → (rest ≡ [] → ⊥) → HasNoRun rest → FailsFrom j n rest (Syntax n)
syntax_here j n rest within some none = record {
  front = [];
  rest = rest;
  lines = refl;
  each = tt;
  within = nothing_before j within;
  why = (omega arith, some, none);
}

full_here : (j : JournalState) (n : ℕ) (rest behind : List ℕ) (run : Run) → length (runs_of j.events) ≤ j.limit → CanBeSpelled run → rest ≡ line_text run ++ 10 ∷ behind
    → j.limit < length (runs_of (j.events ++ copies run.event run.count)) → FailsFrom j n rest Full
full_here j n rest behind run within can text over = record {
  front = [];
  rest = rest;
  lines = refl;
  each = tt;
  within = nothing_before j within;
  why = (run, behind, can, text, rw append-nil over);
}

-- a good line in front of those that fail
one_further : (j k : JournalState) (n : ℕ) (line behind : List ℕ) (run : Run) (fault : JournalFault) → SpellsRun line run → k ≡ record { limit = j.limit; order = j.order; events = j.events ++ copies run.event run.count }
    → FailsFrom k (n + 1) behind fault → FailsFrom j n (line ++ 10 ∷ behind) fault
one_further j k n line behind run fault spelled same rest = record {
  front = run ∷ rest.front;
  rest = rest.rest;
  lines = ap (λ (xs : List ℕ). xs ++ 10 ∷ behind) spelled.text ∙ ap (λ (xs : List ℕ). line_text run ++ 10 ∷ xs) rest.lines
      ∙ sym (append_assoc (line_text run) (10 ∷ lines_of_runs rest.front) rest.rest)
      ∙ ap (λ (xs : List ℕ). xs ++ rest.rest) (sym (append_assoc (line_text run) (10 ∷ []) (lines_of_runs rest.front)));
  each = (spelled.can, rest.each);
  within =
      let group : k.events ++ events_of rest.front ≡ j.events ++ events_of (run ∷ rest.front) =
      ap (λ (m : JournalState). m.events ++ events_of rest.front) same ∙ append_assoc j.events (copies run.event run.count) (events_of rest.front) in
      let limits : k.limit ≡ j.limit = ap (λ (m : JournalState). m.limit) same in
      let le : length (runs_of (j.events ++ events_of (run ∷ rest.front))) ≤ k.limit = rw group at rest.within in
      omega arith;
  why = wrong_further j k n run rest.front rest.rest fault same rest.why;
}

by_journal : (j : JournalState) (n : ℕ) (line behind : List ℕ) (lines : List (List ℕ)) (run : Run) (fault : JournalFault) (r : Result JournalState JournalFault)
    → SpellsRun line run → length (runs_of j.events) ≤ j.limit → appended j (copies run.event run.count) ≡ r
    → ((k : JournalState) → length (runs_of k.events) ≤ k.limit → lines_read k (n + 1) lines ≡ Err fault → FailsFrom k (n + 1) behind fault)
    → (r >>= λ more. lines_read more (n + 1) lines) ≡ Err fault → FailsFrom j n (line ++ 10 ∷ behind) fault
by_journal j n line behind lines run fault (Ok k) spelled within made again h =
    let is = appended_is j k (copies run.event run.count) made in
    let limits : j.limit ≡ k.limit = ap (λ (m : JournalState). m.limit) (sym is.1) in
    let events : j.events ++ copies run.event run.count ≡ k.events = ap (λ (m : JournalState). m.events) (sym is.1) in
    let le : length (runs_of k.events) ≤ j.limit = rw events at is.0 in
    one_further j k n line behind run fault spelled is.1 (again k (omega arith) h)
by_journal j n line behind lines run fault (Err f) spelled within made again h =
    let full = append_fails j (copies run.event run.count) f made in
    let same : f ≡ fault = cc in
    with_fault j n (line ++ 10 ∷ behind) Full fault (sym full.0 ∙ same)
    (full_here j n (line ++ 10 ∷ behind) behind run within spelled.can (ap (λ (xs : List ℕ). xs ++ 10 ∷ behind) spelled.text) full.1)

by_run : (j : JournalState) (n : ℕ) (line behind : List ℕ) (lines : List (List ℕ)) (fault : JournalFault) (o : Option Run)
    → list_all stays_on line ≡ true → length (runs_of j.events) ≤ j.limit → run_of_line line ≡ o
    → ((k : JournalState) → length (runs_of k.events) ≤ k.limit → lines_read k (n + 1) lines ≡ Err fault → FailsFrom k (n + 1) behind fault)
    → (or_fault (Syntax n) o >>= λ run. appended j (copies run.event run.count) >>= λ more. lines_read more (n + 1) lines) ≡ Err fault → FailsFrom j n (line ++ 10 ∷ behind) fault
by_run j n line behind lines fault None stays within is again h =
    with_fault j n (line ++ 10 ∷ behind) (Syntax n) fault (cc) (syntax_here j n (line ++ 10 ∷ behind) within (not_empty line behind) (line_has_none line behind stays is))
by_run j n line behind lines fault (Some run) stays within is again h =
    by_journal j n line behind lines run fault (appended j (copies run.event run.count)) (line_is line run is) within refl again h

lines_fail : (lines : List (List ℕ)) (j : JournalState) (n : ℕ) (fault : JournalFault) → AreApart lines → (lines ≡ [] → ⊥) → length (runs_of j.events) ≤ j.limit → lines_read j n lines ≡ Err fault
    → FailsFrom j n (join_with_byte 10 lines) fault
lines_fail [] j n fault all some within h = absurd (some refl)
lines_fail (line ∷ []) j n fault all some within h =
    elim (cases_Bool (eqb (length line) 0)) [
      | inl empty ↦ let q : Ok j ≡ Err fault = rw empty at h in absurd (cc)
      | inr other ↦
          let q : Err (Syntax n) ≡ Err fault = rw other at h in
          let bytes : line ≡ [] → ⊥ = λ e. (let t : eqb (length line) 0 ≡ true = rw e refl in let r : true ≡ false = sym t ∙ other in cc) in
          with_fault j n line (Syntax n) fault (cc) (syntax_here j n line within bytes (last_has_none line all.0))
    ]
lines_fail (line ∷ next ∷ lines) j n fault all some within h =
    by_run j n line (join_with_byte 10 (next ∷ lines)) (next ∷ lines) fault (run_of_line line) all.0 within refl
    (λ k le failed. lines_fail (next ∷ lines) k (n + 1) fault all.1 (λ e. cc) le failed) h

-- the first line, and those after it
wrong_behind : (limit : ℕ) (order : Order) (front : List Run) (rest : List ℕ) (fault : JournalFault) → WrongFrom (record { limit = limit; order = order; events = [] }) 2 front rest fault → IsWrong limit front rest fault
wrong_behind limit order front rest NoMemory why = why
wrong_behind limit order front rest (Syntax line) why = (omega (arith, why.0), why.1, why.2)
wrong_behind limit order front rest Full why =
    let all : events_of (front ++ why.0 ∷ []) ≡ events_of front ++ copies why.0.event why.0.count =
    events-append front (why.0 ∷ []) ∙ ap (λ (es : List Event). events_of front ++ es) (append-nil (copies why.0.event why.0.count)) in
    (why.0, why.1, why.2, why.3, rw all why.4)

starts : (limit : ℕ) → length (runs_of []) ≤ limit
starts limit = omega (arith, no_runs)

text_fails : (limit : ℕ) (lines : List (List ℕ)) (fault : JournalFault) → AreApart lines → journal_by_lines limit lines ≡ Err fault → IsFirstFault limit (join_with_byte 10 lines) fault
text_fails limit [] fault all h = inl (cc, (λ order first behind is same. not_empty first behind (sym same)))
text_fails limit (line ∷ []) fault all h =
    inl (cc, (λ order first behind is same. let t : list_all stays_on (first ++ 10 ∷ behind) ≡ true = rw same at all.0 in no_newline first behind t))
text_fails limit (line ∷ next ∷ lines) fault all h = by_order (order_of_line line) refl h
  where
    by_order : (o : Option Order) → order_of_line line ≡ o
        → (or_fault (Syntax 1) o >>= λ order. lines_read (record { limit = limit; order = order; events = [] }) 2 (next ∷ lines)) ≡ Err fault
        → IsFirstFault limit (join_with_byte 10 (line ∷ next ∷ lines)) fault
    by_order None is failed =
        inl (
          cc,
          (λ order first behind is_first same.
              let e = same_line line first (join_with_byte 10 (next ∷ lines)) behind all.0 (first_stays first order is_first) same in
              let q : None ≡ Some order = sym is ∙ ap order_of_line e ∙ order_again first order is_first in cc),
        )
    by_order (Some order) is failed =
        let behind = lines_fail (next ∷ lines) (record { limit = limit; order = order; events = [] }) 2 fault all.1 (λ e. cc) (starts limit) failed in
        inr (record {
          front = behind.front;
          rest = behind.rest;
          order = order;
          first = line;
          is_first = order_is line order is;
          lines = ap (λ (xs : List ℕ). line ++ 10 ∷ xs) behind.lines;
          each = behind.each;
          within = behind.within;
          why = wrong_behind limit order behind.front behind.rest fault behind.why;
        })

pub fails : (limit : ℕ) (text : List ℕ) (fault : JournalFault) → journal_of limit text ≡ Err fault → IsFirstFault limit text fault
unfolding journal_of
fails limit text fault h = let P : List ℕ → Type 0 = λ xs. IsFirstFault limit xs fault in subst P (joined text) (text_fails limit (lines_of text) fault (apart text) h)

-- ---- the first wrong line is the fault

-- good lines are read
lines_past : (front : List Run) (j : JournalState) (n : ℕ) (rest : List ℕ) → AllByRecursion CanBeSpelled front → length (runs_of (j.events ++ events_of front)) ≤ j.limit
    → lines_read j n (lines_of (lines_of_runs front ++ rest)) ≡ lines_read (record { limit = j.limit; order = j.order; events = j.events ++ events_of front }) (n + length front) (lines_of rest)
lines_past [] j n rest each within = rw (append-nil, add-zero) refl
lines_past (run ∷ front) j n rest each within =
    let es : List Event = copies run.event run.count in
    let next : JournalState = record { limit = j.limit; order = j.order; events = j.events ++ es } in
    let regroup : (j.events ++ es) ++ events_of front ≡ j.events ++ (es ++ events_of front) = append_assoc j.events es (events_of front) in
    let le_all : length (runs_of ((j.events ++ es) ++ events_of front)) ≤ j.limit = rw regroup within in
    let le_next : length (runs_of (j.events ++ es)) ≤ j.limit = omega (arith, more_runs (j.events ++ es) (events_of front), le_all) in
    let text : lines_of_runs (run ∷ front) ++ rest ≡ line_text run ++ 10 ∷ (lines_of_runs front ++ rest) =
    ap (λ (xs : List ℕ). xs ++ rest) (append_assoc (line_text run) (10 ∷ []) (lines_of_runs front)) ∙ append_assoc (line_text run) (10 ∷ lines_of_runs front) rest in
    let lines : lines_of (lines_of_runs (run ∷ front) ++ rest) ≡ line_text run ∷ lines_of (lines_of_runs front ++ rest) = ap lines_of text ∙ lines_front (line_text run) (lines_of_runs front ++ rest) (line_stays run each.0) in
    let step : lines_read j n (line_text run ∷ lines_of (lines_of_runs front ++ rest)) ≡ lines_read next (n + 1) (lines_of (lines_of_runs front ++ rest)) =
    one_line j n (line_text run) (lines_of_runs front ++ rest) ∙ rw (line_again run each.0, fits j es le_next) refl in
    let count : (n + 1) + length front ≡ n + length (run ∷ front) = omega arith in
    ap (lines_read j n) lines ∙ step ∙ lines_past front next (n + 1) rest each.1 le_all
    ∙ ap (λ (xs : List Event). lines_read (record { limit = j.limit; order = j.order; events = xs }) ((n + 1) + length front) (lines_of rest)) regroup
    ∙ ap (λ (m : ℕ). lines_read (record { limit = j.limit; order = j.order; events = j.events ++ (es ++ events_of front) }) m (lines_of rest)) count

syntax_line : (j : JournalState) (n : ℕ) (rest : List ℕ) (lines : List (List ℕ)) → join_with_byte 10 lines ≡ rest → (rest ≡ [] → ⊥) → HasNoRun rest → lines_read j n lines ≡ Err (Syntax n)
syntax_line j n rest [] text some none = refl
syntax_line j n rest (line ∷ []) text some none =
    elim (cases_Bool (eqb (length line) 0)) [
      | inl empty ↦ absurd (some (sym text ∙ empty_is line empty))
      | inr other ↦ rw other refl
    ]
syntax_line j n rest (line ∷ next ∷ lines) text some none = by_option (run_of_line line) refl
  where
    by_option : (o : Option Run) → run_of_line line ≡ o → (or_fault (Syntax n) (run_of_line line) >>= λ run. appended j (copies run.event run.count) >>= λ more. lines_read more (n + 1) (next ∷ lines)) ≡ Err (Syntax n)
    by_option None is = rw is refl
    by_option (Some run) is =
        let spelled = line_is line run is in
        absurd (none run (join_with_byte 10 (next ∷ lines)) spelled.can (sym text ∙ ap (λ (xs : List ℕ). xs ++ 10 ∷ join_with_byte 10 (next ∷ lines)) spelled.text))

full_line : (j : JournalState) (n : ℕ) (rest behind : List ℕ) (run : Run) → CanBeSpelled run → rest ≡ line_text run ++ 10 ∷ behind → j.limit < length (runs_of (j.events ++ copies run.event run.count))
    → lines_read j n (lines_of rest) ≡ Err Full
full_line j n rest behind run can text over =
    let full : appended j (copies run.event run.count) ≡ Err Full = rw (lt-leb (length (runs_of (j.events ++ copies run.event run.count))) j.limit over) refl in
    ap (lines_read j n) (ap lines_of text ∙ lines_front (line_text run) behind (line_stays run can)) ∙ one_line j n (line_text run) behind ∙ rw (line_again run can, full) refl

wrong_is : (limit : ℕ) (order : Order) (front : List Run) (rest : List ℕ) (fault : JournalFault) → IsWrong limit front rest fault → lines_read (record { limit = limit; order = order; events = events_of front }) (2 + length front) (lines_of rest) ≡ Err fault
wrong_is limit order front rest NoMemory why = absurd why
wrong_is limit order front rest (Syntax line) why =
    let number : 2 + length front ≡ line = omega (arith, why.0) in
    syntax_line (record { limit = limit; order = order; events = events_of front }) (2 + length front) rest (lines_of rest) (joined rest) why.1 why.2 ∙ ap (λ (m : ℕ). Err (Syntax m)) number
wrong_is limit order front rest Full why =
    let all : events_of (front ++ why.0 ∷ []) ≡ events_of front ++ copies why.0.event why.0.count =
    events-append front (why.0 ∷ []) ∙ ap (λ (es : List Event). events_of front ++ es) (append-nil (copies why.0.event why.0.count)) in
    full_line (record { limit = limit; order = order; events = events_of front }) (2 + length front) rest why.1 why.0 why.2 why.3 (rw all at why.4)

failed_behind : (limit : ℕ) (text : List ℕ) (fault : JournalFault) → FailsBehind limit text fault → journal_of limit text ≡ Err fault
failed_behind limit text fault h =
    let behind : List ℕ = lines_of_runs h.front ++ h.rest in
    let lines : lines_of text ≡ h.first ∷ lines_of behind =
    ap lines_of h.lines ∙ lines_front h.first behind (first_stays h.first h.order h.is_first) in
    behind_first limit h.order text h.first behind (Some behind) lines refl (order_again h.first h.order h.is_first)
    ∙ lines_past h.front (record { limit = limit; order = h.order; events = [] }) 2 h.rest h.each h.within
    ∙ wrong_is limit h.order h.front h.rest fault h.why

no_first_line : (limit : ℕ) (lines : List (List ℕ)) → HasNoFirstLine (join_with_byte 10 lines) → journal_by_lines limit lines ≡ Err (Syntax 1)
no_first_line limit [] none = refl
no_first_line limit (line ∷ []) none = refl
no_first_line limit (line ∷ next ∷ lines) none = by_order (order_of_line line) refl
  where
    by_order : (o : Option Order) → order_of_line line ≡ o
        → (or_fault (Syntax 1) o >>= λ order. lines_read (record { limit = limit; order = order; events = [] }) 2 (next ∷ lines)) ≡ Err (Syntax 1)
    by_order None is = refl
    by_order (Some order) is = absurd (none order line (join_with_byte 10 (next ∷ lines)) (order_is line order is) refl)

pub failed : (limit : ℕ) (text : List ℕ) (fault : JournalFault) → IsFirstFault limit text fault → journal_of limit text ≡ Err fault
unfolding journal_of
failed limit text fault (inl h) =
    let none : HasNoFirstLine (join_with_byte 10 (lines_of text)) = rw joined h.1 in
    no_first_line limit (lines_of text) none ∙ ap (λ (f : JournalFault). Err f) (sym h.0)
failed limit text fault (inr h) = failed_behind limit text fault h
