-- Whether positions are stops, where a board plays on with a run.
use Rattle.std.proofs.Common.{◌≡◌, ◌⊎◌, ℕ, ◌+◌, ◌-◌, ◌<◌, ◌≤◌, List, refl, sym, ap, subst, ◌∙◌, arith}
use Rattle.std.proofs.lemmas.Bool.{false≢true}
use Rattle.std.specs.Prelude.{Bool, true, false, Decides, Option, Some, None, slice_get}
use Rattle.brd_board.specs.declared.event.Event.{Event}
use Rattle.brd_board.specs.declared.event.Report.{Report}
use Rattle.brd_board.specs.Board.{BoardState, Happened, happens}
use Rattle.brd_journal.specs.declared.run.Run.{Run}
use Rattle.brd_journal.specs.Playing.{board_at}
use Rattle.brd_journal.specs.Runs.{ComesBehind}
use Rattle.brd_journal.specs.Still.{does_no_more}
use Rattle.brd_journal.proofs.PlayingLemmas.{run-at, rest-board}
use Rattle.brd_debug.specs.declared.stops.Stops.{Stops}
use Rattle.brd_debug.specs.declared.look.Look.{Look}
use Rattle.brd_debug.specs.Debugger.{DebuggerState, shown, SeesAhead}
use Rattle.brd_debug.specs.Stops.{IsBreak, is_by, is_stepped, is_fault, is_done, Differs, Meets, StopsAt, IsStop, NoneFrom}
use Rattle.brd_debug.specs.Touching.{touches}
use Rattle.brd_debug.proofs.StillLemmas.{stops-none}

abbrev or-else : Option Event → Event → Event
or-else None other = other
or-else (Some e) other = e

-- what stops there is the event that is there
stop-here : (stops : Stops) (boot b : BoardState) (events : List Event) (at : ℕ) (e : Event) → b ≡ board_at boot events at →
    slice_get events at ≡ Some e → IsStop stops boot events at → StopsAt stops b e
stop-here stops boot b events at e is there stop =
    let same : stop.event ≡ e = ap (λ found. or-else found e) (sym stop.there ∙ there) in
    subst (λ x. StopsAt stops x e) (sym is) (subst (StopsAt stops (board_at boot events at)) same stop.stops_there)

-- what was seen of an event decides it
pub decides-stop : (stops : Stops) (boot b next : BoardState) (events : List Event) (at : ℕ) (e : Event) (told : Report) (found : Bool) →
    b ≡ board_at boot events at → slice_get events at ≡ Some e → told ≡ (happens b e).report → next ≡ (happens b e).board →
    Decides found (Meets stops e told b.memory (touches stops.reads stops.accesses b e) (is_by stops.stepper b e) next) →
    Decides found (IsStop stops boot events at)
decides-stop stops boot b next events at e told found is there tells gives seen =
    let decides : Decides found (StopsAt stops b e) =
    subst (λ (n : BoardState). Decides found (Meets stops e (happens b e).report b.memory (touches stops.reads stops.accesses b e)
    (is_by stops.stepper b e) n)) gives
    (subst (λ r. Decides found (Meets stops e r b.memory (touches stops.reads stops.accesses b e) (is_by stops.stepper b e) next)) tells seen) in (
      λ yes. record { event = e; there = there; stops_there = subst (λ x. StopsAt stops x e) is (decides.0 yes) },
      λ stop. decides.1 (stop-here stops boot b events at e is there stop),
    )

-- events that do nothing are no stops
pub none-after : (stops : Stops) (boot b : BoardState) (events : List Event) (at n : ℕ) (rest : Run) → b ≡ board_at boot events at →
    ComesBehind events at rest → (1 < n → does_no_more rest.event (happens b rest.event).report ≡ true) → n ≤ rest.count →
    NoneFrom (IsStop stops boot events) (at + 1) (at + n)
none-after stops boot b events at n rest is comes over few p above below stop =
    let here : at + (p - at) ≡ p = omega (arith, above) in
    let none : does_no_more rest.event (happens b rest.event).report ≡ true = over (omega (arith, above, below)) in
    stops-none stops b rest.event none (stop-here stops boot (happens b rest.event).board events p rest.event
    (sym (rest-board boot b events at (p - at) rest is comes none (omega (arith, above)) (omega (arith, above, below, few))) ∙ ap (board_at boot events) here)
    (sym (ap (slice_get events) here) ∙ run-at events at (p - at) rest comes (omega (arith, above, below, few))) stop)

-- what was seen ahead decides it

pub seen-stop : (stops : Stops) (boot : BoardState) (events : List Event) (at : ℕ) (e : Event) (told : Report) (next : BoardState) (found : Bool) →
    slice_get events at ≡ Some e → record { board = next; report = told } ≡ happens (board_at boot events at) e →
    Decides found (Meets stops e told (board_at boot events at).memory (touches stops.reads stops.accesses (board_at boot events at) e)
    (is_by stops.stepper (board_at boot events at) e) next) →
    Decides found (IsStop stops boot events at)
seen-stop stops boot events at e told next found there does seen =
    decides-stop stops boot (board_at boot events at) next events at e told found refl there (ap (λ (h : Happened). h.report) does)
    (ap (λ (h : Happened). h.board) does) seen

pub unseen-stop : (stops : Stops) (boot : BoardState) (events : List Event) (at : ℕ) → slice_get events at ≡ None → Decides false (IsStop stops boot events at)
unseen-stop stops boot events at none =
    (λ yes. absurd (false≢true yes), λ stop. let wrong : None ≡ Some stop.event = sym none ∙ stop.there in cc)

-- what was seen of an event, on the board that a debugger shows
pub sees-ahead : (d : DebuggerState) (b : BoardState) (look : Look) → b ≡ shown d → slice_get d.events d.position ≡ Some look.event →
    record { board = look.board; report = look.report } ≡ happens b look.event →
    look.stepped ≡ is_stepped d.stops.stepper look.event look.report (is_by d.stops.stepper b look.event) look.board →
    Decides look.breaks (IsBreak d.stops.breaks look.report) → look.faults ≡ is_fault d.stops.faults look.report →
    Decides look.touches (Differs d.stops.watches b.memory look.board.memory
    ⊎ (is_done (touches d.stops.reads d.stops.accesses b look.event) look.report ≡ true)) → SeesAhead d (Some look)
sees-ahead d b look is there does steps breaks faults touched = (
  there,
  subst (λ (x : BoardState). record { board = look.board; report = look.report } ≡ happens x look.event) is does,
  subst (λ (x : BoardState). look.stepped
      ≡ is_stepped d.stops.stepper look.event look.report (is_by d.stops.stepper x look.event) look.board) is steps,
  breaks,
  faults,
  subst (λ (x : BoardState). Decides look.touches (Differs d.stops.watches x.memory look.board.memory
      ⊎ (is_done (touches d.stops.reads d.stops.accesses x look.event) look.report ≡ true))) is touched,
)

-- and it meets the stops, so the debugger's position is one
pub seen-here : (d : DebuggerState) (stops : Stops) (b : BoardState) (found : Option Look) (look : Look) (met : Bool) → found ≡ Some look →
    SeesAhead d found → stops ≡ d.stops → b ≡ shown d → met ≡ true →
    Decides met (Meets stops look.event look.report b.memory (touches stops.reads stops.accesses b look.event)
    (is_by stops.stepper b look.event) look.board) →
    Decides true (IsStop d.stops d.boot d.events d.position)
seen-here d stops b found look met e sees same is so meets =
    let seen : SeesAhead d (Some look) = subst (SeesAhead d) e sees in
    seen-stop d.stops d.boot d.events d.position look.event look.report look.board true seen.0 seen.1
    (subst (λ known. Decides known (Meets d.stops look.event look.report (shown d).memory
    (touches d.stops.reads d.stops.accesses (shown d) look.event) (is_by d.stops.stepper (shown d) look.event) look.board)) so
    (subst (λ (x : BoardState). Decides met (Meets d.stops look.event look.report x.memory
    (touches d.stops.reads d.stops.accesses x look.event) (is_by d.stops.stepper x look.event) look.board)) is
    (subst (λ (s : Stops). Decides met (Meets s look.event look.report b.memory (touches s.reads s.accesses b look.event)
    (is_by s.stepper b look.event) look.board)) same meets)))
