-- The points of events, one after the other.
use Rattle.std.proofs.Common.{◌≡◌, ℕ, zero, suc, ◌+◌, ◌<◌, ◌≤◌, List, [], ◌∷◌, ◌++◌, length, length-take, take, drop, refl, sym, ap, ◌∙◌, arith, append_assoc}
use Rattle.std.proofs.lemmas.Bool.{false≢true}
use Rattle.std.proofs.lemmas.List.{append-nil}
use Rattle.std.proofs.Math.Seq.{take-add}
use Rattle.std.specs.Prelude.{true, false, ◌||◌, Option, Some, None, is_some}
use Rattle.std.specs.List.{cons_option, slice_get, AllByRecursion}
use Rattle.brd_board.specs.declared.event.Event.{Event}
use Rattle.brd_board.specs.declared.event.Event.TheVariants.{Step, Tick, Raise}
use Rattle.brd_board.specs.declared.event.Report.{Report}
use Rattle.brd_board.specs.declared.event.Report.TheVariants as report
use Rattle.brd_board.specs.Board.{BoardState, happens, after}
use Rattle.brd_journal.specs.declared.run.Run.{Run}
use Rattle.brd_journal.specs.Playing.{board_at}
use Rattle.brd_journal.specs.Runs.{copies, ComesBehind}
use Rattle.brd_journal.specs.Still.{did_nothing, does_no_more}
use Rattle.brd_journal.proofs.EventLemmas.{copies-suc, copies-zero}
use Rattle.brd_journal.proofs.StillLemmas.{happens-leaves}
use Rattle.brd_happening.specs.declared.before.Before.{Before}
use Rattle.brd_happening.specs.declared.found.Found.{Found}
use Rattle.brd_happening.specs.declared.happening.{What.What, Happening.Happening}
use Rattle.brd_happening.specs.Before.{before_of}
use Rattle.brd_happening.specs.Happening.{happening_from, no_such}
use Rattle.brd_stacks.specs.declared.stack.Point.{Point}
use Rattle.brd_stacks.specs.declared.track.Track.{Track}
use Rattle.brd_stacks.specs.Depths.{Follows, OverflowOf, some_overflow}
use Rattle.brd_stacks.specs.Points.{point_by, point_at, point_if, point_of, points_in, points_from, strand_of}

-- before anything has happened no store below a stack is told

no-point : (k : ℕ) (p : Point) → slice_get [] k ≡ Some p → ⊥
no-point k p e = cc

none-told : (track : Track) (o : Option Point) → OverflowOf track.stack [] o → is_some o ≡ false
none-told track None over = refl
none-told track (Some p) over = absurd (no-point over.k p over.over.is)

pub calm-first : (tracks : List Track) → AllByRecursion (Follows []) tracks → some_overflow tracks ≡ false
calm-first [] all = refl
calm-first (track ∷ tracks) all =
    ap (λ b. b || some_overflow tracks) (none-told track track.overflow all.0.overflow) ∙ calm-first tracks all.1

-- an event that does nothing comes to no point

strand-none : (position : ℕ) (found : Found) (strand : Option ℕ) (it : What) → ((s : ℕ) (f : Found) → point_by position s f it ≡ None) →
    point_at position found strand it ≡ None
strand-none position found None it none = refl
strand-none position found (Some s) it none = none s found

point-none : (position : ℕ) (found : Option Found) (it : What) → ((s : ℕ) (f : Found) → point_by position s f it ≡ None) → point_if position found it ≡ None
point-none position None it none = refl
point-none position (Some f) it none = strand-none position f (strand_of f.who) it none

no-such-none : (position : ℕ) (event : Event) (s : ℕ) (f : Found) → point_by position s f (no_such event) ≡ None
no-such-none position (Step cpu) s f = refl
no-such-none position Tick s f = refl
no-such-none position (Raise line) s f = refl

quiet-point : (position : ℕ) (before : Before) (told : Report) (b : BoardState) → did_nothing told ≡ true → point_of position before (happening_from before told b) ≡ None
quiet-point position before report.Off b quiet = point-none position before.found _ (λ s f. refl)
quiet-point position before report.NoSuch b quiet = point-none position before.found _ (no-such-none position before.event)
quiet-point position before report.Stopped b quiet = point-none position before.found _ (λ s f. refl)
quiet-point position before (report.Accepted line) b quiet = absurd (false≢true quiet)
quiet-point position before (report.Ran address) b quiet = absurd (false≢true quiet)
quiet-point position before (report.Called address) b quiet = absurd (false≢true quiet)
quiet-point position before (report.Faulted address) b quiet = absurd (false≢true quiet)
quiet-point position before report.Idle b quiet = point-none position before.found _ (λ s f. refl)
quiet-point position before report.Ticked b quiet = absurd (false≢true quiet)
quiet-point position before report.TimeOver b quiet = point-none position before.found _ (λ s f. refl)
quiet-point position before report.Raised b quiet = absurd (false≢true quiet)

quiet-none : (position : ℕ) (b : BoardState) (event : Event) → did_nothing (happens b event).report ≡ true → points_in position b event ≡ []
quiet-none position b event quiet =
    let h = happens b event in
    ap (λ (o : Option Point). cons_option o []) (quiet-point position (before_of b event) h.report h.board quiet)

raise-none : (position : ℕ) (b : BoardState) (line : ℕ) → points_in position b (Raise line) ≡ []
raise-none position b line = refl

-- nor do the same events after it that do nothing

raises-none : (n position : ℕ) (b : BoardState) (line : ℕ) → points_from position b (copies (Raise line) n) ≡ []
raises-none zero position b line = ap (points_from position b) (copies-zero (Raise line))
raises-none (suc n) position b line =
    ap (points_from position b) (copies-suc (Raise line) n)
    ∙ ap (λ (ds : List Point). ds ++ points_from (position + 1) (happens b (Raise line)).board (copies (Raise line) n)) (raise-none position b line)
    ∙ raises-none n (position + 1) (happens b (Raise line)).board line

quiets-none : (n position : ℕ) (b : BoardState) (event : Event) → did_nothing (happens b event).report ≡ true → points_from position b (copies event n) ≡ []
quiets-none zero position b event quiet = ap (points_from position b) (copies-zero event)
quiets-none (suc n) position b event quiet =
    ap (points_from position b) (copies-suc event n)
    ∙ ap (λ (ds : List Point). ds ++ points_from (position + 1) (happens b event).board (copies event n)) (quiet-none position b event quiet)
    ∙ ap (λ (x : BoardState). points_from (position + 1) x (copies event n)) (happens-leaves b event quiet)
    ∙ quiets-none n (position + 1) b event quiet

still-none : (n position : ℕ) (b : BoardState) (event : Event) → does_no_more event (happens b event).report ≡ true →
    points_from position (happens b event).board (copies event n) ≡ []
still-none n position b (Raise line) over = raises-none n position (happens b (Raise line)).board line
still-none n position b (Step cpu) over =
    ap (λ (x : BoardState). points_from position x (copies (Step cpu) n)) (happens-leaves b (Step cpu) over) ∙ quiets-none n position b (Step cpu) over
still-none n position b Tick over =
    ap (λ (x : BoardState). points_from position x (copies Tick n)) (happens-leaves b Tick over) ∙ quiets-none n position b Tick over

-- a stretch of events of which those after the first do nothing has the points of the first
stretch-points : (n position : ℕ) (b : BoardState) (event : Event) → 1 ≤ n → (1 < n → does_no_more event (happens b event).report ≡ true) →
    points_from position b (copies event n) ≡ points_in position b event
stretch-points zero position b event some over = absurd (omega (arith, some))
stretch-points (suc zero) position b event some over =
    ap (points_from position b) (copies-suc event 0)
    ∙ ap (λ (es : List Event). points_in position b event ++ points_from (position + 1) (happens b event).board es) (copies-zero event)
    ∙ append-nil (points_in position b event)
stretch-points (suc (suc n)) position b event some over =
    ap (points_from position b) (copies-suc event (suc n))
    ∙ ap (λ (ds : List Point). points_in position b event ++ ds) (still-none (suc n) (position + 1) b event (over (omega arith)))
    ∙ append-nil (points_in position b event)

-- lists of events

points-append : (xs ys : List Event) (position : ℕ) (b : BoardState) →
    points_from position b (xs ++ ys) ≡ points_from position b xs ++ points_from (position + length xs) (after b xs) ys
points-append [] ys position b = let same : position ≡ position + 0 = omega arith in ap (λ n. points_from n b ys) same
points-append (x ∷ xs) ys position b =
    let same : position + 1 + length xs ≡ position + suc (length xs) = omega arith in
    ap (λ (ds : List Point). points_in position b x ++ ds) (points-append xs ys (position + 1) (happens b x).board)
    ∙ ap (λ n. points_in position b x ++ (points_from (position + 1) (happens b x).board xs ++ points_from n (after (happens b x).board xs) ys)) same
    ∙ sym (append_assoc (points_in position b x) (points_from (position + 1) (happens b x).board xs) (points_from (position + suc (length xs)) (after (happens b x).board xs) ys))

take-copies : (e : Event) (n count : ℕ) (more : List Event) → n ≤ count → take n (copies e count ++ more) ≡ copies e n
unfolding copies
take-copies e zero count more few = refl
take-copies e (suc n) zero more few = absurd (omega (arith, few))
take-copies e (suc n) (suc count) more few = ap (λ es. e ∷ es) (take-copies e n count more (omega (arith, few)))

take-run : (events : List Event) (at n : ℕ) (rest : Run) → ComesBehind events at rest → n ≤ rest.count → take (at + n) events ≡ take at events ++ copies rest.event n
take-run events at n rest comes few =
    take-add at n events ∙ ap (λ es. take at events ++ es) (ap (take n) comes.1 ∙ take-copies rest.event n rest.count (drop (at + rest.count) events) few)

-- the points up to a position after a stretch
pub points-on : (boot b : BoardState) (events : List Event) (at n : ℕ) (rest : Run) → b ≡ board_at boot events at → at ≤ length events → ComesBehind events at rest →
    1 ≤ n → n ≤ rest.count → (1 < n → does_no_more rest.event (happens b rest.event).report ≡ true) →
    points_from 0 boot (take (at + n) events) ≡ points_from 0 boot (take at events) ++ points_in at b rest.event
points-on boot b events at n rest is within comes some few over =
    let len : 0 + length (take at events) ≡ at = omega (arith, length-take at events) in
    ap (points_from 0 boot) (take-run events at n rest comes few)
    ∙ points-append (take at events) (copies rest.event n) 0 boot
    ∙ ap (λ k. points_from 0 boot (take at events) ++ points_from k (after boot (take at events)) (copies rest.event n)) len
    ∙ ap (λ (x : BoardState). points_from 0 boot (take at events) ++ points_from at x (copies rest.event n)) (sym is)
    ∙ ap (λ (ds : List Point). points_from 0 boot (take at events) ++ ds) (stretch-points n at b rest.event some over)

-- what was read of the board, and what is told by it
pub points-told : (b : BoardState) (event : Event) (position : ℕ) (before : Before) (told : Report) (next : BoardState) (it : Happening) (point : Option Point) →
    before ≡ before_of b event → told ≡ (happens b event).report → next ≡ (happens b event).board → it ≡ happening_from before told next →
    point ≡ point_of position before it → cons_option point [] ≡ points_in position b event
points-told b event position before told next it point read reports leaves is gives =
    ap (λ (o : Option Point). cons_option o []) (
    gives
    ∙ ap (λ (h : Happening). point_of position before h) is
    ∙ ap (λ (x : Before). point_of position x (happening_from x told next)) read
    ∙ ap (λ (x : Report). point_of position (before_of b event) (happening_from (before_of b event) x next)) reports
    ∙ ap (λ (x : BoardState). point_of position (before_of b event) (happening_from (before_of b event) (happens b event).report x)) leaves
    )
