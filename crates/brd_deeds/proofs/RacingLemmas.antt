-- The deeds of events, one after the other.
use Rattle.std.proofs.Common.{◌≡◌, ℕ, zero, suc, ◌+◌, ◌<◌, ◌≤◌, List, [], ◌∷◌, ◌++◌, length, length-append, length-take, take, drop, refl, sym, ap, ◌∙◌, arith, append_assoc}
use Rattle.std.proofs.lemmas.Bool.{false≢true}
use Rattle.std.proofs.lemmas.List.{append-nil}
use Rattle.std.proofs.Math.Seq.{take-add}
use Rattle.std.specs.Prelude.{Bool, true, false, Option, Some, None, Result, Ok, Err, IfErr, OnOk, if◌then◌else◌}
use Rattle.std.specs.List.{filter_map}
use Rattle.brd_config.specs.declared.objects.QueueConfig.{QueueConfig}
use Rattle.brd_board.specs.declared.event.Event.{Event}
use Rattle.brd_board.specs.declared.event.Event.TheVariants.{Step, Tick, Raise}
use Rattle.brd_board.specs.declared.event.Report.{Report}
use Rattle.brd_board.specs.declared.event.Report.TheVariants as report
use Rattle.brd_board.specs.Board.{BoardState, happens, after}
use Rattle.brd_journal.specs.declared.run.Run.{Run}
use Rattle.brd_journal.specs.Playing.{board_at}
use Rattle.brd_journal.specs.Runs.{copies, ComesBehind}
use Rattle.brd_journal.specs.Still.{did_nothing, does_no_more}
use Rattle.brd_journal.proofs.EventLemmas.{copies-suc, copies-zero}
use Rattle.brd_journal.proofs.StillLemmas.{happens-leaves}
use Rattle.brd_happening.specs.declared.before.Before.{Before}
use Rattle.brd_happening.specs.declared.release.Release.{Release}
use Rattle.brd_happening.specs.declared.happening.{Why.Why, Happening.Happening}
use Rattle.brd_happening.specs.declared.happening.What.TheVariants as what
use Rattle.brd_happening.specs.Before.{before_of}
use Rattle.brd_happening.specs.Release.{release_in}
use Rattle.brd_happening.specs.Happening.{happening_from, released_in, releases, processor_of, no_such}
use Rattle.brd_order.specs.declared.deed.Deed.{Deed}
use Rattle.brd_order.specs.declared.fault.OrderFault.{OrderFault}
use Rattle.brd_order.specs.declared.fault.OrderFault.TheVariants as fault
use Rattle.brd_order.specs.Refusals.{MayRefuse}
use Rattle.brd_deeds.specs.declared.past.{Stamp.Stamp, Trail.Trail, Past.Past}
use Rattle.brd_deeds.specs.declared.past.Trail.TheVariants as trail
use Rattle.brd_deeds.specs.declared.log.Log.{Log}
use Rattle.brd_deeds.specs.Past.{past_of, trail_in, with_trail, touches, stamped}
use Rattle.brd_deeds.specs.Trails.{loads_plainly, settled, settles_below}
use Rattle.brd_deeds.proofs.LoopLemmas.{settles-none, settles-one}
use Rattle.brd_deeds.specs.Deeds.{acts_at, all_released, strand_of, stamp_of, deeds_of, deeds_in, deeds_from, deeds_of_run, and_then}
use Rattle.brd_deeds.specs.Racing.{deeds_up_to}

-- no deed, and nothing new to remember
abbrev nothing : Past → Log
nothing past = record { past = past; deeds = [] }

-- an event that does nothing comes to no deed

acts-nothing : (stamp : Stamp) (cpu strand : Option ℕ) (why : Why) (b : BoardState) (log : Log) →
    acts_at stamp cpu strand (what.Nothing why) b log ≡ log
acts-nothing stamp None strand why b log = refl
acts-nothing stamp (Some cpu) None why b log = refl
acts-nothing stamp (Some cpu) (Some strand) why b log = refl

acts-no-such : (stamp : Stamp) (event : Event) (strand : Option ℕ) (b : BoardState) (log : Log) →
    acts_at stamp (processor_of event) strand (no_such event) b log ≡ log
acts-no-such stamp (Step cpu) None b log = refl
acts-no-such stamp (Step cpu) (Some strand) b log = refl
acts-no-such stamp Tick strand b log = refl
acts-no-such stamp (Raise line) strand b log = refl

-- what who executes does in what happened
abbrev acts_told : Stamp → Happening → BoardState → Log → Log
acts_told stamp h b log = acts_at stamp h.cpu (strand_of h.who) h.what b log

quiet-acts : (stamp : Stamp) (before : Before) (told : Report) (b : BoardState) (log : Log) → did_nothing told ≡ true →
    acts_told stamp (happening_from before told b) b log ≡ log
quiet-acts stamp before report.Off b log quiet = acts-nothing stamp _ _ _ b log
quiet-acts stamp before report.NoSuch b log quiet = acts-no-such stamp before.event _ b log
quiet-acts stamp before report.Stopped b log quiet = acts-nothing stamp _ _ _ b log
quiet-acts stamp before (report.Accepted line) b log quiet = absurd (false≢true quiet)
quiet-acts stamp before (report.Ran address) b log quiet = absurd (false≢true quiet)
quiet-acts stamp before (report.Called address) b log quiet = absurd (false≢true quiet)
quiet-acts stamp before (report.Faulted address) b log quiet = absurd (false≢true quiet)
quiet-acts stamp before report.Idle b log quiet = acts-nothing stamp _ _ _ b log
quiet-acts stamp before report.Ticked b log quiet = absurd (false≢true quiet)
quiet-acts stamp before report.TimeOver b log quiet = acts-nothing stamp _ _ _ b log
quiet-acts stamp before report.Raised b log quiet = absurd (false≢true quiet)

quiet-released : (before : Before) (told : Report) (b : BoardState) → did_nothing told ≡ true → released_in before told b ≡ []
quiet-released before report.Off b quiet = refl
quiet-released before report.NoSuch b quiet = refl
quiet-released before report.Stopped b quiet = refl
quiet-released before (report.Accepted line) b quiet = absurd (false≢true quiet)
quiet-released before (report.Ran address) b quiet = absurd (false≢true quiet)
quiet-released before (report.Called address) b quiet = absurd (false≢true quiet)
quiet-released before (report.Faulted address) b quiet = absurd (false≢true quiet)
quiet-released before report.Idle b quiet = refl
quiet-released before report.Ticked b quiet = absurd (false≢true quiet)
quiet-released before report.TimeOver b quiet = refl
quiet-released before report.Raised b quiet = absurd (false≢true quiet)

no-deeds : (position : ℕ) (h : Happening) (b : BoardState) (past : Past) → acts_told (stamp_of position h) h b (nothing past) ≡ nothing past →
    h.released ≡ [] → deeds_of position h b past ≡ nothing past
no-deeds position h b past acts released =
    ap (λ (log : Log). all_released (stamp_of position h) (strand_of h.who) h.released log) acts
    ∙ ap (λ (rs : List Release). all_released (stamp_of position h) (strand_of h.who) rs (nothing past)) released

quiet-none : (position : ℕ) (past : Past) (b : BoardState) (event : Event) → did_nothing (happens b event).report ≡ true →
    deeds_in position past b event ≡ nothing past
quiet-none position past b event quiet =
    let before = before_of b event in
    let h = happens b event in
    let told = happening_from before h.report h.board in
    no-deeds position told h.board past (quiet-acts (stamp_of position told) before h.report h.board (nothing past) quiet)
    (quiet-released before h.report h.board quiet)

both-none : (test : Bool) (b : BoardState) → (if test then filter_map (release_in b) [] else []) ≡ []
both-none true b = refl
both-none false b = refl

raise-none : (position : ℕ) (past : Past) (b : BoardState) (line : ℕ) → deeds_in position past b (Raise line) ≡ nothing past
raise-none position past b line =
    let before = before_of b (Raise line) in
    let h = happens b (Raise line) in
    no-deeds position (happening_from before h.report h.board) h.board past refl (both-none (releases b.kernel.standard h.report) h.board)

-- nor do the same events after it that do nothing

then-nothing : (log : Log) → and_then log (nothing log.past) ≡ log
then-nothing log = ap (λ (ds : List Deed). record { past = log.past; deeds = ds }) (append-nil log.deeds)

-- an event that comes to nothing, and those after it
none-first : (position : ℕ) (past : Past) (b : BoardState) (event : Event) (n : ℕ) → deeds_in position past b event ≡ nothing past →
    deeds_from position past b (copies event (suc n)) ≡ and_then (nothing past) (deeds_from (position + 1) past (happens b event).board (copies event n))
none-first position past b event n none =
    ap (deeds_from position past b) (copies-suc event n)
    ∙ ap (λ (log : Log). and_then log (deeds_from (position + 1) log.past (happens b event).board (copies event n))) none

raises-none : (n position : ℕ) (past : Past) (b : BoardState) (line : ℕ) → deeds_from position past b (copies (Raise line) n) ≡ nothing past
raises-none zero position past b line = ap (deeds_from position past b) (copies-zero (Raise line))
raises-none (suc n) position past b line =
    none-first position past b (Raise line) n (raise-none position past b line)
    ∙ ap (λ (log : Log). and_then (nothing past) log) (raises-none n (position + 1) past (happens b (Raise line)).board line)

quiets-none : (n position : ℕ) (past : Past) (b : BoardState) (event : Event) → did_nothing (happens b event).report ≡ true →
    deeds_from position past b (copies event n) ≡ nothing past
quiets-none zero position past b event quiet = ap (deeds_from position past b) (copies-zero event)
quiets-none (suc n) position past b event quiet =
    none-first position past b event n (quiet-none position past b event quiet)
    ∙ ap (λ (x : BoardState). and_then (nothing past) (deeds_from (position + 1) past x (copies event n))) (happens-leaves b event quiet)
    ∙ ap (λ (log : Log). and_then (nothing past) log) (quiets-none n (position + 1) past b event quiet)

still-none : (n position : ℕ) (past : Past) (b : BoardState) (event : Event) → does_no_more event (happens b event).report ≡ true →
    deeds_from position past (happens b event).board (copies event n) ≡ nothing past
still-none n position past b (Raise line) over = raises-none n position past (happens b (Raise line)).board line
still-none n position past b (Step cpu) over =
    ap (λ (x : BoardState). deeds_from position past x (copies (Step cpu) n)) (happens-leaves b (Step cpu) over)
    ∙ quiets-none n position past b (Step cpu) over
still-none n position past b Tick over =
    ap (λ (x : BoardState). deeds_from position past x (copies Tick n)) (happens-leaves b Tick over) ∙ quiets-none n position past b Tick over

-- a stretch of events of which those after the first do nothing has the deeds of the first
stretch-deeds : (n position : ℕ) (past : Past) (b : BoardState) (event : Event) → 1 ≤ n →
    (1 < n → does_no_more event (happens b event).report ≡ true) → deeds_from position past b (copies event n) ≡ deeds_in position past b event
stretch-deeds zero position past b event some over = absurd (omega (arith, some))
stretch-deeds (suc zero) position past b event some over =
    let first = deeds_in position past b event in
    ap (deeds_from position past b) (copies-suc event 0)
    ∙ ap (λ (es : List Event). and_then first (deeds_from (position + 1) first.past (happens b event).board es)) (copies-zero event)
    ∙ then-nothing first
stretch-deeds (suc (suc n)) position past b event some over =
    let first = deeds_in position past b event in
    ap (deeds_from position past b) (copies-suc event (suc n))
    ∙ ap (λ (log : Log). and_then first log) (still-none (suc n) (position + 1) first.past b event (over (omega arith)))
    ∙ then-nothing first

-- lists of events

then-assoc : (a b c : Log) → and_then a (and_then b c) ≡ and_then (and_then a b) c
then-assoc a b c = ap (λ (ds : List Deed). record { past = c.past; deeds = ds }) (sym (append_assoc a.deeds b.deeds c.deeds))

deeds-append : (xs ys : List Event) (position : ℕ) (past : Past) (b : BoardState) →
    deeds_from position past b (xs ++ ys)
    ≡ and_then (deeds_from position past b xs) (deeds_from (position + length xs) (deeds_from position past b xs).past (after b xs) ys)
deeds-append [] ys position past b = let same : position ≡ position + 0 = omega arith in ap (λ n. deeds_from n past b ys) same
deeds-append (x ∷ xs) ys position past b =
    let same : position + 1 + length xs ≡ position + suc (length xs) = omega arith in
    let first = deeds_in position past b x in
    let next = (happens b x).board in
    let front = deeds_from (position + 1) first.past next xs in
    ap (λ (log : Log). and_then first log) (deeds-append xs ys (position + 1) first.past next)
    ∙ ap (λ n. and_then first (and_then front (deeds_from n front.past (after next xs) ys))) same
    ∙ then-assoc first front (deeds_from (position + suc (length xs)) front.past (after next xs) ys)

take-copies : (e : Event) (n count : ℕ) (more : List Event) → n ≤ count → take n (copies e count ++ more) ≡ copies e n
unfolding copies
take-copies e zero count more few = refl
take-copies e (suc n) zero more few = absurd (omega (arith, few))
take-copies e (suc n) (suc count) more few = ap (λ es. e ∷ es) (take-copies e n count more (omega (arith, few)))

take-run : (events : List Event) (at n : ℕ) (rest : Run) → ComesBehind events at rest → n ≤ rest.count → take (at + n) events ≡ take at events ++ copies rest.event n
take-run events at n rest comes few =
    take-add at n events ∙ ap (λ es. take at events ++ es) (ap (take n) comes.1 ∙ take-copies rest.event n rest.count (drop (at + rest.count) events) few)

-- the deeds up to a position after a stretch
pub deeds-on : (queues : List QueueConfig) (boot b : BoardState) (events : List Event) (at n : ℕ) (rest : Run) → b ≡ board_at boot events at →
    at ≤ length events → ComesBehind events at rest → 1 ≤ n → n ≤ rest.count → (1 < n → does_no_more rest.event (happens b rest.event).report ≡ true) →
    deeds_up_to queues boot events (at + n)
    ≡ and_then (deeds_up_to queues boot events at) (deeds_in at (deeds_up_to queues boot events at).past b rest.event)
deeds-on queues boot b events at n rest is within comes some few over =
    let len : 0 + length (take at events) ≡ at = omega (arith, length-take at events) in
    let old = deeds_up_to queues boot events at in
    ap (deeds_from 0 (past_of queues) boot) (take-run events at n rest comes few)
    ∙ deeds-append (take at events) (copies rest.event n) 0 (past_of queues) boot
    ∙ ap (λ k. and_then old (deeds_from k old.past (after boot (take at events)) (copies rest.event n))) len
    ∙ ap (λ (x : BoardState). and_then old (deeds_from at old.past x (copies rest.event n))) (sym is)
    ∙ ap (λ (log : Log). and_then old log) (stretch-deeds n at old.past b rest.event some over)

-- what was read of the board, and what is told by it
pub deeds-told : (b : BoardState) (event : Event) (position : ℕ) (past old : Past) (before : Before) (told : Report) (next : BoardState) (it : Happening)
    (log : Log) → before ≡ before_of b event → told ≡ (happens b event).report → next ≡ (happens b event).board → it ≡ happening_from before told next →
    past ≡ old → log ≡ deeds_of position it next past → log ≡ deeds_in position old b event
deeds-told b event position past old before told next it log read reports leaves is remembers gives =
    gives
    ∙ ap (λ (p : Past). deeds_of position it next p) remembers
    ∙ ap (λ (h : Happening). deeds_of position h next old) is
    ∙ ap (λ (x : Before). deeds_of position (happening_from x told next) next old) read
    ∙ ap (λ (x : Report). deeds_of position (happening_from (before_of b event) x next) next old) reports
    ∙ ap (λ (x : BoardState). deeds_of position (happening_from (before_of b event) (happens b event).report x) x old) leaves

-- the end of a run

-- deeds before those of a log
abbrev behind : List Deed → Log → Log
behind front log = record { past = log.past; deeds = front ++ log.deeds }

plain-after : (strand : ℕ) (is : Trail) (front : List Deed) (log : Log) →
    with_trail strand trail.Nothing (loads_plainly strand is (behind front log))
    ≡ behind front (with_trail strand trail.Nothing (loads_plainly strand is log))
plain-after strand trail.Nothing front log = refl
plain-after strand trail.Synced front log = refl
plain-after strand (trail.Loaded touch loaded) front log =
    let more = stamped loaded (touches strand touch) ∷ [] in
    ap (λ (ds : List Deed). with_trail strand trail.Nothing (record { past = log.past; deeds = ds })) (append_assoc front log.deeds more)

settles-after : (n : ℕ) (front : List Deed) (log : Log) → settles_below n (behind front log) ≡ behind front (settles_below n log)
settles-after zero front log = sym (settles-none (behind front log)) ∙ ap (behind front) (settles-none log)
settles-after (suc n) front log =
    let before = settles_below n log in
    sym (settles-one n (behind front log)) ∙ ap (settled n) (settles-after n front log)
    ∙ plain-after n (trail_in before.past n) front before ∙ ap (behind front) (settles-one n log)

plain-more : (strand : ℕ) (is : Trail) (log : Log) → length log.deeds ≤ length (loads_plainly strand is log).deeds
plain-more strand trail.Nothing log = omega arith
plain-more strand trail.Synced log = omega arith
plain-more strand (trail.Loaded touch loaded) log =
    let more = stamped loaded (touches strand touch) ∷ [] in omega (arith, length-append log.deeds more)

settles-more : (n : ℕ) (log : Log) → length log.deeds ≤ length (settles_below n log).deeds
settles-more zero log = omega (arith, ap (λ (it : Log). length it.deeds) (settles-none log))
settles-more (suc n) log =
    let before = settles_below n log in
    omega (arith, settles-more n log, plain-more n (trail_in before.past n) before, ap (λ (it : Log). length it.deeds) (settles-one n log))

-- the deeds of a run are those of its events, and then those of its end
pub run-deeds : (queues : List QueueConfig) (boot : BoardState) (events : List Event) (at : ℕ) (past : Past) (log : Log) →
    past ≡ (deeds_up_to queues boot events at).past → log ≡ settles_below 416 (nothing past) →
    deeds_of_run queues boot (take at events) ≡ (deeds_up_to queues boot events at).deeds ++ log.deeds
run-deeds queues boot events at past log is ends =
    let old = deeds_up_to queues boot events at in
    ap (λ (it : Log). (settles_below 416 it).deeds) (sym (then-nothing old))
    ∙ ap (λ (it : Log). it.deeds) (settles-after 416 old.deeds (nothing old.past))
    ∙ ap (λ (p : Past). old.deeds ++ (settles_below 416 (nothing p)).deeds) (sym is)
    ∙ ap (λ (it : Log). old.deeds ++ it.deeds) (sym ends)

-- the deeds of its events are no more
pub run-more : (queues : List QueueConfig) (boot : BoardState) (events : List Event) (at : ℕ) →
    length (deeds_up_to queues boot events at).deeds ≤ length (deeds_of_run queues boot (take at events))
run-more queues boot events at = settles-more 416 (deeds_up_to queues boot events at)

-- what holds of a success holds together
pub on_ok_both : {A E : Type 0} (P Q : Type 0) (r : Result A E) → OnOk r P → OnOk r Q → OnOk r (P × Q)
on_ok_both P Q (Ok x) p q = (p, q)
on_ok_both P Q (Err e) p q = tt

-- a deed that may be refused after some deeds may be refused after more
pub refuses-later : (n m : ℕ) (fault : OrderFault) → n ≤ m → MayRefuse n fault → MayRefuse m fault
refuses-later n m fault.NoMemory more may = tt
refuses-later n m fault.TooManyTouches more may = omega (arith, more, may)
refuses-later n m fault.TooManyThings more may = omega (arith, more, may)
refuses-later n m fault.TooManyDeeds more may = omega (arith, more, may)

pub if_err_weaker : {A E : Type 0} {P Q : E → Type 0} (r : Result A E) → ((e : E) → P e → Q e) → IfErr r P → IfErr r Q
if_err_weaker (Ok x) weaker p = tt
if_err_weaker (Err e) weaker p = weaker e p
