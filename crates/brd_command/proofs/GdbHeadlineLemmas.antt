-- From an object file that `asm` wrote to what GDB reads of it.
use Rattle.std.proofs.Common.{◌≡◌, ℕ, ◌+◌, ◌<◌, ◌≤◌, List, [], ◌∷◌, ◌++◌, length, Bool, true, false, refl, sym, ap}
use Rattle.std.proofs.Common.{subst, ◌∙◌, inl, inr, arith, append_assoc}
use Rattle.std.specs.Prelude.{◌-◌, min, not, ◌&&◌, ◌||◌, nat_le, if◌then◌else◌, slice_index_or, Option, Some, None}
use Rattle.std.specs.Prelude.{IfSome, Result, Ok, Err}
use Rattle.std.specs.Io.KnownBytes.{Appends}
use Rattle.std.proofs.lemmas.Bool.{leb-true, leb-false}
use Rattle.std.proofs.Math.Nat.{le-min, min-le_left, min-le_right}
use Rattle.std.proofs.lemmas.List.{append-nil}
use Rattle.brd_board.specs.declared.event.Event.{Event}
use Rattle.brd_debug.specs.Debugger.{DebuggerState, shown}
use Rattle.brd_debug.specs.declared.look.Look.{Look}
use Rattle.brd_gdb.specs.Reading.{request_of}
use Rattle.brd_gdb.specs.Receiving.{arrival, next}
use Rattle.brd_gdb.specs.declared.receiver.Arrival.{Arrival}
use Rattle.brd_gdb.specs.declared.receiver.Arrival.TheVariants.{Packet, TooLong, Damaged}
use Rattle.brd_gdb.specs.declared.request.Monitor.TheVariants.{Goto, Threads, Mark, Back, MarkByName, GotoName}
use Rattle.brd_gdb.specs.declared.request.Move.{Move}
use Rattle.brd_gdb.specs.declared.request.Request.{Request}
use Rattle.brd_gdb.specs.declared.request.ThreadKind.{ThreadKind}
use Rattle.brd_gdb.specs.declared.request.Request.TheVariants.{StartNoAckMode, Detach, Kill, KillProcess}
use Rattle.brd_gdb.specs.declared.request.Request.TheVariants.{Forward, BackwardContinue, BackwardStep, Monitor}
use Rattle.brd_gdb.specs.declared.request.Request.TheVariants.{SetThread, IsAlive, SetPoint, ClearPoint}
use Rattle.brd_gdb.specs.declared.request.Request.TheVariants.{ReadRegisters, ReadRegister, ReadMemory}
use Rattle.brd_image.specs.Headline.{Starts}
use Rattle.brd_inputs.specs.Start.{IsStart}
use Rattle.brd_inputs.specs.declared.fault.CommandFault.{CommandFault}
use Rattle.brd_inputs.specs.declared.fault.CommandFault.TheVariants.{NoMemory, Read, TooManyReads, Write}
use Rattle.brd_inputs.specs.declared.start.Start.{Start}
use Rattle.brd_report.specs.Output.{AppendsFront, Writes, WritesFront}
use Rattle.brd_running.specs.AsmCommand.{IsObjectFile}
use Rattle.brd_running.specs.Debugging.{debugger_of}
use Rattle.brd_stub.specs.Answers.{Becomes, MovesForward, Stops, gone_to_some, may_move, showing, whose_of, with_threads}
use Rattle.brd_stub.specs.Marks.{mark_of}
use Rattle.brd_stub.specs.Moving.{Ended, EndsBehind, GoesBack, GoesForward, GoesOn, StopsBehind}
use Rattle.brd_stub.specs.Moving.{after_next, is_told_behind, moved_to, of_all, passes, shows, stand, stand_behind}
use Rattle.brd_stub.specs.Moving.{stands_before, stands_behind, step_done, stepping}
use Rattle.brd_stub.specs.Selecting.{stepping_of}
use Rattle.brd_stub.specs.Stepping.{stepped_by, stepper_back}
use Rattle.brd_stub.specs.Threads.{may_show}
use Rattle.brd_stub.specs.Moving.EndsBehind.{back, none, early as ends_early}
use Rattle.brd_stub.specs.Moving.GoesBack.{back_to, to_begin, early as back_early}
use Rattle.brd_stub.specs.Moving.GoesForward.{here, on}
use Rattle.brd_stub.specs.Moving.GoesOn.{ahead, end, early as goes_early}
use Rattle.brd_stub.specs.declared.halt.Told.{Told}
use Rattle.brd_stub.specs.declared.halt.Told.TheVariants as told
use Rattle.brd_stub.specs.declared.points.Point.{Point}
use Rattle.brd_stub.specs.declared.session.Session.{Session}
use Rattle.brd_stub.specs.declared.stepping.Stepped.{Stepped}
use Rattle.brd_stub.specs.declared.threads.Whose.{Whose}
use Rattle.brd_command.specs.GdbCommand.{EndsServing, GdbEnds, ServesCutShort, ServesFirst, StopsServing}
use Rattle.brd_command.specs.GdbHeadline.{ByteLeads, HasShown, IsRead, Leads, LeadsOn, LeadsTo, LeadsToSome, ReadsHeadline}
use Rattle.brd_command.specs.GdbHeadline.{ShowsAnswers, ShowsFirstAnswers, ShowsUpToEnd, position_of}
use Rattle.brd_command.specs.GdbHeadline.HasShown.{nothing_yet, one_more}
use Rattle.brd_command.specs.Laws.{IsAssembled, StandsAt}
use Rattle.brd_command.specs.Serving.{AddsAnswer, AnswersArrival, AnswersPacket, HasServed, IsReady, Serves, accepted}
use Rattle.brd_command.specs.Serving.HasServed.{nothing_yet as none_served, one_more as one_more_served}
use Rattle.brd_command.specs.declared.gdb_server.Server.{Server}
use Rattle.brd_command.proofs.HeadlineLemmas.{IsOf, stands, starts, written_file}

-- ---- where a move ends

-- a debugger has gone to another position of its events, and has the same boot
pub record HasGone (d gone : DebuggerState) : Type 0 where
  pub boot : gone.boot ≡ d.boot
  pub events : gone.events ≡ d.events
  pub within : gone.position ≤ length d.events

pub record HasGoneOn (d gone : DebuggerState) : Type 0 where
  pub has : HasGone d gone
  pub later : d.position ≤ gone.position

pub record HasGoneBack (d gone : DebuggerState) : Type 0 where
  pub has : HasGone d gone
  pub earlier : gone.position ≤ d.position

on_to : (d : DebuggerState) (n : ℕ) → d.position ≤ n → n ≤ length d.events → HasGoneOn d (moved_to d n)
on_to d n later within = record { has = record { boot = refl; events = refl; within = within }; later = later }

on_here : (d : DebuggerState) → d.position ≤ length d.events → HasGoneOn d d
on_here d within = record { has = record { boot = refl; events = refl; within = within }; later = omega arith }

back_at : (d : DebuggerState) (n : ℕ) → d.position ≤ length d.events → n ≤ d.position → HasGoneBack d (moved_to d n)
back_at d n within below = record {
  has = record { boot = refl; events = refl; within = omega (arith, within, below) };
  earlier = below;
}

one_of : {A : Type 0} (P : A → Type 0) (test : Bool) (a b : A) → P a → P b → P (if test then a else b)
one_of P true a b first other = first
one_of P false a b first other = other

-- it stands at a position, or after the event there
stands_on : (points : List Point) (last : Whose) (it : Told) (look : Option Look) (d : DebuggerState)
    → d.position ≤ length d.events → HasGoneOn d (stand points last it look d).debugger
stands_on points last it None d within = on_here d within
stands_on points last it (Some look) d within =
    let low : d.position ≤ min (d.position + 1) (length d.events) = le-min (omega arith) within in
    one_of (λ (e : Ended). HasGoneOn d e.debugger) (shows it look) (stands_before points last it false look d)
    (step_done last (after_next d)) (on_here d within)
    (on_to d (min (d.position + 1) (length d.events)) low (min-le_right (d.position + 1) (length d.events)))

-- first to a position, and then on
then_on : (d gone : DebuggerState) (n : ℕ) → d.position ≤ n → HasGoneOn (moved_to d n) gone → HasGoneOn d gone
then_on d gone n from it = record {
  has = record { boot = it.has.boot; events = it.has.events; within = it.has.within };
  later = omega (arith, from, it.later);
}

ended_on : (d : DebuggerState) (e same : Ended) → e ≡ same → HasGoneOn d same.debugger → HasGoneOn d e.debugger
ended_on d e same is it = subst (λ (x : Ended). HasGoneOn d x.debugger) (sym is) it

goes_on : (points : List Point) (last : Whose) (d : DebuggerState) (e : Ended) → d.position ≤ length d.events
    → GoesOn points last d e → HasGoneOn d e.debugger
goes_on points last d e within (ahead found least stands) =
    then_on d e.debugger found (omega (arith, least.0))
    (ended_on (moved_to d found) e (stand points last told.Nothing stands.look (moved_to d found)) stands.stands
    (stands_on points last told.Nothing stands.look (moved_to d found) (omega (arith, least.1))))
goes_on points last d e within (end nothing is) =
    subst (λ (x : Ended). HasGoneOn d x.debugger) (sym is) (on_to d (length d.events) within (omega arith))
goes_on points last d e within (goes_early at passed is) =
    subst (λ (x : Ended). HasGoneOn d x.debugger) (sym is)
    (on_to d at (omega (arith, passed.on)) (omega (arith, passed.within)))

pub forward : (points : List Point) (last : Whose) (it : Told) (d : DebuggerState) (e : Ended)
    → d.position ≤ length d.events → GoesForward points last it d e → HasGoneOn d e.debugger
forward points last it d e within (here stops) =
    ended_on d e (stand points last it (Some stops.look) d) stops.stands
    (stands_on points last it (Some stops.look) d within)
forward points last it d e within (on passes_on goes) = goes_on points last d e within goes

-- at a stop before its own position it stands there, or after the event
stands_back : (points : List Point) (last : Whose) (is_told : Bool) (look : Option Look) (d : DebuggerState) (n : ℕ)
    → d.position ≤ length d.events → n < d.position
    → HasGoneBack d (stand_behind points last is_told look (moved_to d n)).debugger
stands_back points last is_told None d n within below = back_at d n within (omega (arith, below))
stands_back points last is_told (Some look) d n within below =
    let P : Ended → Type 0 = λ e. HasGoneBack d e.debugger in
    let there : HasGoneBack d (moved_to d n) = back_at d n within (omega (arith, below)) in
    let behind : HasGoneBack d (moved_to d (min (n + 1) (length d.events))) =
    back_at d (min (n + 1) (length d.events)) within (omega (arith, below, min-le_left (n + 1) (length d.events))) in
    let before : Ended = stands_before points last told.Nothing is_told look (moved_to d n) in
    let done : Ended = step_done last (moved_to d n) in
    one_of P (look.touches && not is_told) (stands_behind points last look (moved_to d n))
    (if look.breaks || look.faults then before else done) behind
    (one_of P (look.breaks || look.faults) before done there there)

ended_back : (d : DebuggerState) (e same : Ended) → e ≡ same → HasGoneBack d same.debugger → HasGoneBack d e.debugger
ended_back d e same is it = subst (λ (x : Ended). HasGoneBack d x.debugger) (sym is) it

-- back to a position, and then further
then_back : (d gone : DebuggerState) (n : ℕ) → n ≤ d.position → HasGoneBack (moved_to d n) gone → HasGoneBack d gone
then_back d gone n from it = record {
  has = record { boot = it.has.boot; events = it.has.events; within = it.has.within };
  earlier = omega (arith, from, it.earlier);
}

ends_behind : (points : List Point) (last : Whose) (d : DebuggerState) (e : Ended) → d.position ≤ length d.events
    → EndsBehind points last d e → HasGoneBack d e.debugger
ends_behind points last d e within (back found greatest stands) =
    ended_back d e (stand_behind points last false stands.look (moved_to d found)) stands.stands
    (stands_back points last false stands.look d found within greatest.1)
ends_behind points last d e within (none nothing is) =
    subst (λ (x : Ended). HasGoneBack d x.debugger) (sym is) (back_at d 0 within (omega arith))
ends_behind points last d e within (ends_early at passed is) =
    subst (λ (x : Ended). HasGoneBack d x.debugger) (sym is) (back_at d at within (omega (arith, passed.back)))

stops_behind : (points : List Point) (last : Whose) (is_told : Bool) (d : DebuggerState) (e : Ended) (n : ℕ)
    → d.position ≤ length d.events → n < d.position → (stops : StopsBehind points last is_told (moved_to d n) e)
    → (further : Bool) → passes is_told stops.look ≡ further → HasGoneBack d e.debugger
stops_behind points last is_told d e n within below stops true is =
    then_back d e.debugger n (omega (arith, below))
    (ends_behind points last (moved_to d n) e (omega (arith, within, below)) (stops.further is))
stops_behind points last is_told d e n within below stops false is =
    ended_back d e (stand_behind points last is_told stops.look (moved_to d n)) (stops.stands is)
    (stands_back points last is_told stops.look d n within below)

pub backward : (points : List Point) (last : Whose) (it : Told) (d : DebuggerState) (e : Ended)
    → d.position ≤ length d.events → GoesBack points last it d e → HasGoneBack d e.debugger
backward points last it d e within (back_to found greatest stops) =
    stops_behind points last (is_told_behind it (d.position - found)) d e found within greatest.1 stops
    (passes (is_told_behind it (d.position - found)) stops.look) refl
backward points last it d e within (to_begin nothing is) =
    subst (λ (x : Ended). HasGoneBack d x.debugger) (sym is) (back_at d 0 within (omega arith))
backward points last it d e within (back_early at passed is) =
    subst (λ (x : Ended). HasGoneBack d x.debugger) (sym is) (back_at d at within (omega (arith, passed.back)))

-- ---- what becomes of a session

by_move : (first : DebuggerState) (s next : Session) → IsOf first s.debugger → HasGone s.debugger next.debugger
    → IsOf first next.debugger
by_move first s next is gone = record {
  boot = gone.boot ∙ is.boot;
  events = gone.events ∙ is.events;
  within = subst (λ (es : List Event). next.debugger.position ≤ length es) is.events gone.within;
}

within_own : (first d : DebuggerState) → IsOf first d → d.position ≤ length d.events
within_own first d is = subst (λ (es : List Event). d.position ≤ length es) (sym is.events) is.within

-- it has gone nowhere
stays : (first d next : DebuggerState) → IsOf first d → next ≡ d → IsOf first next
stays first d next is same = subst (λ (x : DebuggerState). IsOf first x) (sym same) is

-- a move that steps somebody, or nobody, starts where the session stands
own_on : (points : List Point) (it : Stepped) (d gone : DebuggerState) → HasGoneOn (stepping points it d) gone
    → HasGoneOn d gone
own_on points it d gone goes = record {
  has = record { boot = goes.has.boot; events = goes.has.events; within = goes.has.within };
  later = goes.later;
}

own_back : (points : List Point) (it : Stepped) (d gone : DebuggerState) → HasGoneBack (stepping points it d) gone
    → HasGoneBack d gone
own_back points it d gone goes = record {
  has = record { boot = goes.has.boot; events = goes.has.events; within = goes.has.within };
  earlier = goes.earlier;
}

by_forward : (first : DebuggerState) (s next : Session) (how : Move) (may : Bool) → may_move s how ≡ may
    → IsOf first s.debugger → MovesForward s how next
    → IsOf first next.debugger × (s.debugger.position ≤ next.debugger.position)
by_forward first s next how true may is moves =
    let goes = moves.goes may in
    let it : Stepped = stepped_by s.kind (shown s.debugger) (stepping_of s.selection) how in
    let gone : HasGoneOn s.debugger next.debugger =
    subst (λ (x : Session). HasGoneOn s.debugger x.debugger) (sym goes.2)
    (own_on s.points it s.debugger goes.0.debugger
    (forward s.points (whose_of s) s.told (stepping s.points it s.debugger) goes.0 (within_own first s.debugger is)
    goes.1)) in
    (by_move first s next is gone.has, gone.later)
by_forward first s next how false may is moves =
    let same : next.debugger ≡ s.debugger = ap (λ (x : Session). x.debugger) (moves.stays may) in (
      stays first s.debugger next.debugger is same,
      subst (λ (x : DebuggerState). s.debugger.position ≤ x.position) (sym same) (omega arith),
    )

by_back : (first : DebuggerState) (s next : Session) (it : Stepped) → IsOf first s.debugger
    → Stops (GoesBack s.points (whose_of s) s.told (stepping s.points it s.debugger)) s next
    → IsOf first next.debugger × (next.debugger.position ≤ s.debugger.position)
by_back first s next it is goes =
    let gone : HasGoneBack s.debugger next.debugger =
    subst (λ (x : Session). HasGoneBack s.debugger x.debugger) (sym goes.2)
    (own_back s.points it s.debugger goes.0.debugger
    (backward s.points (whose_of s) s.told (stepping s.points it s.debugger) goes.0 (within_own first s.debugger is)
    goes.1)) in
    (by_move first s next is gone.has, gone.earlier)

-- to a position that was asked for
by_goto : (first d next : DebuggerState) (asked : ℕ) (there : Bool) → nat_le asked (length d.events) ≡ there
    → IsOf first d → next ≡ (if there then moved_to d asked else d)
    → IsOf first next × LeadsTo first.events asked d.position next.position
by_goto first d next asked true le is same =
    let within : asked ≤ length first.events =
    subst (λ (es : List Event). asked ≤ length es) is.events (leb-true asked (length d.events) le) in (
      stays first (moved_to d asked) next (record { boot = is.boot; events = is.events; within = within }) same,
      inl (ap (λ (x : DebuggerState). x.position) same),
    )
by_goto first d next asked false le is same =
    let past : length first.events < asked =
    subst (λ (es : List Event). length es < asked) is.events (leb-false asked (length d.events) le) in
    (stays first d next is same, inr (past, ap (λ (x : DebuggerState). x.position) same))

-- other threads are shown, or not
threads_stay : (s : Session) (kind : ThreadKind) → (with_threads s kind).debugger ≡ s.debugger
threads_stay s kind =
    one_of (λ (x : Session). x.debugger ≡ s.debugger) (may_show kind (shown s.debugger)) (showing s kind) s refl refl

stay_led : (first d next : DebuggerState) → IsOf first d → next ≡ d → IsOf first next × (next.position ≡ d.position)
stay_led first d next is same = (stays first d next is same, ap (λ (x : DebuggerState). x.position) same)

same_debugger : (s next : Session) → next ≡ s → next.debugger ≡ s.debugger
same_debugger s next same = ap (λ (x : Session). x.debugger) same

-- to where a mark with a name stands, if there is one
by_name : (first : DebuggerState) (s next : Session) (asked : Option ℕ) → IsOf first s.debugger
    → next ≡ gone_to_some s asked
    → IsOf first next.debugger × LeadsToSome first.events asked s.debugger.position next.debugger.position
by_name first s next None is becomes = stay_led first s.debugger next.debugger is (same_debugger s next becomes)
by_name first s next (Some asked) is becomes =
    by_goto first s.debugger next.debugger asked (nat_le asked (length s.debugger.events)) refl is
    (ap (λ (x : Session). x.debugger) becomes)

becomes_led : (first : DebuggerState) (s : Session) (request : Request) (next : Session) → IsOf first s.debugger
    → Becomes s request next → IsOf first next.debugger × Leads first.events s request next.debugger.position
becomes_led first s (Forward how) next is becomes = by_forward first s next how (may_move s how) refl is becomes
becomes_led first s BackwardContinue next is becomes = by_back first s next (of_all None) is becomes
becomes_led first s BackwardStep next is becomes =
    by_back first s next (of_all (Some (stepper_back (shown s.debugger) (stepping_of s.selection)))) is becomes
becomes_led first s (Monitor (Goto asked)) next is becomes =
    by_goto first s.debugger next.debugger asked (nat_le asked (length s.debugger.events)) refl is
    (ap (λ (x : Session). x.debugger) becomes)
becomes_led first s (Monitor (Back mark)) next is becomes =
    let asked : ℕ = slice_index_or s.marks mark 0 in
    by_goto first s.debugger next.debugger asked (nat_le asked (length s.debugger.events)) refl is
    (ap (λ (x : Session). x.debugger) becomes)
becomes_led first s (Monitor (GotoName name)) next is becomes =
    by_name first s next (mark_of s.named name) is becomes
becomes_led first s (Monitor (MarkByName name)) next is becomes =
    stay_led first s.debugger next.debugger is (ap (λ (x : Session). x.debugger) becomes)
becomes_led first s (Monitor (Threads kind)) next is becomes =
    stay_led first s.debugger next.debugger is
    (ap (λ (x : Session). x.debugger) becomes ∙ threads_stay s kind)
becomes_led first s (Monitor (Mark number)) next is becomes =
    stay_led first s.debugger next.debugger is (ap (λ (x : Session). x.debugger) becomes)
becomes_led first s (Monitor other) next is becomes =
    stay_led first s.debugger next.debugger is (same_debugger s next becomes)
becomes_led first s (SetThread moves thread) next is becomes =
    stay_led first s.debugger next.debugger is (ap (λ (x : Session). x.debugger) becomes)
becomes_led first s (IsAlive thread) next is becomes =
    stay_led first s.debugger next.debugger is (ap (λ (x : Session). x.debugger) becomes)
becomes_led first s (SetPoint kind address count) next is becomes =
    stay_led first s.debugger next.debugger is (ap (λ (x : Session). x.debugger) becomes)
becomes_led first s (ClearPoint kind address count) next is becomes =
    stay_led first s.debugger next.debugger is (ap (λ (x : Session). x.debugger) becomes)
becomes_led first s other next is becomes = stay_led first s.debugger next.debugger is (same_debugger s next becomes)

-- ---- what becomes of a server

stay_there : (first : DebuggerState) (s after : Server) → IsOf first s.session.debugger
    → after.session.debugger ≡ s.session.debugger
    → IsOf first after.session.debugger × (position_of after ≡ position_of s)
stay_there first s after is same = stay_led first s.session.debugger after.session.debugger is same

packet_led : (first : DebuggerState) (request : Request) (s after : Server) (bytes : List ℕ) (over : Bool)
    → IsOf first s.session.debugger → AnswersPacket request s bytes over after
    → IsOf first after.session.debugger × Leads first.events s.session request (position_of after)
packet_led first StartNoAckMode s after bytes over is answers =
    stay_there first s after is (ap (λ (x : Server). x.session.debugger) answers.2)
packet_led first Detach s after bytes over is answers =
    stay_there first s after is (ap (λ (x : Server). x.session.debugger) answers.2)
packet_led first KillProcess s after bytes over is answers =
    stay_there first s after is (ap (λ (x : Server). x.session.debugger) answers.2)
packet_led first Kill s after bytes over is answers =
    stay_there first s after is (ap (λ (x : Server). x.session.debugger) answers.2)
packet_led first request s after bytes over is answers =
    becomes_led first s.session request after.session is answers.0.answers.becomes

arrival_led : (first : DebuggerState) (arrived : Option Arrival) (s after : Server) (bytes : List ℕ) (over : Bool)
    → IsOf first s.session.debugger → AnswersArrival arrived s bytes over after
    → IsOf first after.session.debugger
    × LeadsOn first.events s.session arrived s.receiver.payload (position_of after)
arrival_led first (Some Packet) s after bytes over is answers =
    packet_led first (request_of s.receiver.payload) s after bytes over is answers
arrival_led first (Some TooLong) s after bytes over is answers =
    stay_there first s after is (ap (λ (x : Server). x.session.debugger) answers.2)
arrival_led first (Some Damaged) s after bytes over is answers =
    stay_there first s after is (ap (λ (x : Server). x.session.debugger) answers.2)
arrival_led first other s after bytes over is answers =
    stay_there first s after is (ap (λ (x : Server). x.session.debugger) answers.2)

byte_led : (first : DebuggerState) (s after : Server) (byte : ℕ) (bytes : List ℕ) (over : Bool)
    → IsOf first s.session.debugger → Serves s byte bytes over after
    → IsOf first after.session.debugger × ByteLeads first.events s byte after
byte_led first s after byte bytes over is serves =
    arrival_led first (arrival s.receiver byte) (record s { receiver = next s.receiver byte }) after bytes over is
    serves

-- ---- all that was served

module _ (source elf config : List ℕ) (origin : DebuggerState) (is_started : Starts source elf config origin.boot)
    (first : Server) (begins : IsOf origin first.session.debugger) (text : List ℕ) where
  is_of : (bytes : List ℕ) (s : Server) (left : List ℕ) → HasServed first text bytes s left
      → IsOf origin s.session.debugger
  is_of _ _ _ none_served = begins
  is_of _ _ _ (one_more_served bytes answer s after byte left so_far serves) =
      (byte_led origin s after byte answer false (is_of bytes s (byte ∷ left) so_far) serves).0

  pub stands_served : (bytes : List ℕ) (s : Server) (left : List ℕ) → HasServed first text bytes s left
      → StandsAt source elf config origin.events s.session.debugger
  stands_served bytes s left so_far =
      stands source elf config origin s.session.debugger is_started (is_of bytes s left so_far)

  pub all_shown : (bytes : List ℕ) (s : Server) (left : List ℕ) → HasServed first text bytes s left
      → HasShown source elf config origin.events first text bytes s left
  all_shown _ _ _ none_served = nothing_yet
  all_shown _ _ _ (one_more_served bytes answer s after byte left so_far serves) =
      one_more bytes answer s after byte left (all_shown bytes s (byte ∷ left) so_far)
      (stands_served bytes s (byte ∷ left) so_far) serves
      (byte_led origin s after byte answer false (is_of bytes s (byte ∷ left) so_far) serves).1

-- a server that is ready stands at the beginning
ready_is : (start : Start) (first : Server) → IsReady start.board start.journal.events first
    → IsOf (debugger_of start) first.session.debugger
ready_is start first ready =
    stays (debugger_of start) (debugger_of start) first.session.debugger
    (record { boot = refl; events = refl; within = omega arith }) ready.begins.debugger

module _ (source elf config journal text : List ℕ) (object : IsObjectFile source elf) (start : Start)
    (is_start : IsStart elf config journal start) (first : Server)
    (is_ready : IsReady start.board start.journal.events first) (old new : Option (List ℕ)) where
  is_started : Starts source elf config start.board
  is_started = starts source elf config start.board object is_start.loads

  answers : (bytes : List ℕ) (s : Server) (left : List ℕ) → HasServed first text bytes s left
      → ShowsAnswers source elf config journal text left bytes
  answers bytes s left so_far = record {
    start = start;
    is_start = is_start;
    first = first;
    is_ready = is_ready;
    last = s;
    stands = stands_served source elf config (debugger_of start) is_started first (ready_is start first is_ready) text
        bytes s left so_far;
    answers = all_shown source elf config (debugger_of start) is_started first (ready_is start first is_ready) text
        bytes s left so_far;
  }

  whole : (bytes : List ℕ) → Appends old new bytes → AppendsFront old new bytes
  whole bytes written = record { front = bytes; rest = []; whole = append-nil bytes; written = written }

  of_first : Writes (ServesFirst first text) old new
      → WritesFront (ShowsFirstAnswers source elf config journal text) old new
  of_first writes = record {
    bytes = writes.bytes;
    are_meant = inr (
      writes.are_meant.left,
      answers writes.bytes writes.are_meant.last writes.are_meant.left writes.are_meant.done,
    );
    written = whole writes.bytes writes.written;
  }

  -- one more, which may be the last
  cut_next : (before answer : List ℕ) (s after : Server) (byte : ℕ) (left : List ℕ) (over : Bool)
      → HasServed first text before s (byte ∷ left) → Serves s byte answer over after
      → ShowsFirstAnswers source elf config journal text (before ++ answer)
  unfolding answers
  cut_next before answer s after byte left true so_far serves = inl (record {
    before = before;
    answer = answer;
    byte = byte;
    left = left;
    shows = answers before s (byte ∷ left) so_far;
    after = after;
    last = serves;
    whole = refl;
  })
  cut_next before answer s after byte left false so_far serves =
      inr (left, answers (before ++ answer) after left (one_more_served before answer s after byte left so_far serves))

  of_cut : Writes (ServesCutShort first text) old new
      → WritesFront (ShowsFirstAnswers source elf config journal text) old new
  of_cut writes =
      let cut = writes.are_meant in
      record {
        bytes = cut.before ++ cut.answer;
        are_meant = cut_next cut.before cut.answer cut.s cut.after cut.byte cut.left cut.is_over cut.done cut.next;
        written = record {
          front = cut.before ++ cut.front;
          rest = cut.rest;
          whole = append_assoc cut.before cut.front cut.rest ∙ ap (λ (bytes : List ℕ). cut.before ++ bytes) cut.whole;
          written = subst (λ (bytes : List ℕ). Appends old new bytes) cut.cut writes.written;
        };
      }

  stopped : (fault : CommandFault) → StopsServing fault first text old new
      → WritesFront (ShowsFirstAnswers source elf config journal text) old new
  stopped NoMemory stops = of_first stops
  stopped (Read from error) stops = of_first stops.2
  stopped (TooManyReads from) stops = of_first stops.1
  stopped (Write error) stops = of_cut stops
  stopped fault stops = absurd stops

  pub served : (result : Result Unit CommandFault) (unread : Option (List ℕ))
      → EndsServing result first text unread old new → ShowsUpToEnd result source elf config journal text old new
  unfolding answers
  served (Ok _) unread writes =
      let are = writes.are_meant in
      record {
        bytes = writes.bytes;
        are_meant = record {
          before = are.before;
          answer = are.answer;
          byte = are.byte;
          left = are.left;
          shows = answers are.before are.s (are.byte ∷ are.left) are.done;
          after = are.after;
          last = are.last;
          whole = are.whole;
        };
        written = writes.written;
      }
  served (Err fault) unread stops = inl (stopped fault stops)

pub gdb_shows : {C : Type 0} (remaining : C → Option (List ℕ)) (source elf config journal text : List ℕ)
    (input_first input : C) (result : Result Unit CommandFault) (old new : Option (List ℕ)) → IsAssembled source elf
    → remaining input_first ≡ Some text → GdbEnds remaining elf config journal input_first input result old new
    → ShowsUpToEnd result source elf config journal text old new
gdb_shows remaining source elf config journal text input_first input result old new assembled is (inl serves) =
    served source elf config journal text (written_file source elf assembled) serves.start serves.is_start serves.first
    serves.is_ready old new result (remaining input)
    (subst (λ (known : Option (List ℕ)). IfSome known
    (λ (t : List ℕ). EndsServing result serves.first t (remaining input) old new)) is serves.ends)
gdb_shows remaining source elf config journal text input_first input result old new assembled is (inr gives) =
    subst (λ (r : Result Unit CommandFault). ShowsUpToEnd r source elf config journal text old new)
    (sym gives.is_fault) (inr gives.nothing)

-- ---- what is read

by_answers : (source elf config : List ℕ) (events : List Event) (request : Request) (s after : Server)
    (bytes : List ℕ) → StandsAt source elf config events s.session.debugger
    → AddsAnswer request s after (accepted s) bytes
    → ReadsHeadline source elf config events request s bytes
by_answers source elf config events request s after bytes stands adds = record {
  board = shown s.session.debugger;
  headline = stands.headline;
  reply = adds.reply;
  reads = adds.answers.reads;
  shown = adds.shown;
  whole = adds.added;
}

pub reads_headline : (source elf config : List ℕ) (events : List Event) (request : Request) (s after : Server)
    (bytes : List ℕ) (over : Bool) → IsRead request → StandsAt source elf config events s.session.debugger
    → AnswersPacket request s bytes over after → ReadsHeadline source elf config events request s bytes
reads_headline source elf config events ReadRegisters s after bytes over is stands answers =
    by_answers source elf config events ReadRegisters s after bytes stands answers.0
reads_headline source elf config events (ReadRegister number) s after bytes over is stands answers =
    by_answers source elf config events (ReadRegister number) s after bytes stands answers.0
reads_headline source elf config events (ReadMemory address count) s after bytes over is stands answers =
    by_answers source elf config events (ReadMemory address count) s after bytes stands answers.0
reads_headline source elf config events request s after bytes over is stands answers = absurd is
