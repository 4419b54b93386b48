-- Where moves end.
use Rattle.std.proofs.Common.{◌≡◌, ℕ, ◌-◌, ◌≤◌, List, subst, ap, ◌∙◌, arith}
use Rattle.std.specs.Prelude.{Bool, Option}
use Rattle.brd_board.specs.Board.{BoardState}
use Rattle.brd_debug.specs.declared.stops.Stepper.{Stepper}
use Rattle.brd_debug.specs.Debugger.{DebuggerState, shown}
use Rattle.brd_stub.specs.declared.points.Point.{Point}
use Rattle.brd_stub.specs.declared.halt.Reason.{Reason}
use Rattle.brd_stub.specs.declared.halt.Told.{Told}
use Rattle.brd_stub.specs.declared.halt.Told.TheVariants as told
use Rattle.brd_stub.specs.declared.threads.Thread.{Thread}
use Rattle.brd_stub.specs.declared.threads.Whose.{Whose}
use Rattle.brd_stub.specs.Threads.{stepped_thread, standing_thread}
use Rattle.brd_stub.specs.declared.seeking.Search.{Search}
use Rattle.brd_stub.specs.Moving.{moved_to, SearchesOn, SearchesBack, Ended, ended, stands_there, StandsAhead, GoesOn}
use Rattle.brd_stub.specs.Moving.{StandsBehind}
use Rattle.brd_stub.specs.Moving.{EndsBehind, StopsBehind}
use Rattle.brd_stub.specs.Moving.{is_told_behind, GoesBack}
use Rattle.brd_stub.specs.Moving.GoesOn.{ahead, end, early as goes_early}
use Rattle.brd_stub.specs.Moving.EndsBehind.{back, none, early as ends_early}
use Rattle.brd_stub.specs.Moving.GoesBack.{back_to, to_begin, early as back_early}

-- it stands where it is

pub stands-there : (d : DebuggerState) (last : Whose) (reason : Reason) (board : BoardState) (stepper : Option Stepper)
    (thread it : Thread) → board ≡ shown d → stepper ≡ d.stops.stepper →
    thread ≡ stepped_thread last.kind stepper board last.thread → it ≡ standing_thread last.kind board thread →
    ended d it reason told.Nothing ≡ stands_there last reason d
stands-there d last reason board stepper thread it is steps on stands =
    ap (λ (t : Thread). ended d t reason told.Nothing)
    (stands ∙ ap (λ (b : BoardState). standing_thread last.kind b thread) is
    ∙ ap (standing_thread last.kind (shown d))
    (on ∙ ap (λ (s : Option Stepper). stepped_thread last.kind s board last.thread) steps
    ∙ ap (λ (b : BoardState). stepped_thread last.kind d.stops.stepper b last.thread) is))

-- a search forward has found a stop, or none, or has ended early

pub goes-ahead : (points : List Point) (last : Whose) (d mid : DebuggerState) (e : Ended) (how : Search) (at : ℕ) →
    how ≡ Search.Stop at → SearchesOn d how mid → StandsAhead points last mid e → GoesOn points last d e
goes-ahead points last d mid e how at is comes does =
    let found : SearchesOn d (Search.Stop at) mid = subst (λ (h : Search). SearchesOn d h mid) is comes in
    ahead at found.0 (subst (λ (m : DebuggerState). StandsAhead points last m e) found.1 does)

pub goes-to-end : (points : List Point) (last : Whose) (d mid : DebuggerState) (e : Ended) (how : Search) →
    how ≡ Search.Nothing → SearchesOn d how mid → e ≡ stands_there last Reason.End mid → GoesOn points last d e
goes-to-end points last d mid e how is comes does =
    let none : SearchesOn d Search.Nothing mid = subst (λ (h : Search). SearchesOn d h mid) is comes in
    end none.0 (does ∙ ap (stands_there last Reason.End) none.1)

pub goes-early : (points : List Point) (last : Whose) (d mid : DebuggerState) (e : Ended) (how : Search) →
    how ≡ Search.Early → SearchesOn d how mid → e ≡ stands_there last Reason.Interrupt mid → GoesOn points last d e
goes-early points last d mid e how is comes does =
    let passed : SearchesOn d Search.Early mid = subst (λ (h : Search). SearchesOn d h mid) is comes in
    goes_early passed.0 passed.1 (does ∙ ap (stands_there last Reason.Interrupt) passed.2)

-- the same of a search backward

pub ends-behind : (points : List Point) (last : Whose) (d mid : DebuggerState) (e : Ended) (how : Search) (at : ℕ) →
    how ≡ Search.Stop at → SearchesBack d how mid → StandsBehind points last mid e → EndsBehind points last d e
ends-behind points last d mid e how at is comes does =
    let found : SearchesBack d (Search.Stop at) mid = subst (λ (h : Search). SearchesBack d h mid) is comes in
    back at found.0 (subst (λ (m : DebuggerState). StandsBehind points last m e) found.1 does)

pub ends-at-begin : (points : List Point) (last : Whose) (d mid : DebuggerState) (e : Ended) (how : Search) →
    how ≡ Search.Nothing → SearchesBack d how mid → e ≡ stands_there last Reason.Begin mid → EndsBehind points last d e
ends-at-begin points last d mid e how is comes does =
    let begins : SearchesBack d Search.Nothing mid = subst (λ (h : Search). SearchesBack d h mid) is comes in
    none begins.0 (does ∙ ap (stands_there last Reason.Begin) begins.1)

pub ends-early : (points : List Point) (last : Whose) (d mid : DebuggerState) (e : Ended) (how : Search) →
    how ≡ Search.Early → SearchesBack d how mid → e ≡ stands_there last Reason.Interrupt mid →
    EndsBehind points last d e
ends-early points last d mid e how is comes does =
    let passed : SearchesBack d Search.Early mid = subst (λ (h : Search). SearchesBack d h mid) is comes in
    ends_early passed.0 passed.1 (does ∙ ap (stands_there last Reason.Interrupt) passed.2)

-- and of the first one of a move

pub goes-back : (points : List Point) (last : Whose) (it : Told) (d mid : DebuggerState) (e : Ended) (how : Search)
    (at : ℕ) (is_told : Bool) →
    how ≡ Search.Stop at → is_told ≡ is_told_behind it (d.position - at) → SearchesBack d how mid →
    StopsBehind points last is_told mid e → GoesBack points last it d e
goes-back points last it d mid e how at is_told is same comes does =
    let found : SearchesBack d (Search.Stop at) mid = subst (λ (h : Search). SearchesBack d h mid) is comes in
    back_to at found.0 (subst (λ told. StopsBehind points last told (moved_to d at) e) same
    (subst (λ (m : DebuggerState). StopsBehind points last is_told m e) found.1 does))

pub goes-to-begin : (points : List Point) (last : Whose) (it : Told) (d mid : DebuggerState) (e : Ended) (how : Search) →
    how ≡ Search.Nothing → SearchesBack d how mid → e ≡ stands_there last Reason.Begin mid → GoesBack points last it d e
goes-to-begin points last it d mid e how is comes does =
    let begins : SearchesBack d Search.Nothing mid = subst (λ (h : Search). SearchesBack d h mid) is comes in
    to_begin begins.0 (does ∙ ap (stands_there last Reason.Begin) begins.1)

pub goes-back-early : (points : List Point) (last : Whose) (it : Told) (d mid : DebuggerState) (e : Ended)
    (how : Search) →
    how ≡ Search.Early → SearchesBack d how mid → e ≡ stands_there last Reason.Interrupt mid →
    GoesBack points last it d e
goes-back-early points last it d mid e how is comes does =
    let passed : SearchesBack d Search.Early mid = subst (λ (h : Search). SearchesBack d h mid) is comes in
    back_early passed.0 passed.1 (does ∙ ap (stands_there last Reason.Interrupt) passed.2)

-- a search has found a stop, which lies before
pub found-before : (d mid : DebuggerState) (how : Search) (at : ℕ) → how ≡ Search.Stop at → SearchesBack d how mid →
    at ≤ d.position
found-before d mid how at is comes =
    let found : SearchesBack d (Search.Stop at) mid = subst (λ (h : Search). SearchesBack d h mid) is comes in
    omega (arith, found.0.1)
