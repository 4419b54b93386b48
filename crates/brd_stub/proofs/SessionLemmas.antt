-- What becomes of a session by a move, and what is shown where it ends.
use Rattle.std.proofs.Common.{◌≡◌, ℕ, List, refl, subst, sym, ap, ◌∙◌}
use Rattle.std.specs.Prelude.{Bool, true, false, if◌then◌else◌, is_some, Option, codes}
use Rattle.std.proofs.lemmas.Bool.{cond-false, false≢true}
use Rattle.brd_exec.specs.State.{State}
use Rattle.brd_board.specs.Board.{BoardState, registers_of}
use Rattle.brd_debug.specs.Debugger.{DebuggerState, shown}
use Rattle.brd_gdb.specs.declared.request.Move.{Move}
use Rattle.brd_stub.specs.declared.points.Point.{Point}
use Rattle.brd_stub.specs.declared.halt.Told.{Told}
use Rattle.brd_stub.specs.declared.session.Session.{Session}
use Rattle.brd_stub.specs.declared.threads.Whose.{Whose}
use Rattle.brd_stub.specs.Threads.{executing}
use Rattle.brd_stub.specs.Halting.{end_text}
use Rattle.brd_stub.specs.Moving.{stepping, Ended, GoesForward}
use Rattle.brd_stub.specs.Selecting.{stepping_of}
use Rattle.brd_stub.specs.Stepping.{stepped_by}
use Rattle.brd_stub.specs.Answers.{at_stop, may_move, whose_of, MovesForward, Stops}

-- a move of a session whose debugger was prepared for it
pub move-ends : (Goes : List Point → Whose → Told → DebuggerState → Ended → Type 0) (s mid next : Session)
    (d : DebuggerState) (e : Ended) (points : List Point) (last : Whose) → mid ≡ record s { debugger = d } →
    points ≡ mid.points → last ≡ whose_of mid → Goes points last mid.told mid.debugger e →
    next ≡ at_stop (record mid { debugger = e.debugger }) e →
    Stops (Goes s.points (whose_of s) s.told d) s next
move-ends Goes s mid next d e points last is same on goes becomes = (
  e,
  subst (λ (x : Session). Goes x.points (whose_of x) x.told x.debugger e) is
      (subst (λ (w : Whose). Goes mid.points w mid.told mid.debugger e) on
      (subst (λ (p : List Point). Goes p last mid.told mid.debugger e) same goes)),
  becomes ∙ ap (λ (x : Session). at_stop (record x { debugger = e.debugger }) e) is,
)

-- what is shown at the journal's end of a board that is on
pub shown-at-end : (b : BoardState) (off test : Bool) (cpu : ℕ) (context : Option State) → off ≡ b.kernel.off →
    off ≡ false → cpu ≡ executing b 1 → context ≡ registers_of b cpu → test ≡ is_some context →
    (if test then codes "The journal ends here.\n"
    else codes "The journal ends here: no processor executes anything.\n")
    ≡ end_text b
shown-at-end b off test cpu context is on same has some =
    ap (λ (t : Bool). if t then codes "The journal ends here.\n"
    else codes "The journal ends here: no processor executes anything.\n")
    (some ∙ ap (λ (c : Option State). is_some c) (has ∙ ap (registers_of b) same))
    ∙ sym (cond-false b.kernel.off (codes "The journal ends here: the board is off.\n")
    (if is_some (registers_of b (executing b 1)) then codes "The journal ends here.\n"
    else codes "The journal ends here: no processor executes anything.\n") (sym is ∙ on))

-- a move forward of a thread that is there, and one of a thread that isn't

pub went-forward : (s next : Session) (how : Move) → may_move s how ≡ true →
    Stops (GoesForward s.points (whose_of s) s.told
    (stepping s.points (stepped_by s.kind (shown s.debugger) (stepping_of s.selection) how) s.debugger)) s next →
    MovesForward s how next
went-forward s next how may stops =
    record { goes = λ yes. stops; stays = λ missing. absurd (false≢true (sym missing ∙ may)) }

pub stayed-there : (s : Session) (how : Move) → may_move s how ≡ false → MovesForward s how s
stayed-there s how missing = record { goes = λ yes. absurd (false≢true (sym missing ∙ yes)); stays = λ none. refl }

-- what is said of such a move

pub said-on : (test : Bool) (whole none said : List ℕ) → test ≡ true → said ≡ whole →
    said ≡ (if test then whole else none)
said-on true whole none said is same = same
said-on false whole none said is same = absurd (false≢true is)

pub said-none : (test : Bool) (whole none said : List ℕ) → test ≡ false → said ≡ none →
    said ≡ (if test then whole else none)
said-none true whole none said is same = absurd (false≢true (sym is))
said-none false whole none said is same = same
