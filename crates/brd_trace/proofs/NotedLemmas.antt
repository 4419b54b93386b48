-- What is known of a board, from one position to a later one.
use Rattle.std.proofs.Common.{◌≡◌, ℕ, List, map, refl, sym, ap, subst, ◌∙◌}
use Rattle.std.proofs.lemmas.Bool.{false≢true}
use Rattle.std.specs.Prelude.{Bool, true, false, is_some, All}
use Rattle.brd_board.specs.declared.event.Event.{Event}
use Rattle.brd_board.specs.declared.event.Report.{Report}
use Rattle.brd_board.specs.declared.event.Report.TheVariants as report
use Rattle.brd_board.specs.Board.{BoardState, happens, after}
use Rattle.brd_journal.specs.Playing.{board_at, AllGoOn}
use Rattle.brd_journal.specs.Runs.{copies}
use Rattle.brd_seen.specs.declared.tasks.TaskSeen.{TaskSeen}
use Rattle.brd_trace.specs.declared.notes.Notes.{Notes}
use Rattle.brd_seen.specs.Seen.{IsSeen, all_seen}
use Rattle.brd_names.specs.Standings.{tasks_of, standings_of, may_change}
use Rattle.brd_trace.specs.Noted.{off_by, Knows, KeepsKnown}
use Rattle.brd_printer.specs.Telling.{is_ran}
use Rattle.brd_names.proofs.ThereLemmas.{still-there, same-tasks}
use Rattle.brd_names.proofs.AlikeLemmas.{Alike, unchanged}
use Rattle.brd_trace.proofs.KnownLemmas.{many-alike, alike-known, kept-known}
use Rattle.brd_seen.proofs.SeenLemmas.{all-those, all-seen}

-- ---- what is seen of a board

off-known : (off : Bool) (position : ℕ) → is_some (off_by off position) ≡ off
off-known true position = refl
off-known false position = refl

-- what is known where all is seen
pub knows-all : (board : BoardState) (notes : Notes) (position : ℕ) → notes.tasks.items ≡ all_seen board →
    notes.standings.of ≡ standings_of board → notes.off ≡ off_by board.kernel.off position → Knows board notes
knows-all board notes position tasks standings off = record {
  those = ap (map (λ (it : TaskSeen). it.id)) tasks ∙ all-those board;
  tasks = subst (All (IsSeen board)) (sym tasks) (all-seen board);
  standings = standings;
  off = ap is_some off ∙ off-known board.kernel.off position;
}

-- and where tasks are followed
pub knows-followed : (board : BoardState) (notes : Notes) (position : ℕ) →
    map (λ (it : TaskSeen). it.id) notes.tasks.items ≡ tasks_of board → All (IsSeen board) notes.tasks.items →
    notes.standings.of ≡ standings_of board → notes.off ≡ off_by board.kernel.off position → Knows board notes
knows-followed board notes position those tasks standings off = record {
  those = those;
  tasks = tasks;
  standings = standings;
  off = ap is_some off ∙ off-known board.kernel.off position;
}

-- ---- one event, with those after it that do nothing

known-by : (changes : Bool) (b next : BoardState) (event : Event) (mid new : Notes) (told : Report) → may_change told ≡ changes →
    next ≡ (happens b event).board → told ≡ (happens b event).report → Knows b mid →
    (may_change told ≡ false → KeepsKnown mid new) →
    (may_change told ≡ true → map (λ (it : TaskSeen). it.id) mid.tasks.items ≡ tasks_of next → Knows next new) → Knows next new
known-by true b next event mid new told changes leaves reports knows kept known =
    let there : tasks_of (happens b event).board ≡ tasks_of b = same-tasks b (happens b event).board (still-there b event) in
    known changes (knows.those ∙ sym there ∙ ap tasks_of (sym leaves))
known-by false b next event mid new told changes leaves reports knows kept known =
    alike-known b next new (subst (Alike b) (sym leaves) (unchanged b event (ap may_change (sym reports) ∙ changes)))
    (kept-known b mid new (kept changes) knows)

pub noted-on : (boot : BoardState) (events : List Event) (from to : ℕ) (b next : BoardState) (event : Event) (old mid new : Notes)
    (told : Report) → b ≡ board_at boot events from → next ≡ board_at boot events to → next ≡ (happens b event).board →
    told ≡ (happens b event).report → Knows (board_at boot events from) old → KeepsKnown old mid →
    (may_change told ≡ false → KeepsKnown mid new) →
    (may_change told ≡ true → map (λ (it : TaskSeen). it.id) mid.tasks.items ≡ tasks_of next → Knows next new) →
    Knows (board_at boot events to) new
noted-on boot events from to b next event old mid new told is ends leaves reports noted kept_mid kept known =
    subst (λ x. Knows x new) ends
    (known-by (may_change told) b next event mid new told refl leaves reports
    (kept-known b old mid kept_mid (subst (λ x. Knows x old) (sym is) noted)) kept known)

-- an event that may change nothing
pub changes-none : (told : Report) → is_ran told ≡ true → may_change told ≡ false
changes-none report.Off is = refl
changes-none report.NoSuch is = refl
changes-none report.Stopped is = refl
changes-none (report.Accepted line) is = absurd (false≢true is)
changes-none (report.Ran address) is = refl
changes-none (report.Called address) is = absurd (false≢true is)
changes-none (report.Faulted address) is = absurd (false≢true is)
changes-none report.Idle is = refl
changes-none report.Ticked is = absurd (false≢true is)
changes-none report.TimeOver is = refl
changes-none report.Raised is = refl

pub noted-ran : (boot : BoardState) (events : List Event) (from to : ℕ) (b next : BoardState) (event : Event) (notes : Notes)
    (told : Report) → b ≡ board_at boot events from → next ≡ board_at boot events to → next ≡ (happens b event).board →
    told ≡ (happens b event).report → is_ran told ≡ true → Knows (board_at boot events from) notes → Knows (board_at boot events to) notes
noted-ran boot events from to b next event notes told is ends leaves reports ran noted =
    subst (λ x. Knows x notes) ends
    (alike-known b next notes
    (subst (Alike b) (sym leaves) (unchanged b event (ap may_change (sym reports) ∙ changes-none told ran)))
    (subst (λ x. Knows x notes) (sym is) noted))

-- many steps that only execute an instruction
pub noted-far : (boot : BoardState) (events : List Event) (from to : ℕ) (b next : BoardState) (event : Event) (count : ℕ) (notes : Notes) →
    b ≡ board_at boot events from → next ≡ board_at boot events to → next ≡ after b (copies event count) → AllGoOn b event count →
    Knows (board_at boot events from) notes → Knows (board_at boot events to) notes
noted-far boot events from to b next event count notes is ends leaves ran noted =
    subst (λ x. Knows x notes) ends
    (alike-known b next notes (subst (Alike b) (sym leaves) (many-alike b event count ran)) (subst (λ x. Knows x notes) (sym is) noted))
