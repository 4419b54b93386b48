-- Where nothing changes, what is known of a board stays known.
use Rattle.std.proofs.Common.{ℕ, zero, suc, map, replicate, sym, ap, subst, ◌∙◌, arith}
use Rattle.std.specs.Prelude.{slice_index_or, is_some, All}
use Rattle.brd_exec.specs.Step.{ran}
use Rattle.brd_board.specs.declared.event.Event.{Event}
use Rattle.brd_board.specs.declared.event.Event.TheVariants.{Step, Tick, Raise}
use Rattle.brd_board.specs.Board.{BoardState, happens, after}
use Rattle.brd_journal.specs.Playing.{AllGoOn}
use Rattle.brd_board.specs.Batch.{AllRun}
use Rattle.brd_journal.specs.Runs.{copies}
use Rattle.brd_seen.specs.declared.tasks.TaskSeen.{TaskSeen}
use Rattle.brd_trace.specs.declared.notes.Notes.{Notes}
use Rattle.brd_seen.specs.Seen.{IsSeen}
use Rattle.brd_names.specs.Standings.{may_change}
use Rattle.brd_trace.specs.Noted.{Knows, KeepsKnown}
use Rattle.brd_names.proofs.AlikeLemmas.{Alike, alike-same, alike-then, unchanged, alike-tasks, alike-standings}

-- ---- many steps, one after the other

steps-alike : (b : BoardState) (cpu count : ℕ) → AllRun b cpu count → Alike b (after b (replicate count (Step cpu)))
steps-alike b cpu zero ran = alike-same b
steps-alike b cpu (suc count) ran =
    let next : BoardState = (happens b (Step cpu)).board in
    alike-then b next (after next (replicate count (Step cpu)))
    (unchanged b (Step cpu) (ap may_change (ran 0 (omega arith)).1))
    (steps-alike next cpu count (λ n less. ran (suc n) (omega (arith, less))))

pub many-alike : (b : BoardState) (event : Event) (count : ℕ) → AllGoOn b event count → Alike b (after b (copies event count))
unfolding copies
many-alike b (Step cpu) count ran = steps-alike b cpu count ran
many-alike b Tick count none = subst (λ n. Alike b (after b (replicate n Tick))) (sym none) (alike-same b)
many-alike b (Raise line) count none = subst (λ n. Alike b (after b (replicate n (Raise line)))) (sym none) (alike-same b)

-- ---- what is known

pub alike-known : (b new : BoardState) (notes : Notes) → Alike b new → Knows b notes → Knows new notes
alike-known b new notes alike knows = record {
  those = knows.those ∙ sym (alike-tasks b new alike);
  tasks = λ i d less. alike.tasks (slice_index_or notes.tasks.items i d).id ∙ knows.tasks i d less;
  standings = knows.standings ∙ sym (alike-standings b new alike);
  off = knows.off ∙ sym alike.off;
}

pub kept-known : (b : BoardState) (old new : Notes) → KeepsKnown old new → Knows b old → Knows b new
kept-known b old new kept knows = record {
  those = ap (λ tasks. map (λ (it : TaskSeen). it.id) tasks.items) kept.tasks ∙ knows.those;
  tasks = subst (λ tasks. All (IsSeen b) tasks.items) (sym kept.tasks) knows.tasks;
  standings = ap (λ standings. standings.of) kept.standings ∙ knows.standings;
  off = ap is_some kept.off ∙ knows.off;
}
