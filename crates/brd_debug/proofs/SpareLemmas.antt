-- A board beside the one that is shown.
use Rattle.std.proofs.Common.{◌≡◌, ℕ, ◌+◌, List, [], ◌∷◌, ◌++◌, take, sym, ap, ◌∙◌, arith}
use Rattle.std.specs.Prelude.{Some, slice_get}
use Rattle.std.proofs.lemmas.List.{take_more}
use Rattle.std.proofs.lemmas.Option.{slice_get_within, get_or_from_slice_get}
use Rattle.brd_board.specs.declared.event.Event.{Event}
use Rattle.brd_board.specs.Board.{BoardState, Happened, after}
use Rattle.brd_journal.specs.declared.playback.Playback.{Playback}
use Rattle.brd_journal.specs.Playing.{board_at, IsPlayed}
use Rattle.brd_journal.proofs.AfterLemmas.{after-append}
use Rattle.brd_debug.specs.declared.look.Look.{Look}
use Rattle.brd_debug.specs.Debugger.{DebuggerState, SeesAhead}

abbrev with : BoardState → ℕ → Playback
with board at = record { board = board; at = at }

-- boards that have played as many events are one
pub same-played : (boot : BoardState) (events : List Event) (p q : Playback) → IsPlayed boot events p → IsPlayed boot events q → p.at ≡ q.at → p ≡ q
same-played boot events p q one other same =
    ap (λ b. with b p.at) (one.board ∙ ap (board_at boot events) same ∙ sym other.board) ∙ ap (with q.board) same

one-taken : (events : List Event) (n : ℕ) (e : Event) → slice_get events n ≡ Some e → take (n + 1) events ≡ take n events ++ e ∷ []
one-taken events n e is =
    take_more events n e (slice_get_within events n e is)
    ∙ ap (λ (other : Event). take n events ++ other ∷ []) (get_or_from_slice_get events n e e is)

-- what was seen of the next event is a board that has played it too
pub next-played : (d : DebuggerState) (look : Look) → SeesAhead d (Some look) → IsPlayed d.boot d.events (with look.board (d.position + 1))
next-played d look sees = record {
  board = ap (λ (h : Happened). h.board) sees.1 ∙ sym (after-append d.boot (take d.position d.events) (look.event ∷ []))
      ∙ ap (after d.boot) (sym (one-taken d.events d.position look.event sees.0));
  within = omega (arith, slice_get_within d.events d.position look.event sees.0);
}
