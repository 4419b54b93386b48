-- It has gone on, unless it is at the first turn, and not past the end; it has played the first events, as many as it
-- says; what is told of them is behind what was there; what is known of the board is so; and a timeline begins where it did.
use Rattle.std.proofs.Common.{◌≡◌, ◌≤◌, ◌-◌}
use Rattle.brd_board.specs.Board.{BoardState}
use Rattle.brd_journal.specs.Playing.{IsPlayed}
use Rattle.brd_printer.specs.Telling.{IsTrace}
use Rattle.brd_trace.specs.Recorded.{begun_of, IsNoted}
use Rattle.brd_trace.specs.Dated.{IsDated}
use Rattle.brd_listing.specs.Listing.{IsBehind}
use Rattle.brd_trace.proofs.tracer.Tracer.advance_far.Given as goal

abbrev pub invariant-loop-self : goal.invariant-loop-self
invariant-loop-self l = record {
  on : l.self.playback.at ≤ l.to;
  above : l.fn.self.playback.at ≤ l.self.playback.at;
  played : (boot : BoardState) → IsPlayed boot l.journal.events l.fn.self.playback → IsPlayed boot l.journal.events l.self.playback;
  told : (boot : BoardState) → IsPlayed boot l.journal.events l.fn.self.playback
      → IsBehind (IsTrace l.manner boot l.journal.events l.fn.self.playback.at l.self.playback.at l.fn.self.printer l.self.printer)
      l.fn.out.items l.out.items;
  noted : (boot : BoardState) → IsPlayed boot l.journal.events l.fn.self.playback
      → IsNoted boot l.journal.events l.fn.self.playback.at l.fn.self.notes
      → IsNoted boot l.journal.events l.self.playback.at l.self.notes;
  dated : (boot : BoardState) → IsPlayed boot l.journal.events l.fn.self.playback
      → IsNoted boot l.journal.events l.fn.self.playback.at l.fn.self.notes
      → IsDated boot l.journal.events l.fn.self.playback.at l.fn.self.notes
      → IsDated boot l.journal.events l.self.playback.at l.self.notes;
  begun : begun_of l.self.notes ≡ begun_of l.fn.self.notes;
}

abbrev pub decreases-loop-self : goal.decreases-loop-self
decreases-loop-self l = l.to - l.self.playback.at
