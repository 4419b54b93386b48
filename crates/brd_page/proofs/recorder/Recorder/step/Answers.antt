use Rattle.std.proofs.Common.{◌≡◌, ◌<◌, ◌≤◌, ◌+◌, ℕ, Bool, true, sym, ap, ◌∙◌, subst, arith}
use Rattle.std.specs.Prelude.{◌==◌}
use Rattle.brd_board.specs.Board.{happens}
use Rattle.brd_happening.specs.Happening.{happening_of}
use Rattle.brd_journal.specs.declared.playback.Playback.{Playback}
use Rattle.brd_journal.specs.Playing.{board_at, IsPlayed}
use Rattle.brd_journal.specs.Still.{does_no_more}
use Rattle.brd_journal.proofs.PlayingLemmas.{first-board}
use Rattle.brd_journal.proofs.RestLemmas.{rest_some}
use Rattle.brd_listing.specs.Listing.{IsBehind}
use Rattle.brd_printer.proofs.RanLemmas.{told_is}
use Rattle.brd_trace.specs.Recorded.{IsNoted}
use Rattle.brd_trace.proofs.RecordingLemmas.{keeps-begun}
use Rattle.brd_page.specs.Data.{IsRow}
use Rattle.brd_page.specs.Events.{IsDataUpTo}
use Rattle.brd_page.proofs.RunLemmas.{data-more, event-put, kept-noted}
use Rattle.brd_page.proofs.recorder.Recorder.step.Goals as goal

-- Both have played one event more, and the data has its object.
pub returns-clause-recorded : goal.returns-clause-recorded
returns-clause-recorded c = λ boot from is.
    let events = c.args.part.journal.now.events in
    let at = c.args.self.now.playback.at in
    let rest = c.in-Some.rest in
    let moved = c.advance-moved.result in
    let next = c.advance-moved.new.self in
    let goes = c.advance-moved.ensures.goes in
    let within : at + 1 ≤ _ = omega (arith, c.requires.on, c.requires.within) in
    let board = c.args.self.now.playback.board in
    let over : 1 < moved.count → does_no_more rest.event (happens board rest.event).report ≡ true =
    λ more. ap (does_no_more rest.event) (sym c.advance-moved.ensures.report) ∙ c.advance-moved.ensures.over (omega (arith, more, goes.2)) in
    let leaves : next.board ≡ (happens board rest.event).board =
    first-board board next.board rest.event moved.count goes.0 over c.advance-moved.ensures.board in
    let it : c.in_ok-happening.happening ≡ happening_of (board_at boot events at) rest.event =
    told_is board (board_at boot events at) rest.event c.in_ok-before.before moved.report next.board c.in_ok-happening.happening
    is.played.board c.in_ok-before.ensures c.advance-moved.ensures.report leaves c.in_ok-happening.ensures.is in
    let advanced = c.advance.new.self in
    let finished = c.finish.new.self in
    let both : c.args.self.now.tracer.playback.at ≡ at = c.requires.both in
    let last : next.at ≡ at + 1 = omega (arith, goes.0, goes.2, c.advance-moved.ensures.to) in
    record {
      played = c.advance-moved.ensures.played boot events within c.in-Some.ensures.comes is.played;
      traced = subst (λ (p : Playback). IsPlayed boot events p) (sym c.finish.ensures.same) (c.advance.ensures.played boot is.traced);
      noted = subst (λ (n : ℕ). IsNoted boot events n finished.notes) (sym (ap (λ (p : Playback). p.at) c.finish.ensures.same))
          (kept-noted boot events advanced.playback.at advanced.notes finished.notes c.finish.ensures.known
          (c.in_ok-advance.ensures.noted boot is.traced is.noted));
      begun = keeps-begun advanced.notes finished.notes c.finish.ensures.known ∙ c.advance.ensures.begun ∙ is.begun;
      from_is = is.from_is;
      least = omega (arith, is.least, last);
      told = subst (λ (n : ℕ). IsDataUpTo boot events from n c.put_row.new.self) (sym last)
          (data-more boot events from at c.args.self.now.text c.put_row.new.self is.least is.told
          (event-put boot events from at rest.event c.in_ok-happening.happening c.args.self.now.text c.put_row.new.self
          (sym (rest_some events at rest c.in-Some.ensures.comes)) it
          (subst (λ (n : ℕ). IsBehind (IsRow (at == n) c.in_ok-happening.happening.cpu c.in_ok-happening.happening.place)
          c.args.self.now.text c.put_row.new.self) is.from_is c.in_ok-put_row.ensures)));
    }
