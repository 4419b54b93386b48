use Rattle.std.proofs.Common.{Bool, ℕ, List, refl, ◌≡◌, ◌+◌, ◌<◌, true, false, sym, ap, ◌∙◌, subst, arith}
use Rattle.brd_board.specs.Board.{happens}
use Rattle.brd_happening.specs.declared.happening.Happening.{Happening}
use Rattle.brd_happening.specs.Happening.{happening_of}
use Rattle.brd_journal.specs.declared.playback.Playback.{Playback}
use Rattle.brd_journal.specs.Playing.{AreStill, board_at, IsPlayed}
use Rattle.brd_journal.specs.Still.{does_no_more}
use Rattle.brd_journal.proofs.PlayingLemmas.{first-board}
use Rattle.brd_journal.proofs.RestLemmas.{rest_some}
use Rattle.brd_printer.specs.Links.{ended_by, ended_text, linked_on}
use Rattle.brd_printer.specs.Telling.{is_ran, may_list, Tells}
use Rattle.brd_printer.proofs.LinksLemmas.{concerns_by, ends_by}
use Rattle.brd_printer.specs.Concerns.{concerns, does_other}
use Rattle.brd_printer.proofs.RanLemmas.{passes_both, ran_hidden, told_ended, told_is}
use Rattle.brd_printer.proofs.TraceLemmas.{puts_one, puts_hidden}
use Rattle.brd_trace.specs.Dated.{IsDated}
use Rattle.brd_trace.proofs.KnownLemmas.{kept-known}
use Rattle.brd_trace.proofs.NotedLemmas.{noted-on, noted-ran}
use Rattle.brd_trace.proofs.DatedLemmas.{dated-on, dated-ran, kept-dated}
use Rattle.brd_happening.specs.Happening.{processor_of}
use Rattle.brd_happening.specs.Before.{who_of}
use Rattle.brd_board.specs.declared.event.Event.{Event}
use Rattle.std.specs.Prelude.{None, unwrap_or}
use Rattle.std.specs.Option.{option_map}
use Rattle.brd_recording.specs.Lanes.{lanes_of}
use Rattle.brd_recording.specs.Recording.{IsRecorded}
use Rattle.brd_trace.proofs.SlicesLemmas.{recorded-on, recorded-ran}
use Rattle.brd_trace.proofs.RecordingLemmas.{keeps-begun}
use Rattle.brd_trace.proofs.tracer.Tracer.advance_in.Goals as goal

pub returns-then-passes-clause-told : goal.returns-then-passes-clause-told
returns-then-passes-clause-told c = λ boot events within comes is.
    let position = c.args.self.now.playback.at in
    let event = c.args.rest.event in
    let printer = c.args.self.now.printer in
    let goes = c.advance-moved.ensures.goes in
    let both = passes_both (may_list printer.options) (is_ran c.advance-moved.result.report) (sym c.passes.ensures ∙ c.if-passes.true) in
    let ran : is_ran c.advance-moved.result.report ≡ true = both.1 in
    let off : may_list printer.options ≡ false = both.0 in
    let told_ran : is_ran (happens c.args.self.now.playback.board event).report ≡ true = ap is_ran (sym c.advance-moved.ensures.report) ∙ ran in
    let same : c.args.self.now.playback.board ≡ board_at boot events position = is.board in
    puts_hidden c.args.manner boot events position c.advance-moved.result.count _ printer c.args.out.now.items goes.2
    (record {
      event = event;
      is = sym (rest_some events position c.args.rest comes);
      some = goes.0;
      still = subst (AreStill boot events (position + 1)) goes.2 (c.advance-moved.ensures.still boot events comes is);
      tells = rw (sym same) (ran_hidden c.args.manner position c.advance-moved.result.count c.args.self.now.playback.board event
          printer told_ran off);
    })

pub returns-clause-played : goal.returns-clause-played
returns-clause-played c = λ boot events within comes is.
    subst (λ (p : Playback). IsPlayed boot events p) (sym c.tell.ensures.same) (c.advance-moved.ensures.played boot events within comes is)

pub returns-in_err-tell-clause-played : goal.returns-in_err-tell-clause-played
returns-in_err-tell-clause-played c = λ boot events within comes is.
    subst (λ (p : Playback). IsPlayed boot events p) (sym c.tell.ensures.same) (c.advance-moved.ensures.played boot events within comes is)

pub returns-clause-told : goal.returns-clause-told
returns-clause-told c = λ boot events within comes is.
    let board = c.args.self.now.playback.board in
    let position = c.args.self.now.playback.at in
    let event = c.args.rest.event in
    let moved = c.advance-moved.result in
    let next = c.advance-moved.new.self in
    let goes = c.advance-moved.ensures.goes in
    let over : 1 < moved.count → does_no_more event (happens board event).report ≡ true =
    λ more. ap (does_no_more event) (sym c.advance-moved.ensures.report) ∙ c.advance-moved.ensures.over (omega (arith, more, goes.2)) in
    let leaves : next.board ≡ (happens board event).board = first-board board next.board event moved.count goes.0 over c.advance-moved.ensures.board in
    let it : c.in_ok-told.told ≡ happening_of (board_at boot events position) event =
    told_is board (board_at boot events position) event c.in-Ok.before moved.report next.board c.in_ok-told.told
    is.board c.in-Ok.ensures c.advance-moved.ensures.report leaves c.in_ok-told.ensures.is in
    let linked = c.linked_before-linked.result in
    let ended : may_list c.args.self.now.printer.options ≡ true →
    ended_text c.in_ok-told.told.cpu linked (linked_on next.board) ≡ ended_by (board_at boot events position) event =
    λ lists. ends_by board (board_at boot events position) next.board event c.in_ok-told.told.cpu linked (linked_on next.board)
    is.board leaves (ap (λ (h : Happening). h.cpu) it) (c.linked_before-linked.ensures lists) refl in
    let cpu = c.args.self.now.printer.options.cpu in
    let stood = c.chosen_standing-stood.result in
    let concerned : does_other cpu stood next.board ≡ concerns cpu (board_at boot events position) event =
    concerns_by cpu board (board_at boot events position) next.board event stood is.board leaves c.chosen_standing-stood.ensures in
    let t = c.in_ok-tell.ensures.told in
    let ends : c.tell.new.self.playback.at ≡ position + moved.count = ap (λ (p : Playback). p.at) c.tell.ensures.same ∙ goes.2 in
    puts_one c.args.manner boot events position moved.count c.tell.new.self.playback.at c.args.self.now.printer c.tell.new.self.printer
    c.args.out.now.items c.tell.new.out.items ends
    (record {
      text = t.text;
      is_it = record {
        event = event;
        is = sym (rest_some events position c.args.rest comes);
        some = goes.0;
        still = subst (AreStill boot events (position + 1)) goes.2 (c.advance-moved.ensures.still boot events comes is);
        tells = told_ended c.args.manner position moved.count (happening_of (board_at boot events position) event)
            (ended_text c.in_ok-told.told.cpu linked (linked_on next.board)) (ended_by (board_at boot events position) event)
            (concerns cpu (board_at boot events position) event)
            c.args.self.now.printer c.tell.new.self.printer t.text (may_list c.args.self.now.printer.options) refl ended
            (subst (λ (x : Bool). Tells c.args.manner position moved.count (happening_of (board_at boot events position) event)
            (ended_text c.in_ok-told.told.cpu linked (linked_on next.board)) x
            c.args.self.now.printer c.tell.new.self.printer t.text) concerned
            (subst (λ (h : Happening). Tells c.args.manner position moved.count h (ended_text c.in_ok-told.told.cpu linked (linked_on next.board))
            (does_other cpu stood next.board) c.args.self.now.printer c.tell.new.self.printer t.text) it t.is_it));
      };
      behind = t.behind;
    })

pub returns-in_err-follow-clause-played : goal.returns-in_err-follow-clause-played
returns-in_err-follow-clause-played c = λ boot events within comes is.
    subst (λ (p : Playback). IsPlayed boot events p) (sym c.tell.ensures.same) (c.advance-moved.ensures.played boot events within comes is)

pub returns-then-passes-clause-noted : goal.returns-then-passes-clause-noted
returns-then-passes-clause-noted c = λ boot events within comes is noted.
    let board = c.args.self.now.playback.board in
    let event = c.args.rest.event in
    let moved = c.advance-moved.result in
    let next = c.advance-moved.new.self in
    let goes = c.advance-moved.ensures.goes in
    let printer = c.args.self.now.printer in
    let both = passes_both (may_list printer.options) (is_ran moved.report) (sym c.passes.ensures ∙ c.if-passes.true) in
    let over : 1 < moved.count → does_no_more event (happens board event).report ≡ true =
    λ more. ap (does_no_more event) (sym c.advance-moved.ensures.report) ∙ c.advance-moved.ensures.over (omega (arith, more, goes.2)) in
    let leaves : next.board ≡ (happens board event).board = first-board board next.board event moved.count goes.0 over c.advance-moved.ensures.board in
    let notes = c.args.self.now.notes in
    let at = c.args.self.now.playback.at in
    record {
      known = noted-ran boot events at next.at board next.board event notes moved.report is.board
          (c.advance-moved.ensures.played boot events within comes is).board leaves c.advance-moved.ensures.report both.1 noted.known;
      recorded = subst (λ (to : ℕ). IsRecorded boot events to (option_map lanes_of notes.recording)) (sym goes.2)
          (recorded-ran boot events at moved.count c.args.rest board next.board notes notes moved.report is.board leaves comes goes.0 goes.1
          over c.advance-moved.ensures.report noted.recorded both.1
          (record { tasks = refl; standings = refl; off = refl; faults = refl; recorded = refl }));
    }

pub returns-clause-noted : goal.returns-clause-noted
returns-clause-noted c = λ boot events within comes is noted.
    let board = c.args.self.now.playback.board in
    let event = c.args.rest.event in
    let moved = c.advance-moved.result in
    let next = c.advance-moved.new.self in
    let last = c.tell.new.self.playback in
    let goes = c.advance-moved.ensures.goes in
    let over : 1 < moved.count → does_no_more event (happens board event).report ≡ true =
    λ more. ap (does_no_more event) (sym c.advance-moved.ensures.report) ∙ c.advance-moved.ensures.over (omega (arith, more, goes.2)) in
    let leaves : next.board ≡ (happens board event).board = first-board board next.board event moved.count goes.0 over c.advance-moved.ensures.board in
    let played : IsPlayed boot events last =
    subst (λ (p : Playback). IsPlayed boot events p) (sym c.tell.ensures.same) (c.advance-moved.ensures.played boot events within comes is) in
    let at = c.args.self.now.playback.at in
    let left = ap (λ (p : Playback). p.board) c.tell.ensures.same ∙ leaves in
    let ends : last.at ≡ at + moved.count = ap (λ (p : Playback). p.at) c.tell.ensures.same ∙ goes.2 in
    record {
      known = noted-on boot events at last.at board last.board event c.args.self.now.notes c.tell.new.self.notes c.follow.new.self moved.report
          is.board played.board left c.advance-moved.ensures.report noted.known c.tell.ensures.known c.follow.ensures.kept c.follow.ensures.known;
      recorded = subst (λ (to : ℕ). IsRecorded boot events to (option_map lanes_of c.follow.new.self.recording)) (sym ends)
          (recorded-on boot events at moved.count c.args.rest board last.board c.tell.new.self.notes c.follow.new.self moved.report is.board left
          comes goes.0 goes.1 over c.advance-moved.ensures.report
          (subst (IsRecorded boot events at) (sym c.tell.ensures.known.recorded) noted.recorded)
          (kept-known (board_at boot events at) c.args.self.now.notes c.tell.new.self.notes c.tell.ensures.known noted.known)
          c.follow.ensures.kept c.follow.ensures.known c.in_ok-follow.ensures.records);
    }

pub returns-then-passes-clause-dated : goal.returns-then-passes-clause-dated
returns-then-passes-clause-dated c = λ boot events within comes is noted dated.
    let board = c.args.self.now.playback.board in
    let event = c.args.rest.event in
    let moved = c.advance-moved.result in
    let next = c.advance-moved.new.self in
    let goes = c.advance-moved.ensures.goes in
    let printer = c.args.self.now.printer in
    let notes = c.args.self.now.notes in
    let both = passes_both (may_list printer.options) (is_ran moved.report) (sym c.passes.ensures ∙ c.if-passes.true) in
    let over : 1 < moved.count → does_no_more event (happens board event).report ≡ true =
    λ more. ap (does_no_more event) (sym c.advance-moved.ensures.report) ∙ c.advance-moved.ensures.over (omega (arith, more, goes.2)) in
    let leaves : next.board ≡ (happens board event).board = first-board board next.board event moved.count goes.0 over c.advance-moved.ensures.board in
    subst (λ (to : ℕ). IsDated boot events to notes) (sym goes.2)
    (dated-ran boot events c.args.self.now.playback.at moved.count c.args.rest board next.board notes notes moved.report 0 None is.board
    leaves comes goes.0 goes.1 over c.advance-moved.ensures.report noted.known dated both.1
    (record { tasks = refl; standings = refl; off = refl; faults = refl; recorded = refl }))

pub returns-clause-dated : goal.returns-clause-dated
returns-clause-dated c = λ boot events within comes is noted dated.
    let board = c.args.self.now.playback.board in
    let at = c.args.self.now.playback.at in
    let event = c.args.rest.event in
    let moved = c.advance-moved.result in
    let next = c.advance-moved.new.self in
    let last = c.tell.new.self.playback in
    let goes = c.advance-moved.ensures.goes in
    let told = c.in_ok-told.told in
    let over : 1 < moved.count → does_no_more event (happens board event).report ≡ true =
    λ more. ap (does_no_more event) (sym c.advance-moved.ensures.report) ∙ c.advance-moved.ensures.over (omega (arith, more, goes.2)) in
    let leaves : next.board ≡ (happens board event).board = first-board board next.board event moved.count goes.0 over c.advance-moved.ensures.board in
    let it : told ≡ happening_of (board_at boot events at) event =
    told_is board (board_at boot events at) event c.in-Ok.before moved.report next.board told
    is.board c.in-Ok.ensures c.advance-moved.ensures.report leaves c.in_ok-told.ensures.is in
    let ends : last.at ≡ at + moved.count = ap (λ (p : Playback). p.at) c.tell.ensures.same ∙ goes.2 in
    subst (λ (to : ℕ). IsDated boot events to c.follow.new.self) (sym ends)
    (dated-on boot events at moved.count c.args.rest board last.board c.tell.new.self.notes c.follow.new.self moved.report
    (unwrap_or told.cpu 0) told.who is.board (ap (λ (p : Playback). p.board) c.tell.ensures.same ∙ leaves) comes goes.0 goes.1 over
    c.advance-moved.ensures.report
    (kept-known (board_at boot events at) c.args.self.now.notes c.tell.new.self.notes c.tell.ensures.known noted.known)
    (kept-dated boot events at c.args.self.now.notes c.tell.new.self.notes c.tell.ensures.known dated)
    c.follow.ensures.kept c.follow.ensures.known c.in_ok-follow.ensures.follows c.in_ok-follow.ensures.faults
    (λ n steps. (
      ap (λ (h : Happening). unwrap_or h.cpu 0) it ∙ ap (λ (e : Event). unwrap_or (processor_of e) 0) steps,
      ap (λ (h : Happening). h.who) it ∙ ap (who_of (board_at boot events at)) steps,
    )))

pub returns-clause-begun : goal.returns-clause-begun
returns-clause-begun c = c.follow.ensures.begun ∙ keeps-begun c.args.self.now.notes c.tell.new.self.notes c.tell.ensures.known

pub returns-in_err-follow-clause-begun : goal.returns-in_err-follow-clause-begun
returns-in_err-follow-clause-begun c = c.follow.ensures.begun ∙ keeps-begun c.args.self.now.notes c.tell.new.self.notes c.tell.ensures.known
