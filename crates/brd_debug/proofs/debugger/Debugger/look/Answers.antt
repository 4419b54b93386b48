use Rattle.std.proofs.Common.{◌≡◌, sym, subst, ◌∙◌}
use Rattle.std.specs.Prelude.{Some}
use Rattle.brd_board.specs.Board.{happens}
use Rattle.brd_journal.specs.declared.playback.Playback.{Playback}
use Rattle.brd_debug.specs.declared.look.Look.{Look}
use Rattle.brd_debug.specs.Debugger.{DebuggerState, SeesAhead}
use Rattle.brd_debug.proofs.PlayingLemmas.{sees-ahead}
use Rattle.brd_debug.proofs.debugger.Debugger.look.Goals as goal

pub returns-clause-sees : goal.returns-clause-sees
returns-clause-sees c =
    let seen : Look = record {
      event = c.in-Some.event;
      report = c.event_apart-report.result;
      stepped = c.is_stepped.result;
      breaks = c.is_break.result;
      faults = c.is_fault.result;
      touches = c.are_touched.result;
      board = c.event_apart-report.new.self;
    } in
    let here : DebuggerState = record {
      boot = c.self.inside.boot;
      events = c.self.inside.journal.events;
      position = c.self.inside.shown.at;
      stops = c.self.inside.stops;
    } in
    subst (λ (d : DebuggerState). SeesAhead d (Some seen)) c.self.view_is
    (sees-ahead here c.self.inside.shown.board seen c.self.invariant.0.board (sym c.event_at.ensures ∙ c.in-Some.is)
    (subst (λ (p : Playback). record { board = c.event_apart-report.new.self; report = c.event_apart-report.result }
    ≡ happens p.board c.in-Some.event)
    c.in_ok-ahead.ensures.here c.event_apart-report.ensures)
    c.is_stepped.ensures c.is_break.ensures c.is_fault.ensures c.are_touched.ensures)
