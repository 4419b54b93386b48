use Rattle.std.proofs.Common.{◌+◌, sym, subst}
use Rattle.std.specs.Prelude.{Some}
use Rattle.brd_board.specs.Board.{BoardState}
use Rattle.brd_journal.specs.Playing.{IsPlayed}
use Rattle.brd_debug.specs.Debugger.{DebuggerState, SeesAhead}
use Rattle.brd_debug.proofs.SpareLemmas.{next-played}
use Rattle.brd_debug.proofs.debugger.Debugger.keep.Goals as goal

pub invariant_of-self : goal.invariant_of-self
invariant_of-self c =
    let here : DebuggerState = record {
      boot = c.self.inside.boot;
      events = c.self.inside.journal.events;
      position = c.self.inside.shown.at;
      stops = c.self.inside.stops;
    } in
    let sees : SeesAhead here (Some c.args.look) = subst (λ (d : DebuggerState). SeesAhead d (Some c.args.look)) (sym c.self.view_is) c.requires in (
      c.self.invariant.0,
      c.self.invariant.1,
      subst (λ (b : BoardState). IsPlayed c.self.inside.boot c.self.inside.journal.events (record { board = b; at = c.self.inside.shown.at + 1 }))
          (sym c.into_board.ensures) (next-played here c.args.look sees),
    )
