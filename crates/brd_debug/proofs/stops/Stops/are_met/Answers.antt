use Rattle.std.proofs.Common.{sym, subst}
use Rattle.std.specs.Prelude.{Decides}
use Rattle.brd_mem.specs.Memory.{Memory}
use Rattle.brd_debug.specs.Stops.{Differs, concerns, is_done}
use Rattle.brd_debug.specs.Watching.{AreBytesAt, IsSameUnless}
use Rattle.brd_debug.proofs.StopLemmas.{decides-met}
use Rattle.brd_debug.proofs.stops.Stops.are_met.Goals as goal
use Rattle.brd_debug.proofs.stops.Stops.are_met.Goals.{After-renewed-changed}

-- of the addresses as they lie
differ : (c : After-renewed-changed) (memory : Memory) → AreBytesAt c.args.self.now.watches memory c.args.bytes.now.bytes →
    IsSameUnless c.args.may_change c.args.self.now.watches memory c.args.board.now.memory →
    Decides c.renewed-changed.result (Differs c.args.self.now.watches memory c.args.board.now.memory)
differ c memory are same =
    subst (λ ws. Decides c.renewed-changed.result (Differs ws memory c.args.board.now.memory)) c.as_slice.ensures.is
    (c.renewed-changed.ensures.differ memory (subst (λ ws. AreBytesAt ws memory c.args.bytes.now.bytes) (sym c.as_slice.ensures.is) are)
    (subst (λ ws. IsSameUnless c.args.may_change ws memory c.args.board.now.memory) (sym c.as_slice.ensures.is) same))

bytes : (c : After-renewed-changed) (memory : Memory) → AreBytesAt c.args.self.now.watches memory c.args.bytes.now.bytes →
    IsSameUnless c.args.may_change c.args.self.now.watches memory c.args.board.now.memory →
    AreBytesAt c.args.self.now.watches c.args.board.now.memory c.renewed-changed.new.bytes.bytes
bytes c memory are same =
    subst (λ ws. AreBytesAt ws c.args.board.now.memory c.renewed-changed.new.bytes.bytes) c.as_slice.ensures.is
    (c.renewed-changed.ensures.bytes memory (subst (λ ws. AreBytesAt ws memory c.args.bytes.now.bytes) (sym c.as_slice.ensures.is) are)
    (subst (λ ws. IsSameUnless c.args.may_change ws memory c.args.board.now.memory) (sym c.as_slice.ensures.is) same))

pub returns-clause-stops : goal.returns-clause-stops
returns-clause-stops c = λ memory are same.
    decides-met (concerns c.args.self.now.only c.args.event c.args.ahead.by) c.renewed-changed.result (is_done c.args.ahead.touches c.args.report) c.are_met_or.result
    (differ (goal.at.returns-clause-stops c).After-renewed-changed memory are same) c.are_met_or.ensures

pub returns-clause-bytes : goal.returns-clause-bytes
returns-clause-bytes c = bytes (goal.at.returns-clause-bytes c).After-renewed-changed
