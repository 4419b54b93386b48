use Rattle.brd_frames.proofs.FrameLemmas.{frame, frames}
use Rattle.brd_frames.proofs.StartLemmas.{start}
use Rattle.brd_frames.proofs.SteadyLemmas.{steady-on}
use Rattle.brd_frames.proofs.laws.events_apart_leave_a_context_alone.Goals as goal

pub returns-clause-event : goal.returns-clause-event
returns-clause-event c = frame

pub returns-clause-events : goal.returns-clause-events
returns-clause-events c = frames

pub returns-clause-start : goal.returns-clause-start
returns-clause-start c = start

pub returns-clause-steady : goal.returns-clause-steady
returns-clause-steady c = steady-on
