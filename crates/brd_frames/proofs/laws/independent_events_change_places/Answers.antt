use Rattle.brd_frames.proofs.CommuteLemmas.{independent, independents, agent-steps, swaps}
use Rattle.brd_frames.proofs.laws.independent_events_change_places.Goals as goal

pub returns-clause-event : goal.returns-clause-event
returns-clause-event c = independent

pub returns-clause-events : goal.returns-clause-events
returns-clause-events c = independents

pub returns-clause-step : goal.returns-clause-step
returns-clause-step c = agent-steps

pub returns-clause-steps : goal.returns-clause-steps
returns-clause-steps c = swaps
