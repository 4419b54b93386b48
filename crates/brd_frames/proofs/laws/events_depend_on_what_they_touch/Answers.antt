use Rattle.brd_frames.proofs.FootprintLemmas.{footprint, footprints, put-clear}
use Rattle.brd_frames.proofs.laws.events_depend_on_what_they_touch.Goals as goal

pub returns-clause-event : goal.returns-clause-event
returns-clause-event c = footprint

pub returns-clause-events : goal.returns-clause-events
returns-clause-events c = footprints

pub returns-clause-elsewhere : goal.returns-clause-elsewhere
returns-clause-elsewhere c = put-clear
