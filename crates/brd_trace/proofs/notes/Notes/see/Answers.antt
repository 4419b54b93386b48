use Rattle.std.proofs.Common.{Some, sym, ap, ◌∙◌}
use Rattle.std.specs.Option.{option_map}
use Rattle.brd_recording.specs.declared.recording.Recording.{Recording}
use Rattle.brd_recording.specs.Lanes.{Lanes}
use Rattle.brd_trace.proofs.notes.Notes.see.Goals as goal

pub returns-in_ok-see_locks-in-Some-clause-begun : goal.returns-in_ok-see_locks-in-Some-clause-begun
returns-in_ok-see_locks-in-Some-clause-begun c =
    ap Some (c.see.ensures.from ∙ ap (λ (lanes : Lanes). lanes.from) c.see_locks.ensures)
    ∙ ap (option_map (λ (it : Recording). it.timeline.from)) (sym c.in-Some.is)
