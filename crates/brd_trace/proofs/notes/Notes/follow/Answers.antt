use Rattle.std.proofs.Common.{◌+◌, sym, ap, subst, ◌∙◌}
use Rattle.std.specs.Prelude.{length, slice_index_or, unwrap_or}
use Rattle.std.specs.Option.{option_map}
use Rattle.brd_recording.specs.Lanes.{lanes_of}
use Rattle.brd_trace.specs.Recorded.{Records}
use Rattle.brd_trace.specs.Noted.{off_by}
use Rattle.brd_seen.specs.Conditions.{FollowsTask}
use Rattle.brd_trace.specs.Dated.{KeepsFaults}
use Rattle.brd_trace.proofs.DatedLemmas.{followed}
use Rattle.brd_trace.proofs.RecordingLemmas.{records-same}
use Rattle.brd_trace.proofs.notes.Notes.follow.Goals as goal

pub returns-clause-follows : goal.returns-clause-follows
returns-clause-follows c = λ changes.
    followed c.args.it.board.now c.args.it.position c.args.self.now c.see.new.self c.follow_tasks.new.tasks.items
    (ap (λ tasks. tasks.items) (c.see.ensures.tasks ∙ c.keep_faults.ensures.tasks)) c.follow_tasks.ensures.length
    (λ i d less. subst (λ position. FollowsTask position (slice_index_or c.args.self.now.tasks.items i d)
    (slice_index_or c.follow_tasks.new.tasks.items i d)) c.cause.ensures (c.follow_tasks.ensures.follows i d less))
    (c.see.ensures.off ∙ c.keep_faults.ensures.off ∙ c.off_by-self.ensures ∙ ap (λ off. off_by off c.unwrap_or-position.result) c.is_off.ensures
    ∙ ap (off_by c.args.it.board.now.kernel.off) c.unwrap_or-position.ensures)
    (ap (λ faults. length faults.items) c.see.ensures.faults ∙ c.keep_faults.ensures.places)

pub returns-clause-faults : goal.returns-clause-faults
returns-clause-faults c = λ changes.
    subst
    (KeepsFaults c.args.report c.args.it.position (unwrap_or c.args.it.told.now.cpu 0) c.args.it.told.now.who c.args.self.now.faults.items)
    (sym (ap (λ faults. faults.items) c.see.ensures.faults)) c.in_ok-keep_faults.ensures.faults

pub returns-clause-records : goal.returns-clause-records
returns-clause-records c = λ changes.
    let mid = c.keep_faults.new.self in
    let at = c.args.it.position + 1 in
    subst (λ them. Records at c.see.new.self (option_map lanes_of them) (option_map lanes_of c.see.new.self.recording))
    c.keep_faults.ensures.recording
    (records-same at mid c.see.new.self (option_map lanes_of mid.recording) (option_map lanes_of c.see.new.self.recording) c.see.ensures.tasks
    c.see.ensures.standings c.see.ensures.off c.in_ok-see.ensures.records)
