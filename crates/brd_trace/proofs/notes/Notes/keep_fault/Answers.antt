use Rattle.std.proofs.Common.{refl, ap, ◌∙◌}
use Rattle.std.specs.Prelude.{Some, slice_set}
use Rattle.brd_trace.specs.declared.notes.LastFault.{LastFault}
use Rattle.brd_trace.proofs.notes.Notes.keep_fault.Goals as goal

pub returns-clause-kept : goal.returns-clause-kept
returns-clause-kept c =
    let it : LastFault = record {
      position = c.args.it.position;
      who = c.args.it.told.now.who;
      place = c.args.place;
      what = c.in_ok-fault_text.field-0;
    } in
    record {
      it = it;
      position_is = refl;
      place = refl;
      who_is = refl;
      new_is = c.put_fault_at.ensures ∙ ap (λ cpu. slice_set c.args.self.now.faults.items cpu (Some it)) c.unwrap_or.ensures;
    }
